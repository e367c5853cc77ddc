-- What the answer for a link comes to: the first case that holds (docs/FORMATS.md, "Outcomes").
use Rattle.std.specs.Prelude.{ℕ, List, Bool, not, ◌||◌, ◌==◌, nat_lt, length, Option, Some, None, Result, Ok, Err, if◌then◌else◌}
use Rattle.std.specs.Str.{is_utf8}
use Rattle.rdf_terms.specs.declared.triple.Triple.{Triple}
use Rattle.link_uri.specs.declared.link.Link.{Link}
use Rattle.link_uri.specs.declared.link.Scheme.{Scheme}
use Rattle.link_uri.specs.declared.link.Scheme.TheVariants.{Http, Https}
use Rattle.link_uri.specs.declared.heard.Reply.{Reply}
use Rattle.link_uri.specs.declared.heard.Heard.{Heard}
use Rattle.link_uri.specs.declared.heard.Heard.TheVariants.{Reply as Replied, Malformed, TooLong, Never}
use Rattle.link_uri.specs.Links.{IsLink, joined_link}
use Rattle.link_uri.specs.Heard.{is_uncoded, is_turtle, is_ntriples}
use Rattle.turtle_reader.specs.declared.token_fault.Fault.{Fault}
use Rattle.turtle_reader.specs.declared.token_fault.Fault.TheVariants.{Syntax, Deep}
use Rattle.turtle_reader.specs.Reading.{turtle_reading}
use Rattle.ntriples_reader.specs.Reading.{ntriples_reading}
use Rattle.reachability.specs.declared.outcome.Outcome.{Outcome}
use Rattle.reachability.specs.declared.outcome.Outcome.TheVariants.{Document, Moved, Refused}
use Rattle.reachability.specs.declared.outcome.Why.{Why}
use Rattle.reachability.specs.declared.outcome.Why.TheVariants as why
use Rattle.reachability.specs.Web.{ToldWeb}

-- a status that redirects to a location (RFC 9110, sections 15.4.2 to 15.4.4, 15.4.8, 15.4.9)
abbrev pub is_redirect : ℕ → Bool
is_redirect status = status == 301 || (status == 302 || (status == 303 || (status == 307 || status == 308)))

-- the link of a text of bytes, read against another link; none where it is no UTF-8
abbrev pub link_behind : Link → List ℕ → Option Link
link_behind link location = if is_utf8 location then joined_link link.text location else None

-- the link that a location leads to (RFC 9110, section 10.2.2); none where the field is missing
abbrev pub location_link : Link → Option (List ℕ) → Option Link
location_link link None = None
location_link link (Some location) = link_behind link location

-- a redirect: moved to the link, or refused where there is none
abbrev pub moved_or_refused : Option Link → Outcome
moved_or_refused (Some to) = Moved to
moved_or_refused None = Refused why.Location

-- a text of N-Triples that was read: a document, or refused where it is none
abbrev pub ntriples_outcome : Result (List Triple) ℕ → Outcome
ntriples_outcome (Ok triples) = Document triples
ntriples_outcome (Err at) = Refused (why.Syntax at)

-- why a text of Turtle is none: it is not of the language, or too many of its brackets are open at once
abbrev pub fault_why : Fault → Why
fault_why (Syntax at) = why.Syntax at
fault_why (Deep at) = why.Deep at

-- a text of Turtle that was read: a document, or refused where it is none
abbrev pub turtle_outcome : Result (List Triple) Fault → Outcome
turtle_outcome (Ok triples) = Document triples
turtle_outcome (Err fault) = Refused (fault_why fault)

-- A body of a wanted type (RDF 1.1 Turtle, section 2; RDF 1.1 N-Triples, section 2). The text of the link, which has no fragment,
-- is the name of the document, and the base of Turtle at the beginning (RFC 3986, section 5.1.3).
abbrev pub text_outcome : Link → Reply → Outcome
text_outcome link reply =
    if is_turtle reply then turtle_outcome (turtle_reading link.text link.text reply.body)
    else ntriples_outcome (ntriples_reading link.text reply.body)

-- a reply with status 200
abbrev pub body_outcome : Link → Reply → ℕ → Outcome
body_outcome link reply limit =
    if not (is_uncoded reply) then Refused why.Coding
    else if not (is_turtle reply || is_ntriples reply) then Refused why.Media
    else if nat_lt limit (length reply.body) then Refused why.Length
    else text_outcome link reply

-- a reply
abbrev pub reply_outcome : Link → Reply → ℕ → Outcome
reply_outcome link reply limit =
    if is_redirect reply.status then moved_or_refused (location_link link reply.location)
    else if not (reply.status == 200) then Refused (why.Status reply.status)
    else body_outcome link reply limit

-- what is heard for an http link; nothing where no whole answer comes
abbrev pub heard_outcome : Link → Heard → ℕ → Option Outcome
heard_outcome link (Replied reply) limit = Some (reply_outcome link reply limit)
heard_outcome link Malformed limit = Some (Refused why.Head)
heard_outcome link TooLong limit = Some (Refused why.Length)
heard_outcome link Never limit = None

-- by the scheme: an https link is not looked up, whatever is heard
abbrev pub scheme_outcome : Scheme → Link → Heard → ℕ → Option Outcome
scheme_outcome Http link heard limit = heard_outcome link heard limit
scheme_outcome Https link heard limit = Some (Refused why.Scheme)

-- what is heard for a link comes to, with a limit on the bytes of a body
abbrev pub outcome : Link → Heard → ℕ → Option Outcome
outcome link heard limit = scheme_outcome link.scheme link heard limit

-- what a look-up of the link in the web comes to
abbrev pub outcome_of : ToldWeb → ℕ → Link → Option Outcome
outcome_of web limit link = outcome link (web link.text) limit

-- the link in an outcome, where it has one, is the link of its own text
abbrev pub HasLinks : Outcome → Type 0
HasLinks (Document triples) = Unit {0}
HasLinks (Moved link) = IsLink link
HasLinks (Refused why) = Unit {0}

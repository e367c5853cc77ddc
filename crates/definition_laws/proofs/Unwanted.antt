-- The outcome of a reply whose head is not wanted.
use Rattle.std.proofs.Common.{◌≡◌, ℕ, List, Bool, true, false, not, ◌&&◌, ◌||◌, refl}
use Rattle.std.specs.Prelude.{◌==◌, nat_lt, if◌then◌else◌, length}
use Rattle.link_uri.specs.declared.link.Link.{Link}
use Rattle.link_uri.specs.declared.heard.Reply.{Reply}
use Rattle.link_uri.specs.Heard.{is_uncoded, is_turtle, is_ntriples}
use Rattle.link_uri.specs.Wanted.{is_wanted}
use Rattle.reachability.specs.declared.outcome.Outcome.{Outcome}
use Rattle.reachability.specs.declared.outcome.Outcome.TheVariants.{Refused}
use Rattle.reachability.specs.declared.outcome.Why.TheVariants as why
use Rattle.doc_reader.specs.Outcome.{is_redirect, location_link, moved_or_refused, text_outcome, reply_outcome}

-- by the answers of the tests, where they are not those of a wanted head
decided : (redirect ok plain typed : Bool) (moved status : Outcome) (long long' : Bool) (text text' : Outcome) → (ok && (plain && typed)) ≡ false
    → (if redirect then moved else if not ok then status else if not plain then Refused why.Coding else if not typed then Refused why.Media else if long then Refused why.Length else text)
    ≡ (if redirect then moved else if not ok then status else if not plain then Refused why.Coding else if not typed then Refused why.Media else if long' then Refused why.Length else text')
decided true ok plain typed moved status long long' text text' e = refl
decided false false plain typed moved status long long' text text' e = refl
decided false true false typed moved status long long' text text' e = refl
decided false true true false moved status long long' text text' e = refl
decided false true true true moved status long long' text text' e = absurd (cc)

pub unwanted_same : (link : Link) (reply : Reply) (body : List ℕ) (limit : ℕ) → is_wanted reply ≡ false → reply_outcome link (record reply { body = body }) limit ≡ reply_outcome link reply limit
unwanted_same link reply body limit e =
    decided (is_redirect reply.status) (reply.status == 200) (is_uncoded reply) (is_turtle reply || is_ntriples reply) (moved_or_refused (location_link link reply.location)) (Refused (why.Status reply.status))
    (nat_lt limit (length body)) (nat_lt limit (length reply.body)) (text_outcome link (record reply { body = body })) (text_outcome link reply) e

-- What a client reads of the response to its request for a link (RFC 9112, sections 3 and 6.3).
use Rattle.std.specs.Prelude.{◌≡◌, ℕ, List, [], ◌∷◌, ◌++◌, length, codes, bytes_eq, Bool, true, nat_lt, unwrap_or, if◌then◌else◌}
use Rattle.std.specs.Map.{lookup}
use Rattle.std.specs.List.{list_all}
use Rattle.httparse.specs.Grammar.{Field, RequestHead, crlf}
use Rattle.link_uri.specs.declared.link.Link.{Link}
use Rattle.link_uri.specs.declared.link.Scheme.TheVariants.{Http}
use Rattle.link_uri.specs.declared.heard.Reply.{Reply}
use Rattle.link_uri.specs.declared.heard.Heard.{Heard}
use Rattle.link_uri.specs.declared.heard.Heard.TheVariants as heard
use Rattle.link_uri.specs.Links.{IsLink}
use Rattle.link_uri.specs.Wanted.{is_wanted}
use Rattle.http_message.specs.Request.{target_of, port_of}
use Rattle.site_core.specs.Fields.{is_visible}
use Rattle.site_core.specs.Lines.{bare}
use Rattle.site_core.specs.Text.{Entry}

-- ---- the request

-- a field line with a space before the value
abbrev pub field : List ℕ → List ℕ → Field
field name value = record { name = name; raw = 32 ∷ value; end = crlf }

abbrev pub request_fields : List ℕ → List Field
request_fields host =
    field (codes "Host") host
    ∷ field (codes "Accept") (codes "text/turtle, application/n-triples;q=0.9")
    ∷ field (codes "Accept-Encoding") (codes "identity")
    ∷ field (codes "Connection") (codes "close")
    ∷ []

-- the head of a request for a target of a host
abbrev pub head_for : List ℕ → List ℕ → RequestHead
head_for target host = record {
  blank = [];
  method = codes "GET";
  target = target;
  minor = 1;
  line_end = crlf;
  fields = request_fields host;
  last = crlf;
}

-- the head that the request for a link is
abbrev pub request_head : Link → Bool → RequestHead
request_head link via = head_for (target_of link via) (link.host ++ port_of link)

-- a link of the scheme http whose text is visible ASCII, as a serialized URL is (URL Standard, section 4.5)
pub record IsAskable (link : Link) : Type 0 where
  pub is_link : IsLink link
  pub http : link.scheme ≡ Http
  pub visible : list_all is_visible link.text ≡ true

-- ---- what is heard

-- the reply of the site for a link, and 404 where it has none
abbrev pub reply_for : List Entry → Link → Reply
reply_for site link = unwrap_or (lookup (bytes_eq link.text) site) (bare 404)

-- what is heard of a reply under a limit of its body, which is read only where the reply is wanted
abbrev pub heard_of : ℕ → Reply → Heard
heard_of limit reply =
    if is_wanted reply then (if nat_lt limit (length reply.body) then heard.TooLong else heard.Reply reply)
    else heard.Reply (record reply { body = [] })

-- How a site answers a request (RFC 9112, sections 2 to 4, 6.3 and 9.6; RFC 9110, sections 7.2, 9.3.1, 10.2.1 and 15).
use Rattle.std.specs.Prelude.{◌≡◌, ◌≤◌, ℕ, List, [], ◌∷◌, ◌++◌, length, map, take, Bool, decimal, codes, bytes_eq, Option, Some, None, option_and_then, if◌then◌else◌}
use Rattle.std.specs.Map.{lookup}
use Rattle.std.specs.Str.{is_utf8}
use Rattle.httparse.specs.Grammar.{RequestHead, ReadsRequest}
use Rattle.httparse.specs.Spans.{name_and_value}
use Rattle.link_uri.specs.declared.heard.Reply.{Reply}
use Rattle.link_uri.specs.declared.link.Link.{Link}
use Rattle.link_uri.specs.Heard.{is_name}
use Rattle.link_uri.specs.Links.{link_of}
use Rattle.site_core.specs.Text.{Entry}

-- ---- what a request asks for

-- the most fields of a request's head
abbrev pub max_fields : ℕ
max_fields = 64

-- the bytes begin with this head, or with no head of so few fields; what follows a head doesn't count
abbrev pub BeginsWith : List ℕ → Option RequestHead → Type 0
BeginsWith request None = (h : RequestHead) (rest : List ℕ) → ReadsRequest request h rest → length h.fields ≤ max_fields → ⊥
BeginsWith request (Some h) = (rest : List ℕ) × ReadsRequest request h rest × (length h.fields ≤ max_fields)

-- the values of the Host fields among some names and values; a name may be in any case (RFC 9110, sections 5.1 and 7.2)
abbrev pub hosts : List (List ℕ × List ℕ) → List (List ℕ)
hosts [] = []
hosts (field ∷ fields) = if is_name (codes "Host") field.0 then field.1 ∷ hosts fields else hosts fields

-- the value of the one field, where there is no other
abbrev pub only : List (List ℕ) → Option (List ℕ)
only [] = None
only (value ∷ []) = Some value
only (value ∷ other ∷ values) = None

abbrev pub begins_with : List ℕ → List ℕ → Bool
begins_with front text = bytes_eq (take (length front) text) front

-- the text of what is asked for: a target in absolute form, or one in origin form behind the host (RFC 9112, sections 3.2.1, 3.2.2 and 3.3)
abbrev pub asked_text : List ℕ → List ℕ → Option (List ℕ)
asked_text target host =
    if begins_with (codes "http://") target then Some target
    else (if begins_with (codes "/") target then Some (codes "http://" ++ (host ++ target)) else None)

-- the link of some bytes, which have none where they are no UTF-8
abbrev pub link_of_bytes : List ℕ → Option Link
link_of_bytes bytes = if is_utf8 bytes then link_of bytes else None

abbrev pub asked_link : List ℕ → List ℕ → Option Link
asked_link target host = option_and_then link_of_bytes (asked_text target host)

-- ---- the text of a response

-- a line with its end
abbrev pub crlf_line : List ℕ → List ℕ
crlf_line text = text ++ codes "\r\n"

-- the status line, with no reason phrase (RFC 9112, section 4)
unfoldable pub status_line : ℕ → List ℕ
status_line status = crlf_line (codes "HTTP/1.1 " ++ (decimal status ++ codes " "))

abbrev pub field_line : List ℕ → List ℕ → List ℕ
field_line name value = crlf_line (name ++ (codes ": " ++ value))

-- the line of a field, where it has a value
unfoldable pub line_of_field : List ℕ → Option (List ℕ) → List ℕ
line_of_field name None = []
line_of_field name (Some value) = field_line name value

-- the last fields of each head, with the number of bytes of the body, and the empty line
unfoldable pub last_lines : ℕ → List ℕ
last_lines size = field_line (codes "Content-Length") (decimal size) ++ (field_line (codes "Connection") (codes "close") ++ crlf_line [])

-- the lines of the fields of a reply
unfoldable pub reply_fields : Reply → List ℕ
reply_fields reply =
    line_of_field (codes "Content-Type") reply.media
    ++ (line_of_field (codes "Content-Encoding") reply.coding ++ line_of_field (codes "Location") reply.location)

-- the head of a reply
abbrev pub reply_head : Reply → List ℕ
reply_head reply = status_line reply.status ++ (reply_fields reply ++ last_lines (length reply.body))

abbrev pub reply_text : Reply → List ℕ
reply_text reply = reply_head reply ++ reply.body

-- a response with no body
abbrev pub refusal : ℕ → List ℕ
refusal status = status_line status ++ last_lines 0

-- the refusal of a method (RFC 9110, sections 10.2.1 and 15.5.6)
abbrev pub method_refusal : List ℕ
method_refusal = status_line 405 ++ (field_line (codes "Allow") (codes "GET") ++ last_lines 0)

-- ---- the response to a request

-- the reply, and 404 where there is none
abbrev pub found : Option Reply → List ℕ
found None = refusal 404
found (Some reply) = reply_text reply

-- the answer for a link, and 400 where there is none
abbrev pub answer_for : List Entry → Option Link → List ℕ
answer_for site None = refusal 400
answer_for site (Some link) = found (lookup (bytes_eq link.text) site)

-- the answer to a method and a target, where the host is known; 400 where it isn't, before the method is judged
abbrev pub answer_to : List Entry → List ℕ → List ℕ → Option (List ℕ) → List ℕ
answer_to site method target None = refusal 400
answer_to site method target (Some host) =
    if bytes_eq method (codes "GET") then answer_for site (asked_link target host) else method_refusal

-- the response to a request that begins with this head, and 400 where it has no whole head
abbrev pub served : List Entry → Option RequestHead → List ℕ
served site None = refusal 400
served site (Some h) = answer_to site h.method h.target (only (hosts (map name_and_value h.fields)))

-- the bytes are the response of the site to the request
pub record IsServed (site : List Entry) (request : List ℕ) (response : List ℕ) : Type 0 where
  pub head : Option RequestHead
  pub begins : BeginsWith request head
  pub text : response ≡ served site head

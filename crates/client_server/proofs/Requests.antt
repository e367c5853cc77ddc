-- The request for a link is the head that it spells, and asks a site for the link.
use Rattle.std.proofs.Common.{◌≡◌, ℕ, zero, suc, ◌<◌, Bool, true, false, IsTrue, List, [], ◌∷◌, ◌++◌, length, get_or, take, map, All, Some, refl, sym, ap, ◌∙◌, arith, append_assoc, append-nil}
use Rattle.std.specs.Prelude.{codes, IsAscii, IsUtf8}
use Rattle.std.specs.List.{list_all}
use Rattle.std.proofs.lemmas.Bool.{and_parts}
use Rattle.std.proofs.lemmas.Bool.Decides.{nat_tests}
use Rattle.std.proofs.lemmas.List.Elements.{All-cons, All-nil}
use Rattle.std.proofs.lemmas.List.Folds.{list_all-append}
use Rattle.std.proofs.lemmas.Str.{IsUtf8-from_ascii}
use Rattle.httparse.specs.Grammar.{IsField, IsToken, IsRequestHead, ReadsRequest, print_request, is_token_byte, is_uri_byte, is_value_byte}
use Rattle.httparse.specs.Spans.{name_and_value}
use Rattle.link_uri.specs.declared.link.Link.{Link}
use Rattle.link_uri.specs.Links.{spelled}
use Rattle.http_message.specs.Request as request
use Rattle.http_message.specs.Request.{request_text, target_of, port_of}
use Rattle.site_core.specs.Fields.{is_visible}
use Rattle.site_core.specs.Serving.{hosts, only, asked_text, asked_link}
use Rattle.site_core.proofs.LinksOfBytes.{link_of_text}
use Rattle.client_server.specs.Agreement.{IsAskable, field, request_fields, head_for, request_head}
use Rattle.client_server.proofs.Values.{field_value_is, bare_from, visible_none}

-- ---- the text

text_for : (target host : List ℕ) → print_request (head_for target host) ≡ (codes "GET " ++ (target ++ codes " HTTP/1.1\r\n")) ++ ((codes "Host: " ++ host) ++ request.wishes_text)
unfolding print_request request.wishes_text
text_for target host =
    let end = codes "\r\n" in
    let others = codes "Accept: text/turtle, application/n-triples;q=0.9\r\nAccept-Encoding: identity\r\nConnection: close\r\n" in
    let line = append_assoc target (codes " HTTP/1.1") end in
    let field_line = append_assoc (host ++ end) others end ∙ append_assoc host end (others ++ end) in
    ap (λ ys. codes "GET " ++ (ys ++ (codes "Host: " ++ (((host ++ end) ++ others) ++ end)))) line
    ∙ ap (λ ys. codes "GET " ++ ((target ++ codes " HTTP/1.1\r\n") ++ (codes "Host: " ++ ys))) field_line

pub text_is : (link : Link) (via : Bool) → print_request (request_head link via) ≡ request_text link via
unfolding request.line_text request.host_text
text_is link via = text_for (target_of link via) (link.host ++ port_of link)

-- ---- its parts

-- what the link's text is put together from
abbrev authority : Link → List ℕ
authority link = link.host ++ port_of link

pub parts_of : (link : Link) → IsAskable link → link.text ≡ codes "http://" ++ (authority link ++ link.target)
parts_of link is =
    let text = is.is_link.text in
    text ∙ ap (λ s. spelled (record link { scheme = s })) is.http ∙ simp append_assoc refl

-- the bytes of the host and the port, and those of the target
record AreVisible (link : Link) : Type 0 where
  host : list_all is_visible (authority link) ≡ true
  target : list_all is_visible link.target ≡ true

visible_parts : (link : Link) → IsAskable link → AreVisible link
visible_parts link is =
    let whole : list_all is_visible (codes "http://" ++ (authority link ++ link.target)) ≡ true = ap (list_all is_visible) (sym (parts_of link is)) ∙ is.visible in
    let rest = (and_parts (list_all is_visible (codes "http://")) (list_all is_visible (authority link ++ link.target)) (sym (list_all-append is_visible (codes "http://") (authority link ++ link.target)) ∙ whole)).1 in
    let two = and_parts (list_all is_visible (authority link)) (list_all is_visible link.target) (sym (list_all-append is_visible (authority link) link.target) ∙ rest) in
    record { host = two.0; target = two.1 }

visible_target : (link : Link) (via : Bool) → IsAskable link → list_all is_visible (target_of link via) ≡ true
visible_target link true is = is.visible
visible_target link false is = (visible_parts link is).target

-- a target in origin form begins with a slash
rooted : (target : List ℕ) → take 1 target ≡ codes "/" → (rest : List ℕ) × (target ≡ 47 ∷ rest)
rooted [] e = absurd cc
rooted (b ∷ bs) e = (bs, let same : b ≡ 47 = cc in rw same refl)

some_target : (link : Link) (via : Bool) → IsAskable link → 0 < length (target_of link via)
some_target link true is = omega (arith, ap length (parts_of link is))
some_target link false is = let r = rooted link.target is.is_link.rooted in omega (arith, ap length r.1)

-- ---- the grammar

pub passes : (test kept : ℕ → Bool) (v : List ℕ) → ((b : ℕ) → test b ≡ true → kept b ≡ true) → list_all test v ≡ true → All (λ b. IsTrue (kept b)) v
passes test kept [] to all = All-nil (λ b. IsTrue (kept b))
passes test kept (b ∷ bs) to all =
    let parts = and_parts (test b) (list_all test bs) all in
    All-cons (λ c. IsTrue (kept c)) b bs (to b parts.0) (passes test kept bs to parts.1)

pub literal : (test : ℕ → Bool) (v : List ℕ) → list_all test v ≡ true → All (λ b. IsTrue (test b)) v
literal test v all = passes test test v (λ b e. e) all

uri_byte : (b : ℕ) → is_visible b ≡ true → is_uri_byte b ≡ true
uri_byte b e = grind (arith, nat_tests)

value_byte : (b : ℕ) → is_visible b ≡ true → is_value_byte b ≡ true
value_byte b e = grind (arith, nat_tests)

below : (b : ℕ) → is_visible b ≡ true → b < 128
below b e = grind (arith, nat_tests)

visible_ascii : (v : List ℕ) → list_all is_visible v ≡ true → IsAscii v
visible_ascii [] all i = omega arith
visible_ascii (b ∷ bs) all i =
    let parts = and_parts (is_visible b) (list_all is_visible bs) all in
    elim i as (λ k. get_or (b ∷ bs) k 0 < 128) [ zero ↦ below b parts.0 | suc k ↦ visible_ascii bs parts.1 k ]

visible_text : (v : List ℕ) → list_all is_visible v ≡ true → IsUtf8 v
visible_text v all = IsUtf8-from_ascii v (visible_ascii v all)

pub literal_field : (name value : List ℕ) → 0 < length name → list_all is_token_byte name ≡ true → list_all is_value_byte value ≡ true → IsField (field name value)
literal_field name value some token text = record {
  name = (some, literal is_token_byte name token);
  raw = All-cons (λ b. IsTrue (is_value_byte b)) 32 value refl (literal is_value_byte value text);
}

host_field : (value : List ℕ) → list_all is_visible value ≡ true → IsField (field (codes "Host") value)
unfolding is_token_byte
host_field value all = record {
  name = (omega arith, literal is_token_byte (codes "Host") refl);
  raw = All-cons (λ b. IsTrue (is_value_byte b)) 32 value refl (passes is_visible is_value_byte value value_byte all);
}

fields_are : (host : List ℕ) → list_all is_visible host ≡ true → All IsField (request_fields host)
unfolding is_token_byte
fields_are host all =
    let accept = field (codes "Accept") (codes "text/turtle, application/n-triples;q=0.9") in
    let coding = field (codes "Accept-Encoding") (codes "identity") in
    let connection = field (codes "Connection") (codes "close") in
    let fourth : All IsField (connection ∷ []) = All-cons IsField connection [] (literal_field (codes "Connection") (codes "close") (omega arith) refl refl) (All-nil IsField) in
    let third : All IsField (coding ∷ connection ∷ []) = All-cons IsField coding (connection ∷ []) (literal_field (codes "Accept-Encoding") (codes "identity") (omega arith) refl refl) fourth in
    let second : All IsField (accept ∷ coding ∷ connection ∷ []) = All-cons IsField accept (coding ∷ connection ∷ []) (literal_field (codes "Accept") (codes "text/turtle, application/n-triples;q=0.9") (omega arith) refl refl) third in
    All-cons IsField (field (codes "Host") host) (accept ∷ coding ∷ connection ∷ []) (host_field host all) second

get_token : IsToken (codes "GET")
unfolding is_token_byte
get_token = (omega arith, literal is_token_byte (codes "GET") refl)

head_is : (link : Link) (via : Bool) → IsAskable link → IsRequestHead (request_head link via)
head_is link via is =
    let visible = visible_target link via is in
    record {
      method = get_token;
      target = (some_target link via is, passes is_visible is_uri_byte (target_of link via) uri_byte visible);
      target_text = visible_text (target_of link via) visible;
      minor = omega arith;
      fields = fields_are (authority link) (visible_parts link is).host;
    }

pub reads_request : (link : Link) (via : Bool) → IsAskable link → ReadsRequest (request_text link via) (request_head link via) []
reads_request link via is = (head_is link via is, sym (append-nil (print_request (request_head link via)) ∙ text_is link via))

-- ---- what is asked for

pub host_is : (link : Link) → IsAskable link → only (hosts (map name_and_value (request_fields (authority link)))) ≡ Some (authority link)
host_is link is = ap Some (field_value_is (authority link) (bare_from is_visible (authority link) visible_none (visible_parts link is).host))

absolute : (text rest host : List ℕ) → text ≡ codes "http://" ++ rest → asked_text text host ≡ Some text
absolute text rest host e = rw e refl

origin : (target rest host : List ℕ) → target ≡ 47 ∷ rest → asked_text target host ≡ Some (codes "http://" ++ (host ++ target))
origin target rest host e = rw e refl

asked_is : (link : Link) (via : Bool) → IsAskable link → asked_text (target_of link via) (authority link) ≡ Some link.text
asked_is link true is = absolute link.text (authority link ++ link.target) (authority link) (parts_of link is)
asked_is link false is =
    let r = rooted link.target is.is_link.rooted in
    origin link.target r.0 (authority link) r.1 ∙ ap Some (sym (parts_of link is))

pub link_is : (link : Link) (via : Bool) → IsAskable link → asked_link (target_of link via) (authority link) ≡ Some link
link_is link via is = rw (asked_is link via is) (link_of_text link.text (visible_text link.text is.visible) ∙ is.is_link.valid_link)

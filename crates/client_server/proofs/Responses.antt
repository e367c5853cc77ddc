-- The head of a response is a printed head, which says what the reply says.
use Rattle.std.proofs.Common.{◌≡◌, ℕ, ◌<◌, ◌≤◌, ◌^◌, Bool, true, false, IsTrue, List, [], ◌∷◌, ◌++◌, length, map, All, Option, Some, None, refl, sym, ap, ◌∙◌, arith, append_assoc, append-nil, length-append}
use Rattle.std.specs.Prelude.{codes, decimal, ◌==◌, ◌&&◌, not, nat_le, flat_map, option_map}
use Rattle.std.specs.List.{list_all}
use Rattle.std.specs.Char.{is_ascii_digit}
use Rattle.std.proofs.lemmas.Bool.{and_parts}
use Rattle.std.proofs.lemmas.Bool.Decides.{nat_tests}
use Rattle.std.proofs.lemmas.Fmt.{decimal_is_IsNumeral}
use Rattle.std.proofs.lemmas.List.Concat.{flat_map-append}
use Rattle.std.proofs.lemmas.List.Elements.{All-append, All-cons, All-nil}
use Rattle.std.proofs.lemmas.List.{map-append}
use Rattle.http_header.specs.FieldValue.{FieldValue, plain_value}
use Rattle.http_header.specs.HeaderMap.{append_all}
use Rattle.http_header.specs.Token.{lowercase}
use Rattle.httparse.specs.Grammar as grammar
use Rattle.httparse.specs.Grammar.{Field, IsField, ResponseHead, IsResponseHead, ReadsResponse, print_response, print_field, crlf, is_token_byte, is_value_byte, status_code}
use Rattle.httparse.specs.Spans.{name_and_value}
use Rattle.link_uri.specs.declared.heard.Reply.{Reply}
use Rattle.http_message.specs.declared.framing.Framing.TheVariants.{Sized}
use Rattle.http_message.specs.Heads.{IsHead, stored}
use Rattle.http_message.specs.Lengths.{trimmed, length_of}
use Rattle.http_message.specs.Facts as facts
use Rattle.http_message.specs.Facts.{facts_of, facts_from, is_interim, sized_framing}
use Rattle.site_core.specs.Fields.{is_value, is_printable, is_status, is_digit}
use Rattle.site_core.specs.Text.{may_be_value, is_reply}
use Rattle.site_core.specs.Serving as serving
use Rattle.site_core.specs.Serving.{reply_head, line_of_field}
use Rattle.site_core.proofs.Numbers.{digits-decimal}
use Rattle.client_server.specs.Agreement.{field}
use Rattle.client_server.proofs.Values.{field_value_is, trimmed_is, value_bare}
use Rattle.client_server.proofs.Numbers.{stated, decimal_bare, three_digits}
use Rattle.client_server.proofs.Requests.{passes, literal}

-- ---- the head as a tree

abbrev field_if : List ℕ → Option (List ℕ) → List Field
field_if name None = []
field_if name (Some value) = field name value ∷ []

abbrev last_fields : ℕ → List Field
last_fields size = field (codes "Content-Length") (decimal size) ∷ field (codes "Connection") (codes "close") ∷ []

abbrev fields_before : Reply → List Field
fields_before reply = field_if (codes "Content-Type") reply.media ++ (field_if (codes "Content-Encoding") reply.coding ++ field_if (codes "Location") reply.location)

abbrev pub response_head : Reply → ResponseHead
response_head reply = record {
  blank = [];
  minor = 1;
  digits = decimal reply.status;
  reason = Some [];
  line_end = crlf;
  fields = fields_before reply ++ last_fields (length reply.body);
  last = crlf;
}

line_is : (name : List ℕ) (value : Option (List ℕ)) → flat_map print_field (field_if name value) ≡ line_of_field name value
unfolding line_of_field
line_is name None = refl
line_is name (Some value) = simp (append_assoc, append-nil) refl

lines_are : (reply : Reply) → flat_map print_field (fields_before reply) ≡ serving.reply_fields reply
unfolding serving.reply_fields
lines_are reply =
    let media = field_if (codes "Content-Type") reply.media in
    let coding = field_if (codes "Content-Encoding") reply.coding in
    let location = field_if (codes "Location") reply.location in
    rw (flat_map-append print_field media (coding ++ location), flat_map-append print_field coding location, line_is (codes "Content-Type") reply.media, line_is (codes "Content-Encoding") reply.coding, line_is (codes "Location") reply.location) refl

last_is : (size : ℕ) → flat_map print_field (last_fields size) ++ codes "\r\n" ≡ serving.last_lines size
unfolding serving.last_lines
last_is size = ap (λ ys. codes "Content-Length: " ++ ys) (append_assoc (decimal size ++ codes "\r\n") (codes "Connection: close\r\n") (codes "\r\n"))

section_is : (reply : Reply) → flat_map print_field (fields_before reply ++ last_fields (length reply.body)) ++ codes "\r\n" ≡ serving.reply_fields reply ++ serving.last_lines (length reply.body)
section_is reply =
    let last = last_fields (length reply.body) in
    let end = codes "\r\n" in
    ap (λ ys. ys ++ end) (flat_map-append print_field (fields_before reply) last ∙ ap (λ ys. ys ++ flat_map print_field last) (lines_are reply))
    ∙ append_assoc (serving.reply_fields reply) (flat_map print_field last) end
    ∙ ap (λ ys. serving.reply_fields reply ++ ys) (last_is (length reply.body))

pub head_text_is : (reply : Reply) → print_response (response_head reply) ≡ reply_head reply
unfolding print_response serving.status_line
head_text_is reply = ap (λ ys. serving.status_line reply.status ++ ys) (section_is reply)

-- ---- it is a head

status_range : (status : ℕ) → is_status status ≡ true → (200 ≤ status) × (status ≤ 599)
status_range status e = grind (arith, nat_tests)

-- a status that a site may have, or 404
pub record IsSent (reply : Reply) : Type 0 where
  pub valid : is_reply reply ≡ true
  pub small : length reply.body < 2 ^ 64

record HasParts (reply : Reply) : Type 0 where
  status : is_status reply.status ≡ true
  media : may_be_value reply.media ≡ true
  coding : may_be_value reply.coding ≡ true
  location : may_be_value reply.location ≡ true

parts_of : (reply : Reply) → is_reply reply ≡ true → HasParts reply
parts_of reply e =
    let first = and_parts (is_status reply.status) (may_be_value reply.media && (may_be_value reply.coding && may_be_value reply.location)) e in
    let second = and_parts (may_be_value reply.media) (may_be_value reply.coding && may_be_value reply.location) first.1 in
    let third = and_parts (may_be_value reply.coding) (may_be_value reply.location) second.1 in
    record { status = first.0; media = second.0; coding = third.0; location = third.1 }

printable : (b : ℕ) → is_printable b ≡ true → is_value_byte b ≡ true
printable b e = grind (arith, nat_tests)

digit_value_byte : (b : ℕ) → is_digit b ≡ true → is_value_byte b ≡ true
digit_value_byte b e = grind (arith, nat_tests)

ascii_digit : (b : ℕ) → is_digit b ≡ true → is_ascii_digit b ≡ true
ascii_digit b e = grind (arith, nat_tests)

value_field : (test : ℕ → Bool) (name value : List ℕ) → ((b : ℕ) → test b ≡ true → is_value_byte b ≡ true) → grammar.IsToken name → list_all test value ≡ true → IsField (field name value)
value_field test name value to token all = record {
  name = token;
  raw = All-cons (λ b. IsTrue (is_value_byte b)) 32 value refl (passes test is_value_byte value to all);
}

value_printable : (v : List ℕ) → is_value v ≡ true → list_all is_printable v ≡ true
value_printable v is = (and_parts (list_all is_printable v) _ (and_parts (not (length v == 0)) _ is).1).0

field_if_is : (name : List ℕ) (value : Option (List ℕ)) → grammar.IsToken name → may_be_value value ≡ true → All IsField (field_if name value)
field_if_is name None token e = All-nil IsField
field_if_is name (Some value) token e = All-cons IsField (field name value) [] (value_field is_printable name value printable token (value_printable value e)) (All-nil IsField)

record AreTokens : Type 0 where
  media : grammar.IsToken (codes "Content-Type")
  coding : grammar.IsToken (codes "Content-Encoding")
  location : grammar.IsToken (codes "Location")
  size : grammar.IsToken (codes "Content-Length")
  connection : grammar.IsToken (codes "Connection")

tokens : AreTokens
unfolding is_token_byte
tokens = record {
  media = (omega arith, literal is_token_byte (codes "Content-Type") refl);
  coding = (omega arith, literal is_token_byte (codes "Content-Encoding") refl);
  location = (omega arith, literal is_token_byte (codes "Location") refl);
  size = (omega arith, literal is_token_byte (codes "Content-Length") refl);
  connection = (omega arith, literal is_token_byte (codes "Connection") refl);
}

fields_are : (reply : Reply) → HasParts reply → length reply.body < 2 ^ 64 → All IsField ((response_head reply).fields)
fields_are reply has small =
    let media = field_if_is (codes "Content-Type") reply.media tokens.media has.media in
    let coding = field_if_is (codes "Content-Encoding") reply.coding tokens.coding has.coding in
    let location = field_if_is (codes "Location") reply.location tokens.location has.location in
    let size = value_field is_digit (codes "Content-Length") (decimal (length reply.body)) digit_value_byte tokens.size (digits-decimal (length reply.body) small) in
    let connection = value_field is_value_byte (codes "Connection") (codes "close") (λ b e. e) tokens.connection refl in
    let first = field_if (codes "Content-Type") reply.media in
    let second = field_if (codes "Content-Encoding") reply.coding in
    let third = field_if (codes "Location") reply.location in
    let before = All-append IsField first (second ++ third) media (All-append IsField second third coding location) in
    let length_field = field (codes "Content-Length") (decimal (length reply.body)) in
    let close = field (codes "Connection") (codes "close") in
    let last : All IsField (last_fields (length reply.body)) = All-cons IsField length_field (close ∷ []) size (All-cons IsField close [] connection (All-nil IsField)) in
    All-append IsField (fields_before reply) (last_fields (length reply.body)) before last

head_is : (reply : Reply) → IsSent reply → IsResponseHead (response_head reply)
head_is reply is =
    let has = parts_of reply is.valid in
    let range = status_range reply.status has.status in
    record {
      minor = omega arith;
      digits = (three_digits reply.status (omega (arith, range.0)) (omega (arith, range.1)), passes is_digit is_ascii_digit (decimal reply.status) ascii_digit (digits-decimal reply.status (omega (arith, range.1))));
      reason = All-nil (λ b. IsTrue (is_value_byte b));
      fields = fields_are reply has is.small;
    }

one_at_most : (name : List ℕ) (value : Option (List ℕ)) → length (field_if name value) ≤ 1
one_at_most name None = omega arith
one_at_most name (Some value) = omega arith

few_fields : (reply : Reply) → length ((response_head reply).fields) ≤ 128
few_fields reply =
    let media = field_if (codes "Content-Type") reply.media in
    let coding = field_if (codes "Content-Encoding") reply.coding in
    let location = field_if (codes "Location") reply.location in
    omega (
      arith,
      one_at_most (codes "Content-Type") reply.media,
      one_at_most (codes "Content-Encoding") reply.coding,
      one_at_most (codes "Location") reply.location,
      length-append media (coding ++ location),
      length-append coding location,
      length-append (fields_before reply) (last_fields (length reply.body)),
    )

pub is_head : (reply : Reply) → IsSent reply → IsHead (print_response (response_head reply)) (response_head reply)
is_head reply is = record { reads = (head_is reply is, sym (append-nil (print_response (response_head reply)))); fits = few_fields reply }

status_is : (reply : Reply) → IsSent reply → status_code (response_head reply) ≡ reply.status
status_is reply is =
    let range = status_range reply.status (parts_of reply is.valid).status in
    (decimal_is_IsNumeral reply.status (omega (arith, range.1))).1

pub is_final : (reply : Reply) → IsSent reply → is_interim (response_head reply) ≡ false
unfolding is_interim
is_final reply is =
    let range = status_range reply.status (parts_of reply is.valid).status in
    let low = range.0 in
    let late : (nat_le 100 reply.status && nat_le reply.status 199) ≡ false = grind (arith, nat_tests) in
    ap facts.is_interim_status (status_is reply is) ∙ late

-- ---- what it says

abbrev kept_if : List ℕ → Option (List ℕ) → List (List ℕ × FieldValue)
kept_if name None = []
kept_if name (Some value) = (lowercase name, plain_value value) ∷ []

abbrev kept_last : List ℕ → List (List ℕ × FieldValue)
kept_last size = (lowercase (codes "Content-Length"), plain_value size) ∷ (lowercase (codes "Connection"), plain_value (codes "close")) ∷ []

abbrev kept : Option (List ℕ) → Option (List ℕ) → Option (List ℕ) → List ℕ → List (List ℕ × FieldValue)
kept media coding location size = (kept_if (codes "Content-Type") media ++ (kept_if (codes "Content-Encoding") coding ++ kept_if (codes "Location") location)) ++ kept_last size

stored_if : (name : List ℕ) (value : Option (List ℕ)) → may_be_value value ≡ true → map stored (map name_and_value (field_if name value)) ≡ kept_if name value
stored_if name None e = refl
stored_if name (Some value) e = rw (field_value_is value (value_bare value e)) refl

stored_last : (size : ℕ) → size < 2 ^ 64 → map stored (map name_and_value (last_fields size)) ≡ kept_last (decimal size)
unfolding grammar.trim_ows
stored_last size small = ap kept_last (field_value_is (decimal size) (decimal_bare size small))

stored_are : (reply : Reply) → IsSent reply → map stored (map name_and_value ((response_head reply).fields)) ≡ kept reply.media reply.coding reply.location (decimal (length reply.body))
stored_are reply is =
    let has = parts_of reply is.valid in
    simp map-append (rw (stored_if (codes "Content-Type") reply.media has.media, stored_if (codes "Content-Encoding") reply.coding has.coding, stored_if (codes "Location") reply.location has.location, stored_last (length reply.body) is.small) refl)

says : (status : ℕ) (media coding location : Option (List ℕ)) (size : List ℕ) → facts_from status (append_all [] (kept media coding location size))
    ≡ record { reply = record { status = status; media = media; coding = option_map trimmed coding; location = location; body = [] }; framing = sized_framing (length_of (plain_value size ∷ [])) }
says status None None None size = refl
says status None None (Some l) size = refl
says status None (Some c) None size = refl
says status None (Some c) (Some l) size = refl
says status (Some m) None None size = refl
says status (Some m) None (Some l) size = refl
says status (Some m) (Some c) None size = refl
says status (Some m) (Some c) (Some l) size = refl

coding_is : (coding : Option (List ℕ)) → may_be_value coding ≡ true → option_map trimmed coding ≡ coding
coding_is None e = refl
coding_is (Some c) e = ap Some (trimmed_is c (value_bare c e))

-- the reply without its body, which has its number of bytes
pub facts_are : (reply : Reply) → IsSent reply → facts_of (response_head reply) ≡ record { reply = record reply { body = [] }; framing = Sized (length reply.body) }
unfolding facts_of
facts_are reply is =
    let has = parts_of reply is.valid in
    rw (status_is reply is, stored_are reply is) (says reply.status reply.media reply.coding reply.location (decimal (length reply.body))
    ∙ rw (coding_is reply.coding has.coding, stated (length reply.body) is.small) refl)

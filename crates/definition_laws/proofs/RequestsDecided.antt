-- Whether bytes begin with a request head is decided, so each request has a response.
use Rattle.std.proofs.Common.{◌≡◌, ℕ, true, false, List, length, refl, ap, subst, arith, inl, inr, ⊎_elim, Option, Some, None}
use Rattle.std.specs.Prelude.{◌⊎◌}
use Rattle.std.specs.Str.{IsUtf8, is_utf8}
use Rattle.std.proofs.lemmas.Str.{IsUtf8-from_is_utf8, is_utf8-from_IsUtf8}
use Rattle.httparse.specs.Grammar.{RequestHead, ReadsRequest, is_token_byte, is_uri_byte}
use Rattle.httparse.specs.Pieces.{Then, Newline, Blank, Word, Method, Target, Version, Section, RequestStart}
use Rattle.httparse.proofs.PieceLemmas.{Word_deterministic, Blank_deterministic, Method_deterministic, Target_deterministic, Version_deterministic, RequestStart_deterministic}
use Rattle.httparse.proofs.GrammarLemmas.{request_head, request_tree, request_pieces, request_from_pieces, request_unique}
use Rattle.http_message.proofs.HeadsDecided.{Decided, then_decided, newline_decided, version_decided, blank_decided, word_decided, section_decided, few}
use Rattle.site_core.specs.Text.{Entry}
use Rattle.site_core.specs.Serving.{BeginsWith, IsServed, max_fields, served}

-- a word is a target where it is UTF-8
text_or_not : (text : List ℕ) (word rest : List ℕ) → Word is_uri_byte 32 word text rest → Decided Target text
text_or_not text word rest is =
    elim (is_utf8 word) as (λ t. is_utf8 word ≡ t → Decided Target text) [
      | true ↦ λ e. inl (word, rest, (is, IsUtf8-from_is_utf8 word e))
      | false ↦ λ e. inr (λ z.
          let same : z.0 ≡ word = ((Word_deterministic is_uri_byte 32 refl).unique z.0 word text z.1 rest z.2.0 is).0 in
          let yes : is_utf8 word ≡ true = is_utf8-from_IsUtf8 word (subst IsUtf8 same z.2.1) in
          absurd cc)
    ] refl

target_decided : (text : List ℕ) → Decided Target text
target_decided text =
    ⊎_elim (λ x. text_or_not text x.0 x.1 x.2) (λ none. inr (λ z. none (z.0, z.1, z.2.0))) (word_decided is_uri_byte 32 text)

start_decided : (text : List ℕ) → Decided RequestStart text
start_decided =
    then_decided Blank (Then Method (Then Target (Then Version Newline))) Blank_deterministic blank_decided
    (then_decided Method (Then Target (Then Version Newline)) Method_deterministic (word_decided is_token_byte 32)
    (then_decided Target (Then Version Newline) Target_deterministic target_decided
    (then_decided Version Newline Version_deterministic version_decided newline_decided)))

abbrev BeginsRequest : List ℕ → Type 0
BeginsRequest text = (h : RequestHead) × (rest : List ℕ) × ReadsRequest text h rest

request_decided : (text : List ℕ) → BeginsRequest text ⊎ (BeginsRequest text → ⊥)
request_decided text =
    ⊎_elim
    (λ x. inl (request_head x.0, x.1, request_from_pieces text x.0 x.1 x.2))
    (λ none. inr (λ z. none (request_tree z.0, z.1, request_pieces text z.0 z.1 z.2)))
    (then_decided RequestStart Section RequestStart_deterministic start_decided section_decided text)

abbrev Begun : List ℕ → Type 0
Begun request = (head : Option RequestHead) × BeginsWith request head

-- a head counts where it has few fields
few_or_not : (request : List ℕ) (h : RequestHead) (rest : List ℕ) → ReadsRequest request h rest → Begun request
few_or_not request h rest reads =
    ⊎_elim
    (λ a. (Some h, (rest, reads, a)))
    (λ b. (None, λ k more is fits. absurd (let same = (request_unique request k h more rest is reads).0 in omega (arith, b, fits, ap (λ (x : RequestHead). length x.fields) same))))
    (few (length h.fields) max_fields)

begun : (request : List ℕ) → Begun request
begun request =
    ⊎_elim (λ x. few_or_not request x.0 x.1 x.2) (λ none. (None, λ h rest reads fits. none (h, rest, reads))) (request_decided request)

pub has_response : (site : List Entry) (request : List ℕ) → (response : List ℕ) × IsServed site request response
has_response site request = let b = begun request in (served site b.0, record { head = b.0; begins = b.1; text = refl })

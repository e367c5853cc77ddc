-- Which parts of a line, cut off before its end, some allowed line begins with (docs/FORMATS.md, "Site file").
use Rattle.std.specs.Prelude.{◌≡◌, ◌==◌, ℕ, List, [], ◌∷◌, ◌++◌, length, take, codes, bytes_eq, slice_index, nat_le, Bool, true, false, not, ◌&&◌, ◌||◌, Option, Some, None, Result, Err, if◌then◌else◌}
use Rattle.std.specs.List.{list_all, list_any}
use Rattle.std.specs.Option.{is_none}
use Rattle.link_uri.specs.declared.heard.Reply.{Reply}
use Rattle.site_core.specs.Fields.{behind, is_digit, is_number, is_printable, is_site_link, is_status, number_of}
use Rattle.site_core.specs.Lines.{step}
use Rattle.site_core.specs.Places.{Reads}
use Rattle.site_core.specs.Text.{Entry, comes_after}
use Rattle.site_core.specs.declared.expected.Expected.{Expected}
use Rattle.site_core.specs.declared.expected.Step.TheVariants.{Misfit}

-- ---- what it means

-- some bytes behind the part have another answer than a fault at the line
abbrev pub CanGrow : List Entry → Expected → List ℕ → Type 0
CanGrow done expected part = (more : List ℕ) × ((at : ℕ) → (answer : Result (List Entry) ℕ) × Reads done expected at (part ++ more) answer × (answer ≡ Err at → ⊥))

-- no line that begins with the part is allowed there
abbrev pub CannotGrow : List Entry → Expected → List ℕ → Type 0
CannotGrow done expected part = (more : List ℕ) → step done expected (part ++ more) ≡ Misfit

-- ---- the tests

-- the word begins with the part
abbrev pub begins : List ℕ → List ℕ → Bool
begins word part = bytes_eq part (take (length part) word)

abbrev pub rest_grows : (List ℕ → Bool) → Option (List ℕ) → Bool
rest_grows test None = false
rest_grows test (Some rest) = test rest

-- the part begins a word, or goes on behind it with what may stand there
abbrev pub word_grows : (List ℕ → Bool) → List ℕ → List ℕ → Bool
word_grows test word part = begins word part || rest_grows test (behind word part)

-- the beginning of a value, which may end in a space
abbrev pub value_begins : List ℕ → Bool
value_begins value = (length value == 0) || (list_all is_printable value && not (slice_index value 0 == 32))

abbrev pub number_begins : List ℕ → Bool
number_begins digits = (length digits == 0) || is_number digits

-- a final status begins with the digit
abbrev pub is_hundred : ℕ → Bool
is_hundred byte = nat_le 50 byte && nat_le byte 53

abbrev pub is_status_of : Option ℕ → Bool
is_status_of None = false
is_status_of (Some n) = is_status n

abbrev pub status_begins : List ℕ → Bool
status_begins digits = if length digits == 0 then true else (if length digits == 1 then is_hundred (slice_index digits 0)
    else (if length digits == 2 then (is_hundred (slice_index digits 0) && is_digit (slice_index digits 1)) else is_status_of (number_of digits)))

abbrev pub field_grows : Reply → List ℕ → Bool
field_grows reply part = ((is_none reply.media && (is_none reply.coding && is_none reply.location)) && word_grows value_begins (codes "type ") part)
    || (((is_none reply.coding && is_none reply.location) && word_grows value_begins (codes "coding ") part)
    || ((is_none reply.location && word_grows value_begins (codes "location ") part) || word_grows number_begins (codes "body ") part))

-- ---- the link of a link line

-- what a part of a link goes on with to a whole one: within a path or a query, behind an authority, within a port, a domain, an address in brackets (URL Standard, section 4.5)
abbrev pub endings : List (List ℕ)
endings = codes "~" ∷ codes "/" ∷ codes "1/" ∷ codes "~/" ∷ codes "]/" ∷ codes "1]/" ∷ codes ":]/" ∷ codes "::]/" ∷ codes ":1::]/" ∷ codes "1::]/" ∷ codes ":1:1]/" ∷ codes "1:1]/" ∷ codes ":1]/" ∷ []

abbrev pub ends_in_link : List ℕ → Bool
ends_in_link text = list_any (λ ending. is_site_link (text ++ ending)) endings

-- the link before begins with the text
abbrev pub begins_last : Option (List ℕ) → List ℕ → Bool
begins_last None text = false
begins_last (Some before) text = begins before text

abbrev pub link_grows : Option (List ℕ) → List ℕ → Bool
link_grows before text = begins_last before text || (comes_after before text && (begins (codes "http://") text || ends_in_link text))

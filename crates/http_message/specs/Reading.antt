-- How a response is read (RFC 9112, sections 2.2 and 9.2; interim heads by RFC 9110, section 15.2).
use Rattle.std.specs.Prelude.{◌≡◌, ℕ, ◌+◌, ◌*◌, List, [], ◌∷◌, ◌++◌, length, take, drop, true, false, if◌then◌else◌, nat_lt, Some, None}
use Rattle.httparse.specs.Grammar.{ResponseHead}
use Rattle.link_uri.specs.declared.heard.Heard.TheVariants as heard
use Rattle.http_message.specs.declared.lines.Place.TheVariants.{Front}
use Rattle.http_message.specs.Heads.{IsHead}
use Rattle.http_message.specs.Facts.{facts_of, is_interim}
use Rattle.http_message.specs.Lines.{end_from, skip_from}
use Rattle.http_message.specs.Body.{Progress, decided, undecided, message_from}

-- the bytes of a connection in which the final head has to end
abbrev pub head_limit : ℕ
head_limit = 65536

-- what is found at the front of some bytes
pub data Found : Type 0 where
  -- no head has ended
  waiting : Found
  -- a head ends that is no response head
  no_head : Found
  -- the final head, and the bytes after it
  final_head : ResponseHead → List ℕ → Found

-- these interim heads come first, and then this is found; a head is what comes up to the first empty line
abbrev pub Finds : List ResponseHead → List ℕ → Found → Type 0
Finds [] bytes waiting = end_from Front bytes ≡ None
Finds [] bytes no_head =
    (n : ℕ) × (end_from Front bytes ≡ Some n) × ((h : ResponseHead) → IsHead (take n bytes) h → ⊥)
Finds [] bytes (final_head h rest) =
    (n : ℕ) × (end_from Front bytes ≡ Some n) × IsHead (take n bytes) h × (is_interim h ≡ false) × (rest ≡ drop n bytes)
Finds (i ∷ is) bytes found =
    (n : ℕ) × (end_from Front bytes ≡ Some n) × IsHead (take n bytes) i × (is_interim i ≡ true) × Finds is (drop n bytes) found

-- what the bytes have come to where this is found in the first of them
abbrev pub progress_after : ℕ → List ℕ → Found → Progress
progress_after limit bytes waiting = if nat_lt head_limit (length bytes) then decided heard.Malformed else undecided None
progress_after limit bytes no_head = decided heard.Malformed
progress_after limit bytes (final_head h rest) = message_from (facts_of h) limit (rest ++ drop head_limit bytes)

-- the bytes of a connection have come to this, under a limit of the body; the empty lines at the very beginning are skipped
pub record Reads (limit : ℕ) (bytes : List ℕ) (progress : Progress) : Type 0 where
  pub interims : List ResponseHead
  pub found : Found
  pub finds : Finds interims (skip_from false (take head_limit bytes)) found
  pub gives : progress ≡ progress_after limit bytes found

-- the most bytes after which a reading is undecided
abbrev pub most_undecided : ℕ → ℕ
most_undecided limit = 140000 + 1027 * (limit + 1)

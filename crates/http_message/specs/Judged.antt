-- What a whole head is judged to be.
use Rattle.std.specs.Prelude.{◌≡◌, ℕ, List, true, false}
use Rattle.httparse.specs.Grammar.{ResponseHead}
use Rattle.http_message.specs.declared.judging.Verdict.{Verdict}
use Rattle.http_message.specs.declared.judging.Verdict.TheVariants.{NoHead, Interim, Final}
use Rattle.http_message.specs.Heads.{IsHead}
use Rattle.http_message.specs.Facts.{facts_of, is_interim}

-- the verdict on the bytes of a whole head
abbrev pub IsVerdict : List ℕ → Verdict → Type 0
IsVerdict bytes NoHead = (h : ResponseHead) → IsHead bytes h → ⊥
IsVerdict bytes Interim = (h : ResponseHead) × IsHead bytes h × (is_interim h ≡ true)
IsVerdict bytes (Final f) = (h : ResponseHead) × IsHead bytes h × (is_interim h ≡ false) × (f ≡ facts_of h)

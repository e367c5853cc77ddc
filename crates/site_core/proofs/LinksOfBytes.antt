-- Which bytes have a link: those that are UTF-8 and whose text has one.
use Rattle.std.proofs.Common.{ℕ, ◌≡◌, List, true, false, None, refl, ap}
use Rattle.std.specs.Prelude.{if◌then◌else◌, IsUtf8}
use Rattle.std.specs.Str.{is_utf8}
use Rattle.std.proofs.lemmas.Str.{IsUtf8-from_is_utf8, is_utf8-from_IsUtf8}
use Rattle.link_uri.specs.Links.{link_of}
use Rattle.site_core.specs.Serving.{link_of_bytes}

pub link_of_text : (bytes : List ℕ) → IsUtf8 bytes → link_of_bytes bytes ≡ link_of bytes
link_of_text bytes u = ap (λ b. if b then link_of bytes else None) (is_utf8-from_IsUtf8 bytes u)

no_text : (bytes : List ℕ) → ¬ (IsUtf8 bytes) → is_utf8 bytes ≡ false
no_text bytes n =
    elim (is_utf8 bytes) as (λ b. is_utf8 bytes ≡ b → b ≡ false) [
      | true ↦ λ e. absurd (n (IsUtf8-from_is_utf8 bytes e))
      | false ↦ λ e. refl
    ] refl

pub link_of_others : (bytes : List ℕ) → ¬ (IsUtf8 bytes) → link_of_bytes bytes ≡ None
link_of_others bytes n = ap (λ b. if b then link_of bytes else None) (no_text bytes n)

-- A location that is UTF-8, and one that is none.
use Rattle.std.proofs.Common.{ℕ, ◌≡◌, List, Bool, true, false, Option, None, refl, sym, ◌∙◌, ap}
use Rattle.std.specs.Prelude.{if◌then◌else◌, IsUtf8}
use Rattle.std.specs.Str.{is_utf8}
use Rattle.std.proofs.lemmas.Str.{IsUtf8-from_is_utf8, is_utf8-from_IsUtf8}
use Rattle.link_uri.specs.declared.link.Link.{Link}
use Rattle.link_uri.specs.Links.{joined_link}
use Rattle.doc_reader.specs.Outcome.{link_behind}

pub behind_text : (link : Link) (location : List ℕ) → IsUtf8 location → link_behind link location ≡ joined_link link.text location
behind_text link location u = ap (λ b. if b then joined_link link.text location else None) (is_utf8-from_IsUtf8 location u)

no_text : (location : List ℕ) → ¬ (IsUtf8 location) → is_utf8 location ≡ false
no_text location n =
    elim (is_utf8 location) as (λ b. is_utf8 location ≡ b → b ≡ false) [
      | true ↦ λ e. absurd (n (IsUtf8-from_is_utf8 location e))
      | false ↦ λ e. refl
    ] refl

pub behind_none : (link : Link) (location : List ℕ) → ¬ (IsUtf8 location) → link_behind link location ≡ None
behind_none link location n = ap (λ b. if b then joined_link link.text location else None) (no_text location n)

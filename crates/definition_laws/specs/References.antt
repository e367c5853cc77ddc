-- What a part of a reference does not hold.
use Rattle.std.specs.Prelude.{ℕ, ◌≡◌, List, true, not}
use Rattle.std.specs.List.{list_all}
use Rattle.iri_core.specs.Reference.{is_among}

-- none of the marks stands in the text
abbrev pub HasNone : List ℕ → List ℕ → Type 0
HasNone marks text = list_all (λ b. not (is_among marks b)) text ≡ true

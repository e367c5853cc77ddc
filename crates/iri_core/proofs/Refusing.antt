-- When a text is refused.
use Rattle.std.proofs.Common.{◌≡◌, ℕ, List, Option, Some, None, refl}
use Rattle.iri_core.specs.Iris.{unless_refused}

pub refused_none : (p : Option ℕ) (at : ℕ) (text : List ℕ) → p ≡ Some at → None ≡ unless_refused p text
refused_none p at text e = rw e refl

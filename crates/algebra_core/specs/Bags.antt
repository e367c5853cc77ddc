-- Bags: lists up to their order, which are the multisets of solution mappings of SPARQL 1.1 Query Language, sections 18.3 and 18.5.
use Rattle.std.specs.Prelude.{◌↔◌, List, ◌++◌}
use Rattle.std.specs.List.Sorted.{IsPermutation}
use Rattle.rdf_terms.specs.Lists.{IsIn}

-- the second bag has all of the first, each as often, and maybe more
pub record IsSubBag {X : Type 0} (xs ys : List X) : Type 0 where
  pub more : List X
  pub is : IsPermutation (xs ++ more) ys

-- each member of one is a member of the other, in whatever order and however often
abbrev pub SameMembers : {X : Type 0} → List X → List X → Type 0
SameMembers {X} xs ys = (x : X) → IsIn xs x ↔ IsIn ys x

-- each member of the first is a member of the second
abbrev pub IsWithin : {X : Type 0} → List X → List X → Type 0
IsWithin {X} xs ys = (x : X) → IsIn xs x → IsIn ys x

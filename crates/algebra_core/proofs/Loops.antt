-- Steps of loops of the plain evaluation.
use Rattle.std.proofs.Common.{◌≡◌, ◌∙◌, sym, ap, ℕ, zero, suc, ◌+◌, ◌<◌, ◌≤◌, List, [], ◌∷◌, ◌++◌, take, drop, get_or, set, length, refl, arith, None, ap₂, append_assoc, append-nil, filter, flat_map, Bool}
use Rattle.std.proofs.lemmas.List.{take_more, take_more_set, drop_more, drop-set-lt}
use Rattle.std.specs.Prelude.{if◌then◌else◌}
use Rattle.std.proofs.lemmas.List.Concat.{flat_map-append}
use Rattle.rdf_terms.specs.declared.triple.Triple.{Triple}
use Rattle.rows_core.specs.declared.pattern.TriplePattern.{TriplePattern}
use Rattle.rows_core.specs.Rows.{Cells}
use Rattle.rdf_terms.specs.Lists.{add_once}
use Rattle.rdf_terms.proofs.Adding.{all_push}
use Rattle.algebra_core.specs.Graphs.{extended, all_extended, once}
use Rattle.algebra_core.specs.Query.{same_row}
use Rattle.algebra_core.proofs.Bags.{filter_append}
use Rattle.algebra_core.specs.Meaning.{restricted}

extended_push : (ps : List TriplePattern) (p : TriplePattern) (g : List Triple) (rows : List Cells) → all_extended (ps ++ p ∷ []) g rows ≡ extended p g (all_extended ps g rows)
extended_push [] p g rows = refl
extended_push (q ∷ ps) p g rows = extended_push ps p g (extended q g rows)

pub extended_more : (ps : List TriplePattern) (i : ℕ) (d : TriplePattern) (g : List Triple) (rows : List Cells) → i < length ps → all_extended (take (i + 1) ps) g rows ≡ extended (get_or ps i d) g (all_extended (take i ps) g rows)
extended_more ps i d g rows h = ap (λ (l : List TriplePattern). all_extended l g rows) (take_more ps i d h) ∙ extended_push (take i ps) (get_or ps i d) g rows

-- before the first cell that is hidden
pub restricted_first : (n : ℕ) (cs : Cells) → restricted n cs ≡ take n cs ++ restricted zero (drop n cs)
restricted_first zero [] = refl
restricted_first zero (c ∷ cs) = refl
restricted_first (suc n) [] = refl
restricted_first (suc n) (c ∷ cs) = ap (λ (l : Cells). c ∷ l) (restricted_first n cs)

-- behind the last cell
pub restricted_last : (i : ℕ) (cs : Cells) → length cs ≤ i → take i cs ++ restricted zero (drop i cs) ≡ cs
restricted_last zero [] h = refl
restricted_last (suc i) [] h = refl
restricted_last zero (c ∷ cs) h = absurd (omega arith)
restricted_last (suc i) (c ∷ cs) h = ap (λ (l : Cells). c ∷ l) (restricted_last i cs (omega arith))

-- one more cell is hidden
pub hidden_more : (i : ℕ) (cs : Cells) → i < length cs → take (i + 1) (set cs i None) ++ restricted zero (drop (i + 1) (set cs i None)) ≡ take i cs ++ restricted zero (drop i cs)
hidden_more i cs h =
    ap₂ (λ (a b : Cells). a ++ restricted zero b) (take_more_set cs i None h) (drop-set-lt (i + 1) cs i None (omega arith))
    ∙ append_assoc (take i cs) (None ∷ []) (restricted zero (drop (i + 1) cs))
    ∙ ap (λ (l : Cells). take i cs ++ restricted zero l) (sym (drop_more cs i None h))

-- one more row is read
pub once_push : (xs : List Cells) (x : Cells) → once same_row (xs ++ x ∷ []) ≡ add_once same_row (once same_row xs) x
once_push xs x = all_push same_row [] xs x

-- one more row is tested
pub filter_push : (p : Cells → Bool) (xs : List Cells) (x : Cells) → filter p (xs ++ x ∷ []) ≡ filter p xs ++ (if p x then x ∷ [] else [])
filter_push p xs x = filter_append p xs (x ∷ [])

-- one more row gives its own
pub flat_push : (f : Cells → List Cells) (xs : List Cells) (x : Cells) → flat_map f (xs ++ x ∷ []) ≡ flat_map f xs ++ f x
flat_push f xs x = flat_map-append f xs (x ∷ []) ∙ ap (λ l. flat_map f xs ++ l) (append-nil (f x))

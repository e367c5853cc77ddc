-- A triple that extends a row matches the pattern with the row's terms in it.
use Rattle.std.proofs.Common.{ℕ, zero, suc, ◌≡◌, ◌<◌, ◌≤◌, ◌+◌, Bool, true, false, List, [], ◌∷◌, ◌++◌, Option, Some, None, refl, sym, ◌∙◌, ap, ap₂, take, drop, get_or, flat_map, length, add-one, arith, subst}
use Rattle.std.specs.Prelude.{◌&&◌, if◌then◌else◌, slice_get}
use Rattle.std.specs.Option.{option_to_list}
use Rattle.rdf_terms.specs.declared.term.Term.{Term}
use Rattle.rdf_terms.specs.declared.triple.Triple.{Triple}
use Rattle.rows_core.specs.declared.pattern.Spot.{Spot}
use Rattle.rows_core.specs.declared.pattern.Spot.TheVariants.{Term as Fixed, Var}
use Rattle.rows_core.specs.declared.pattern.TriplePattern.{TriplePattern}
use Rattle.rows_core.specs.Patterns.{may_be, agree, matches}
use Rattle.rows_core.specs.Rows.{Cells, cell_or_unbound}
use Rattle.rows_core.specs.Bindings.{extensions, cell_takes, takes, is_bindable}
use Rattle.rows_core.proofs.Matching.{and_both, both_and}
use Rattle.rows_core.proofs.Bindable.{not_bindable}
use Rattle.growing_graph.specs.Places.{places_from, places}
use Rattle.growing_graph.proofs.PlaceSteps.{drop_head, drop_tail}
use Rattle.algebra_core.specs.Substitution.{term_or_var, substituted_spot, substituted, ArePlaces, extensions_by, extensions_at}
use Rattle.algebra_core.proofs.GraphSteps.{flat_more}

cell_taken : (v : ℕ) (o : Option (Option Term)) (x : Term) → cell_takes o x ≡ true → may_be (term_or_var v (cell_or_unbound o)) x ≡ true
cell_taken v None x h = absurd (cc)
cell_taken v (Some None) x h = refl
cell_taken v (Some (Some y)) x h = h

spot_taken : (row : Cells) (s : Spot) (x : Term) → takes row s x ≡ true → may_be (substituted_spot row s) x ≡ true
spot_taken row (Fixed t) x h = h
spot_taken row (Var v) x h = cell_taken v (slice_get row v) x h

two_vars : (v w : ℕ) (c : Option Term) (x y : Term) → agree (Var v) (Var w) x y ≡ true → agree (Var v) (term_or_var w c) x y ≡ true
two_vars v w None x y h = h
two_vars v w (Some z) x y h = refl

var_agrees : (row : Cells) (v : ℕ) (c : Option Term) (p : Spot) (x y : Term) → agree (Var v) p x y ≡ true → agree (term_or_var v c) (substituted_spot row p) x y ≡ true
var_agrees row v (Some z) p x y h = refl
var_agrees row v None (Fixed t) x y h = refl
var_agrees row v None (Var w) x y h = two_vars v w (cell_or_unbound (slice_get row w)) x y h

spots_agree : (row : Cells) (s p : Spot) (x y : Term) → agree s p x y ≡ true → agree (substituted_spot row s) (substituted_spot row p) x y ≡ true
spots_agree row (Fixed t) p x y h = refl
spots_agree row (Var v) p x y h = var_agrees row v (cell_or_unbound (slice_get row v)) p x y h

bindable_matches : (p : TriplePattern) (t : Triple) (row : Cells) → is_bindable p t row ≡ true → matches (substituted row p) t ≡ true
bindable_matches p t row h =
    let s = and_both (takes row p.s t.s) _ h in
    let r = and_both (takes row p.p t.p && agree p.s p.p t.s t.p) _ s.1 in
    let q = and_both (takes row p.p t.p) _ r.0 in
    let l = and_both (takes row p.o t.o && agree p.s p.o t.s t.o) _ r.1 in
    let o = and_both (takes row p.o t.o) _ l.0 in
    both_and _ _ (spot_taken row p.s t.s s.0)
    (both_and _ _ (spot_taken row p.p t.p q.0)
    (both_and _ _ (spot_taken row p.o t.o o.0)
    (both_and _ _ (spots_agree row p.s p.p t.s t.p q.1) (both_and _ _ (spots_agree row p.s p.o t.s t.o o.1) (spots_agree row p.p p.o t.p t.o l.1)))))

not_true : (a b : Bool) → (a ≡ true → b ≡ true) → b ≡ false → a ≡ false
not_true true b f h = absurd (let z = f refl in cc)
not_true false b f h = refl

-- what doesn't match extends no row
pub no_extension : (p : TriplePattern) (t : Triple) (row : Cells) → matches (substituted row p) t ≡ false → extensions p t row ≡ []
no_extension p t row h = ap (λ (o : Option Cells). option_to_list o) (not_bindable p t row (not_true (is_bindable p t row) (matches (substituted row p) t) (bindable_matches p t row) h))

-- ---- the triples at the places that match

places_below : (test : Triple → Bool) (triples : List Triple) (n : ℕ) (xs : List Triple) → n + length xs ≤ length triples → ArePlaces triples (places_from n test xs)
places_below test triples n [] h = tt
places_below test triples n (x ∷ xs) h = with_place (test x) n (places_from (n + 1) test xs) (omega arith) (places_below test triples (n + 1) xs (omega arith))
  where
    with_place : (b : Bool) (m : ℕ) (ns : List ℕ) → m < length triples → ArePlaces triples ns → ArePlaces triples (if b then m ∷ ns else ns)
    with_place true m ns l a = (l, a)
    with_place false m ns l a = a

pub places_are : (test : Triple → Bool) (triples : List Triple) (ns : List ℕ) → ns ≡ places test triples → ArePlaces triples ns
places_are test triples ns e = subst (ArePlaces triples) (sym e) (places_below test triples 0 triples (omega arith))

pub place_below : (triples : List Triple) (ns : List ℕ) (i d : ℕ) → ArePlaces triples ns → i < length ns → get_or ns i d < length triples
place_below triples [] i d a h = absurd (omega arith)
place_below triples (n ∷ ns) zero d a h = a.0
place_below triples (n ∷ ns) (suc i) d a h = place_below triples ns i d a.1 (omega arith)

-- one more place
pub extended_at : (p : TriplePattern) (triples : List Triple) (row : Cells) (ns : List ℕ) (i d : ℕ) (t : Triple) → i < length ns → Some t ≡ slice_get triples (get_or ns i d)
    → flat_map (extensions_at p triples row) (take (i + 1) ns) ≡ flat_map (extensions_at p triples row) (take i ns) ++ extensions p t row
extended_at p triples row ns i d t h e =
    flat_more (extensions_at p triples row) ns i d h
    ∙ ap (λ (o : Option Triple). flat_map (extensions_at p triples row) (take i ns) ++ extensions_by p row o) (sym e)

module _ (p : TriplePattern) (triples : List Triple) (row : Cells) where
  abbrev test : Triple → Bool
  test t = matches (substituted row p) t

  step : (b : Bool) (n : ℕ) (x : Triple) (ns : List ℕ) (rest : List Cells) → test x ≡ b → slice_get triples n ≡ Some x → flat_map (extensions_at p triples row) ns ≡ rest
      → flat_map (extensions_at p triples row) (if b then n ∷ ns else ns) ≡ extensions p x row ++ rest
  step true n x ns rest h at e = ap₂ (λ (o : Option Triple) (l : List Cells). extensions_by p row o ++ l) at e
  step false n x ns rest h at e = e ∙ sym (ap (λ (l : List Cells). l ++ rest) (no_extension p x row h))

  flat_places : (n : ℕ) (xs : List Triple) → drop n triples ≡ xs → flat_map (extensions_at p triples row) (places_from n test xs) ≡ flat_map (λ t. extensions p t row) xs
  flat_places n [] e = refl
  flat_places n (x ∷ xs) e =
      step (test x) n x (places_from (n + 1) test xs) (flat_map (λ t. extensions p t row) xs) refl (drop_head triples n x xs e)
      (flat_places (n + 1) xs (ap (λ (k : ℕ). drop k triples) (add-one n) ∙ drop_tail triples n x xs e))

  -- the triples at the places that match give all extensions
  pub extended_there : (ns : List ℕ) → ns ≡ places test triples → flat_map (extensions_at p triples row) ns ≡ flat_map (λ t. extensions p t row) triples
  extended_there ns e = ap (flat_map (extensions_at p triples row)) e ∙ flat_places 0 triples refl

-- Where triples may stand that match a pattern.
use Rattle.std.proofs.Common.{ℕ, ◌≡◌, ◌+◌, ◌<◌, ◌≤◌, Bool, true, false, cond, List, [], ◌∷◌, ◌++◌, refl, sym, ◌∙◌, ap, subst, length, get_or, take, drop, append-nil, append_assoc, arith}
use Rattle.std.specs.Prelude.{if◌then◌else◌, slice_get}
use Rattle.std.proofs.lemmas.List.{take_more, drop_more, drop_all, take-append-drop, length-take-le}
use Rattle.std.proofs.lemmas.List.Elements.{filter-append}
use Rattle.indexmap.specs.IndexMap.{IndexMap}
use Rattle.rdf_terms.specs.declared.term.Term.{Term}
use Rattle.rdf_terms.specs.declared.triple.Triple.{Triple}
use Rattle.rdf_terms.specs.Same.{same_term}
use Rattle.rdf_terms.proofs.Deciding.{term_Decides}
use Rattle.rows_core.specs.declared.pattern.Spot.{Spot}
use Rattle.rows_core.specs.declared.pattern.Spot.TheVariants.{Term as Fixed}
use Rattle.rows_core.specs.declared.pattern.TriplePattern.{TriplePattern}
use Rattle.rows_core.specs.Patterns.{matches, may_be}
use Rattle.rows_core.proofs.Matching.{and_both}
use Rattle.growing_graph.specs.declared.index.Part.{Part}
use Rattle.growing_graph.specs.declared.index.Part.TheVariants.{Subject, Predicate, Object}
use Rattle.growing_graph.specs.Places.{places_from, places, passes, kept_at}
use Rattle.growing_graph.specs.Indexes.{part_of, spot_of, has_term, places_at, Lists, Covers}
use Rattle.growing_graph.proofs.PlaceSteps.{places_append, kept_places}

pub covers_nothing : (pattern : TriplePattern) (triples : List Triple) → Covers pattern triples [] 0
covers_nothing pattern triples = record { within = omega arith; first = refl }

-- a triple that matches has the pattern's terms
spot_test : (part : Part) (p : TriplePattern) (t : Triple) → matches p t ≡ true → may_be (spot_of part p) (part_of part t) ≡ true
spot_test Subject p t h = (and_both (may_be p.s t.s) _ h).0
spot_test Predicate p t h = (and_both (may_be p.p t.p) _ (and_both (may_be p.s t.s) _ h).1).0
spot_test Object p t h = (and_both (may_be p.o t.o) _ (and_both (may_be p.p t.p) _ (and_both (may_be p.s t.s) _ h).1).1).0

turned : (x y : Term) → same_term x y ≡ true → same_term y x ≡ true
turned x y h = (term_Decides y x).1 (sym ((term_Decides x y).0 h))

has_spot : (part : Part) (p : TriplePattern) (x : Term) → spot_of part p ≡ Fixed x → (t : Triple) → matches p t ≡ true → has_term part x t ≡ true
has_spot part p x e t h = turned x (part_of part t) (subst (λ (s : Spot). may_be s (part_of part t) ≡ true) e (spot_test part p t h))

pub covers_spot : {S : Type 0} (part : Part) (p : TriplePattern) (triples : List Triple) (x : Term) (n : ℕ) (table : IndexMap Term (List ℕ) S) → spot_of part p ≡ Fixed x → Lists part triples n table → Covers p triples (places_at table x) n
covers_spot part p triples x n table e l = record {
  within = l.within;
  first = sym (ap (kept_at (matches p) triples) (l.lists x) ∙ kept_places (matches p) (has_term part x) triples 0 (take n triples) (drop n triples) (has_spot part p x e) (sym (take-append-drop n triples)));
}

-- what stands at the places and behind them is all
pub covered : (p : TriplePattern) (triples : List Triple) (ps : List ℕ) (n : ℕ) (out : List ℕ) → Covers p triples ps n → out ≡ kept_at (matches p) triples ps ++ places_from n (matches p) (drop n triples) → out ≡ places (matches p) triples
covered p triples ps n out c e =
    e ∙ (ap (λ (l : List ℕ). l ++ places_from n (matches p) (drop n triples)) (sym c.first)
    ∙ (sym (places_append 0 n (matches p) (take n triples) (drop n triples) (let z = length-take-le n triples c.within in omega arith))
    ∙ ap (places (matches p)) (take-append-drop n triples)))

pub found_all : (p : TriplePattern) (ts xs ys : List Triple) (ps : List ℕ) (n : ℕ) (start mid out : List ℕ) → Covers p ts ps n → start ≡ [] → mid ≡ start ++ kept_at (matches p) xs ps → out ≡ mid ++ places_from n (matches p) (drop n ys)
    → xs ≡ ts → ys ≡ ts → out ≡ places (matches p) ts
found_all p ts xs ys ps n start mid out c s e f x y =
    let m : mid ≡ kept_at (matches p) ts ps = e ∙ (ap (λ (l : List ℕ). l ++ kept_at (matches p) xs ps) s ∙ ap (λ (l : List Triple). kept_at (matches p) l ps) x) in
    covered p ts ps n out c (f ∙ (ap (λ (l : List ℕ). l ++ places_from n (matches p) (drop n ys)) m ∙ ap (λ (l : List Triple). kept_at (matches p) ts ps ++ places_from n (matches p) (drop n l)) y))

-- ---- steps of the loops

kept_one : (p : TriplePattern) (triples : List Triple) (ps : List ℕ) (i d : ℕ) → i < length ps → kept_at (matches p) triples (take (i + 1) ps) ≡ kept_at (matches p) triples (take i ps) ++ kept_at (matches p) triples (get_or ps i d ∷ [])
kept_one p triples ps i d h = ap (kept_at (matches p) triples) (take_more ps i d h) ∙ filter-append (λ place. passes (matches p) (slice_get triples place)) (take i ps) (get_or ps i d ∷ [])

pub kept_more : (p : TriplePattern) (triples : List Triple) (ps : List ℕ) (i d : ℕ) → i < length ps → passes (matches p) (slice_get triples (get_or ps i d)) ≡ true → kept_at (matches p) triples (take (i + 1) ps) ≡ kept_at (matches p) triples (take i ps) ++ get_or ps i d ∷ []
kept_more p triples ps i d h e = kept_one p triples ps i d h ∙ ap (λ (b : Bool). kept_at (matches p) triples (take i ps) ++ cond b (get_or ps i d ∷ []) []) e

pub kept_less : (p : TriplePattern) (triples : List Triple) (ps : List ℕ) (i d : ℕ) → i < length ps → passes (matches p) (slice_get triples (get_or ps i d)) ≡ false → kept_at (matches p) triples (take (i + 1) ps) ≡ kept_at (matches p) triples (take i ps)
kept_less p triples ps i d h e = kept_one p triples ps i d h ∙ (ap (λ (b : Bool). kept_at (matches p) triples (take i ps) ++ cond b (get_or ps i d ∷ []) []) e ∙ append-nil (kept_at (matches p) triples (take i ps)))

places_one : (p : TriplePattern) (triples : List Triple) (i : ℕ) (d : Triple) → i < length triples → places_from i (matches p) (drop i triples) ≡ (if matches p (get_or triples i d) then i ∷ places_from (i + 1) (matches p) (drop (i + 1) triples) else places_from (i + 1) (matches p) (drop (i + 1) triples))
places_one p triples i d h = ap (places_from i (matches p)) (drop_more triples i d h)

pub places_more : (p : TriplePattern) (triples : List Triple) (i : ℕ) (d : Triple) (out whole : List ℕ) → i < length triples → matches p (get_or triples i d) ≡ true → out ++ places_from i (matches p) (drop i triples) ≡ whole → (out ++ i ∷ []) ++ places_from (i + 1) (matches p) (drop (i + 1) triples) ≡ whole
places_more p triples i d out whole h e f =
    append_assoc out (i ∷ []) (places_from (i + 1) (matches p) (drop (i + 1) triples))
    ∙ (ap (λ (l : List ℕ). out ++ l) (sym (places_one p triples i d h ∙ ap (λ (b : Bool). if b then i ∷ places_from (i + 1) (matches p) (drop (i + 1) triples) else places_from (i + 1) (matches p) (drop (i + 1) triples)) e)) ∙ f)

pub places_less : (p : TriplePattern) (triples : List Triple) (i : ℕ) (d : Triple) (out whole : List ℕ) → i < length triples → matches p (get_or triples i d) ≡ false → out ++ places_from i (matches p) (drop i triples) ≡ whole → out ++ places_from (i + 1) (matches p) (drop (i + 1) triples) ≡ whole
places_less p triples i d out whole h e f =
    ap (λ (l : List ℕ). out ++ l) (sym (places_one p triples i d h ∙ ap (λ (b : Bool). if b then i ∷ places_from (i + 1) (matches p) (drop (i + 1) triples) else places_from (i + 1) (matches p) (drop (i + 1) triples)) e)) ∙ f

pub places_end : (p : TriplePattern) (triples : List Triple) (i : ℕ) (out whole : List ℕ) → length triples ≤ i → out ++ places_from i (matches p) (drop i triples) ≡ whole → out ≡ whole
places_end p triples i out whole h e = sym (append-nil out) ∙ (ap (λ (l : List Triple). out ++ places_from i (matches p) l) (sym (drop_all i triples h)) ∙ e)

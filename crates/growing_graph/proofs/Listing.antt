-- What an index lists, when a triple comes and when triples go.
use Rattle.std.proofs.Common.{ℕ, ◌≡◌, ◌+◌, ◌<◌, ◌≤◌, Bool, true, false, List, [], ◌∷◌, ◌++◌, refl, sym, ◌∙◌, ap, length, get_or, take, append-nil, arith}
use Rattle.std.specs.Prelude.{if◌then◌else◌}
use Rattle.std.specs.Map.{lookup}
use Rattle.std.specs.Option.{unwrap_or}
use Rattle.std.proofs.lemmas.List.{take_more, length-take-le, take-append-le, length_push, length-take, take-take}
use Rattle.indexmap.specs.IndexMap.{IndexMap}
use Rattle.rdf_terms.specs.declared.term.Term.{Term}
use Rattle.rdf_terms.specs.declared.triple.Triple.{Triple}
use Rattle.rdf_terms.specs.Same.{same_term}
use Rattle.growing_graph.specs.declared.index.Part.{Part}
use Rattle.growing_graph.specs.Places.{places}
use Rattle.growing_graph.specs.Indexes.{part_of, has_term, places_at, Lists}
use Rattle.growing_graph.proofs.PlaceSteps.{places_append}

put_last : (b : Bool) (ps : List ℕ) (n : ℕ) → (if b then ps ++ n ∷ [] else ps) ≡ ps ++ (if b then n ∷ [] else [])
put_last true ps n = refl
put_last false ps n = sym (append-nil ps)

places_more : (part : Part) (triples : List Triple) (n : ℕ) (d : Triple) (term : Term) → n < length triples
    → places (has_term part term) (take (n + 1) triples) ≡ (if same_term (part_of part (get_or triples n d)) term then places (has_term part term) (take n triples) ++ n ∷ [] else places (has_term part term) (take n triples))
places_more part triples n d term h =
    ap (places (has_term part term)) (take_more triples n d h)
    ∙ (places_append 0 n (has_term part term) (take n triples) (get_or triples n d ∷ []) (let e = length-take-le n triples (omega arith) in omega arith)
    ∙ sym (put_last (same_term (part_of part (get_or triples n d)) term) (places (has_term part term) (take n triples)) n))

pub lists_more : {S : Type 0} (part : Part) (triples : List Triple) (n : ℕ) (d : Triple) (mine : Term) (old new : IndexMap Term (List ℕ) S) → Lists part triples n old → n < length triples → mine ≡ part_of part (get_or triples n d)
    → ((term : Term) → places_at new term ≡ (if same_term mine term then places_at old term ++ n ∷ [] else places_at old term)) → Lists part triples (n + 1) new
lists_more part triples n d mine old new l h e step = record {
  within = omega arith;
  lists = λ term.
      step term ∙ (ap (λ (k : Term). if same_term k term then places_at old term ++ n ∷ [] else places_at old term) e
      ∙ (ap (λ (ps : List ℕ). if same_term (part_of part (get_or triples n d)) term then ps ++ n ∷ [] else ps) (l.lists term) ∙ sym (places_more part triples n d term h)));
}

pub lists_same : {S : Type 0} (part : Part) (triples : List Triple) (n : ℕ) (old new : IndexMap Term (List ℕ) S) → Lists part triples n old → ((term : Term) → places_at new term ≡ places_at old term) → Lists part triples n new
lists_same part triples n old new l same = record { within = l.within; lists = λ term. same term ∙ l.lists term }

pub lists_none : {S : Type 0} (part : Part) (triples : List Triple) (table : IndexMap Term (List ℕ) S) → table.entries ≡ [] → Lists part triples 0 table
lists_none part triples table e = record {
  within = omega arith;
  lists = λ term. ap (λ (es : List (Term × List ℕ)). unwrap_or (lookup (same_term term) es) []) e;
}

pub lists_push : {S : Type 0} (part : Part) (triples : List Triple) (n : ℕ) (more : List Triple) (table : IndexMap Term (List ℕ) S) → Lists part triples n table → Lists part (triples ++ more) n table
lists_push part triples n more table l = record {
  within = let e = Rattle.std.proofs.lemmas.List.length-append triples more in let w = l.within in omega arith;
  lists = λ term. l.lists term ∙ ap (places (has_term part term)) (sym (take-append-le n triples more l.within));
}

pub lists_short : {S : Type 0} (part : Part) (triples : List Triple) (n len : ℕ) (table : IndexMap Term (List ℕ) S) → n ≤ len → Lists part triples n table → Lists part (take len triples) n table
lists_short part triples n len table h l = record {
  within = let e = length-take len triples in let w = l.within in omega arith;
  lists = λ term. l.lists term ∙ ap (places (has_term part term)) (sym (take-take n len triples h));
}

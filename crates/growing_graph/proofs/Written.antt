-- What an index lists under each term after a place is listed under one.
use Rattle.std.proofs.Common.{ℕ, ◌≡◌, Bool, true, false, cond, List, [], ◌∷◌, ◌++◌, Option, Some, None, refl, ◌∙◌, ap, rules}
use Rattle.std.specs.Prelude.{if◌then◌else◌}
use Rattle.std.specs.Option.{unwrap_or, IsSome}
use Rattle.indexmap.specs.IndexMap.{IndexMap, get, Updates, WritesThrough}
use Rattle.rdf_terms.specs.declared.term.Term.{Term}
use Rattle.rdf_terms.specs.Same.{same_term}
use Rattle.rdf_terms.proofs.Deciding.{term_Decides}
use Rattle.growing_graph.specs.Indexes.{places_at}

module _ {S : Type 0} (old new : IndexMap Term (List ℕ) S) (key : Term) where
  listed_at : (b : Bool) (other : Term) (n : ℕ) (ws : List ℕ) → same_term key other ≡ b → ws ≡ places_at old key ++ n ∷ [] → get same_term new other ≡ cond b (Some ws) (get same_term old other)
      → places_at new other ≡ (if b then places_at old other ++ n ∷ [] else places_at old other)
  listed_at true other n ws e w g = ap (λ (o : Option (List ℕ)). unwrap_or o []) g ∙ (w ∙ ap (λ (k : Term). places_at old k ++ n ∷ []) ((term_Decides key other).0 e))
  listed_at false other n ws e w g = ap (λ (o : Option (List ℕ)). unwrap_or o []) g

  same_at : (b : Bool) (other : Term) (ws : List ℕ) → same_term key other ≡ b → ws ≡ places_at old key → get same_term new other ≡ cond b (Some ws) (get same_term old other) → places_at new other ≡ places_at old other
  same_at true other ws e w g = ap (λ (o : Option (List ℕ)). unwrap_or o []) g ∙ (w ∙ ap (places_at old) ((term_Decides key other).0 e))
  same_at false other ws e w g = ap (λ (o : Option (List ℕ)). unwrap_or o []) g

  there : (o : Option (List ℕ)) (ps : List ℕ) → Some ps ≡ o → IsSome o
  there None ps e = absurd (cc)
  there (Some qs) ps e = search rules

  found : (o : Option (List ℕ)) (ps : List ℕ) → Some ps ≡ o → ps ≡ unwrap_or o []
  found o ps e = ap (λ (p : Option (List ℕ)). unwrap_or p []) e

  -- the place becomes the last of the key's
  pub written_last : (n : ℕ) (ps ws : List ℕ) → Some ps ≡ get same_term old key → ws ≡ ps ++ n ∷ [] → WritesThrough same_term (same_term key) old ws new
      → (other : Term) → places_at new other ≡ (if same_term key other then places_at old other ++ n ∷ [] else places_at old other)
  written_last n ps ws at w t other =
      listed_at (same_term key other) other n ws refl (w ∙ ap (λ (l : List ℕ). l ++ n ∷ []) (found (get same_term old key) ps at)) ((t.3 (there (get same_term old key) ps at)).0 other)

  -- places that are written back as they were change nothing
  pub written_same : (ps ws : List ℕ) → Some ps ≡ get same_term old key → ws ≡ ps → WritesThrough same_term (same_term key) old ws new → (other : Term) → places_at new other ≡ places_at old other
  written_same ps ws at w t other = same_at (same_term key other) other ws refl (w ∙ found (get same_term old key) ps at) ((t.3 (there (get same_term old key) ps at)).0 other)

  -- the place is the first of a new key's; `mid` is what the look-up left of the table, and `own` the key's copy
  pub inserted_first : (n : ℕ) (ws : List ℕ) (mid : IndexMap Term (List ℕ) S) (own : Term) → None ≡ get same_term old key → ws ≡ n ∷ [] → mid ≡ old → own ≡ key → Updates same_term mid new own (Some ws)
      → (other : Term) → places_at new other ≡ (if same_term key other then places_at old other ++ n ∷ [] else places_at old other)
  inserted_first n ws mid own at w e f u other =
      listed_at (same_term key other) other n ws refl (w ∙ ap (λ (o : Option (List ℕ)). unwrap_or o [] ++ n ∷ []) at)
      (u.0 other ∙ (ap (λ (m : IndexMap Term (List ℕ) S). cond (same_term own other) (Some ws) (get same_term m other)) e ∙ ap (λ (k : Term). cond (same_term k other) (Some ws) (get same_term old other)) f))

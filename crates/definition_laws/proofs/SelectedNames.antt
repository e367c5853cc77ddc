-- The variables that a valid query selects have names.
use Rattle.std.proofs.Common.{◌≡◌, ℕ, ◌<◌, List, [], ◌∷◌, Option, Some, None, length, map, refl, inl, inr, ap, ◌∙◌, get_or}
use Rattle.std.specs.Prelude.{slice_get, unwrap_or}
use Rattle.std.proofs.lemmas.Option.{slice_get-get_or}
use Rattle.rdf_terms.specs.Lists.{IsIn}
use Rattle.algebra_core.specs.declared.query.Query.{Query}
use Rattle.algebra_core.specs.Query.{IsValid}
use Rattle.traverse_core.specs.Query.{selected_names}

name_of : {X : Type 0} (o : Option X) (x d : X) → o ≡ Some x → Some (unwrap_or o d) ≡ o
name_of None x d e = absurd (cc)
name_of (Some y) x d e = refl

named : (names : List (List ℕ)) (numbers : List ℕ) → ((v : ℕ) → IsIn numbers v → v < length names)
    → map (λ (name : List ℕ). Some name) (map (λ number. unwrap_or (slice_get names number) []) numbers) ≡ map (λ number. slice_get names number) numbers
named names [] below = refl
named names (v ∷ vs) below =
    let first = name_of (slice_get names v) (get_or names v []) [] (slice_get-get_or names v [] (below v (inl refl))) in
    let rest = named names vs (λ w h. below w (inr h)) in
    ap (λ o. o ∷ map (λ (name : List ℕ). Some name) (map (λ number. unwrap_or (slice_get names number) []) vs)) first ∙ ap (λ os. slice_get names v ∷ os) rest

pub selected_have_names : (query : Query) → IsValid query → map (λ (name : List ℕ). Some name) (selected_names query) ≡ map (λ number. slice_get query.names number) query.select
selected_have_names query valid = named query.names query.select valid.selected

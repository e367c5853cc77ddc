-- What a graph gains by triples that are added.
use Rattle.std.proofs.Common.{ℕ, ◌≡◌, ◌<◌, ◌≤◌, ◌+◌, List, [], ◌∷◌, ◌++◌, Bool, true, not, sym, ◌∙◌, ap, subst, inl, inr, length, get_or, take, drop}
use Rattle.std.specs.Bool.{Decides}
use Rattle.std.specs.List.{list_any}
use Rattle.std.proofs.lemmas.List.{take-append-drop}
use Rattle.rdf_terms.specs.declared.triple.Triple.{Triple}
use Rattle.rdf_terms.specs.Lists.{IsIn, Apart, add_once, add_all}
use Rattle.rdf_terms.specs.Same.{same_triple}
use Rattle.rdf_terms.proofs.Members.{apart_left}
use Rattle.rdf_terms.proofs.Adding.{any_in, in_any, once_cases, all_more, take_all, le_all, Grown, grown_once, grown_all, triple_tells}

pub triple_in : (xs : List Triple) (t : Triple) → Decides (list_any (same_triple t) xs) (IsIn xs t)
triple_in xs t =
    ((λ h. let w = any_in (same_triple t) xs h in subst (λ (x : Triple). IsIn xs x) (sym (triple_tells.one t w.0 tt tt w.2)) w.1), (λ i. in_any (same_triple t) xs t i (triple_tells.refl' t)))

pub logged_once : (xs : List Triple) (t : Triple) → Grown xs (t ∷ []) (add_once same_triple xs t)
logged_once xs t = grown_once same_triple (λ x. Unit {0}) xs t triple_tells (λ y h. tt) tt

pub logged : (xs ts : List Triple) → Grown xs ts (add_all same_triple xs ts)
logged xs ts = grown_all same_triple (λ x. Unit {0}) xs ts triple_tells (λ y h. tt) (λ y h. tt)

pub apart_take : (n : ℕ) (xs : List Triple) → Apart xs → Apart (take n xs)
apart_take n xs a = apart_left (take n xs) (drop n xs) (subst (λ (l : List Triple). Apart l) (sym (take-append-drop n xs)) a)

pub inserted_new : (xs : List Triple) (t : Triple) (b : Bool) → b ≡ not (list_any (same_triple t) xs) → b ≡ true → (IsIn xs t → ⊥) × (add_once same_triple xs t ≡ xs ++ t ∷ [])
inserted_new xs t b e h =
    elim (once_cases same_triple xs t) [
      | inl p ↦ let n = ap not p.0 in absurd (cc)
      | inr q ↦ ((λ i. let z = (triple_in xs t).1 i in absurd (cc)), q.1)
    ]

pub inserted_old : (xs : List Triple) (t : Triple) (b : Bool) → b ≡ not (list_any (same_triple t) xs) → (b ≡ true → ⊥) → IsIn xs t × (add_once same_triple xs t ≡ xs)
inserted_old xs t b e h =
    elim (once_cases same_triple xs t) [
      | inl p ↦ ((triple_in xs t).0 p.0, p.1)
      | inr q ↦ absurd (h (e ∙ ap not q.0))
    ]

pub log_more : (known xs : List Triple) (i : ℕ) (d : Triple) → i < length xs → add_all same_triple known (take (i + 1) xs) ≡ add_once same_triple (add_all same_triple known (take i xs)) (get_or xs i d)
log_more known xs i d h = all_more same_triple known xs i d h

pub take_log : (known xs : List Triple) → take (length known) (add_all same_triple known xs) ≡ known
take_log known xs = take_all same_triple known xs

pub le_log : (known xs : List Triple) → length known ≤ length (add_all same_triple known xs)
le_log known xs = le_all same_triple known xs

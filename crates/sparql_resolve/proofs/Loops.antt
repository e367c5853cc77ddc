-- One token after the other.
use Rattle.std.proofs.Common.{◌≡◌, ℕ, ◌+◌, ◌<◌, ◌≤◌, List, [], ◌∷◌, ◌++◌, length, get_or, drop, Option, Some, None, Result, Ok, Err, refl, sym, ap, subst, ◌∙◌, add-one, drop-cons}
use Rattle.std.proofs.lemmas.List.{drop_all}
use Rattle.sparql_lexer.specs.declared.token.QueryToken.{QueryToken}
use Rattle.sparql_resolve.specs.declared.fault.Fault.{Fault}
use Rattle.sparql_resolve.specs.declared.fault.ResolveError.{ResolveError}
use Rattle.sparql_resolve.specs.declared.fault.ResolveError.TheVariants as errors
use Rattle.sparql_resolve.specs.declared.kind.Kind.{Kind}
use Rattle.sparql_resolve.specs.declared.kind.Token.{Token}
use Rattle.sparql_resolve.specs.Resolving.{State, Step, Resolving, step, bytes_of, name_from, names_from, resolving_by, resolve_from, token, Fails}

names_at : (i : ℕ) (names : List (List ℕ)) (bytes : List ℕ) (ts : List QueryToken) (d : QueryToken) → i < length ts
    → names_from names bytes (drop i ts) ≡ names_from (name_from (get_or ts i d).kind (bytes_of bytes (get_or ts i d)) names) bytes (drop (i + 1) ts)
unfolding names_from
names_at i names bytes ts d lt = rw (drop-cons ts i d lt, add-one i) refl

pub names_more : (i : ℕ) (names next : List (List ℕ)) (bytes : List ℕ) (ts : List QueryToken) (d : QueryToken) (total : List (List ℕ)) → i < length ts
    → next ≡ name_from (get_or ts i d).kind (bytes_of bytes (get_or ts i d)) names → names_from names bytes (drop i ts) ≡ total → names_from next bytes (drop (i + 1) ts) ≡ total
names_more i names next bytes ts d total lt e h = ap (λ (n : List (List ℕ)). names_from n bytes (drop (i + 1) ts)) e ∙ (sym (names_at i names bytes ts d lt) ∙ h)

pub names_end : (i : ℕ) (names : List (List ℕ)) (bytes : List ℕ) (ts : List QueryToken) (total : List (List ℕ)) → length ts ≤ i → names_from names bytes (drop i ts) ≡ total → names ≡ total
unfolding names_from
names_end i names bytes ts total le h = let e : drop i ts ≡ [] = drop_all i ts le in rw e at h

resolve_at : (i : ℕ) (names : List (List ℕ)) (bytes : List ℕ) (s : State) (out : List Token) (ts : List QueryToken) (d : QueryToken) → i < length ts
    → resolve_from names bytes s out (drop i ts) ≡ resolving_by (step names (bytes_of bytes (get_or ts i d)) (get_or ts i d) s) (λ k next. resolve_from names bytes next (out ++ token k (get_or ts i d).from ∷ []) (drop (i + 1) ts)) out s.blanks
unfolding resolve_from
resolve_at i names bytes s out ts d lt = rw (drop-cons ts i d lt, add-one i) refl

abbrev behind : (i : ℕ) (names : List (List ℕ)) (bytes : List ℕ) (s : State) (out : List Token) (ts : List QueryToken) (d : QueryToken) → Step → Resolving
behind i names bytes s out ts d x = resolving_by x (λ k next. resolve_from names bytes next (out ++ token k (get_or ts i d).from ∷ []) (drop (i + 1) ts)) out s.blanks

pub resolve_more : (i : ℕ) (names : List (List ℕ)) (bytes : List ℕ) (s next : State) (out more : List Token) (k : Kind) (ts : List QueryToken) (d : QueryToken) (total : Resolving) → i < length ts
    → step names (bytes_of bytes (get_or ts i d)) (get_or ts i d) s ≡ Ok (k, next) → more ≡ out ++ token k (get_or ts i d).from ∷ []
    → resolve_from names bytes s out (drop i ts) ≡ total → resolve_from names bytes next more (drop (i + 1) ts) ≡ total
resolve_more i names bytes s next out more k ts d total lt e m h =
    ap (λ (o : List Token). resolve_from names bytes next o (drop (i + 1) ts)) m ∙ (sym (resolve_at i names bytes s out ts d lt ∙ ap (behind i names bytes s out ts d) e) ∙ h)

abbrev pub stopped : List Token → Fault → ℕ → Resolving
stopped out x blanks = record { tokens = out; stop = Some x; blanks = blanks }

pub resolve_stops : (i : ℕ) (names : List (List ℕ)) (bytes : List ℕ) (s : State) (out : List Token) (ts : List QueryToken) (d : QueryToken) (x : Fault) (total : Resolving) → i < length ts
    → step names (bytes_of bytes (get_or ts i d)) (get_or ts i d) s ≡ Err x → resolve_from names bytes s out (drop i ts) ≡ total → stopped out x s.blanks ≡ total
resolve_stops i names bytes s out ts d x total lt e h = sym (resolve_at i names bytes s out ts d lt ∙ ap (behind i names bytes s out ts d) e) ∙ h

pub resolve_end : (i : ℕ) (names : List (List ℕ)) (bytes : List ℕ) (s : State) (out : List Token) (ts : List QueryToken) (total : Resolving) → length ts ≤ i
    → resolve_from names bytes s out (drop i ts) ≡ total → record { tokens = out; stop = None; blanks = s.blanks } ≡ total
unfolding resolve_from
resolve_end i names bytes s out ts total le h = let e : drop i ts ≡ [] = drop_all i ts le in rw e at h

pub fails_is : {Y : Type 0} (want : Result Y Fault) (e : ResolveError) (f : Fault) → e ≡ errors.Fault f → Fails e want → want ≡ Err f
fails_is {Y} want e f is h = let P : ResolveError → Type 0 = λ x. Fails x want in subst P is h

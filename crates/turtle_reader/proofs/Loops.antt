-- One token after the other.
use Rattle.std.proofs.Common.{◌≡◌, ℕ, ◌+◌, ◌<◌, ◌≤◌, List, [], ◌∷◌, ◌++◌, length, get_or, drop, Result, Ok, Err, refl, sym, ap, subst, ◌∙◌, add-one, drop-cons}
use Rattle.std.proofs.lemmas.List.{drop_all}
use Rattle.turtle_lexer.specs.declared.token.Token.{Token as Lexed}
use Rattle.turtle_reader.specs.declared.token_fault.Fault.{Fault}
use Rattle.turtle_reader.specs.declared.token_fault.Fault.TheVariants.{Syntax}
use Rattle.turtle_reader.specs.declared.token_fault.ResolveError.{ResolveError}
use Rattle.turtle_reader.specs.declared.token_fault.ResolveError.TheVariants as errors
use Rattle.turtle_reader.specs.declared.kind.Kind.{Kind}
use Rattle.turtle_reader.specs.declared.kind.Token.{Token}
use Rattle.turtle_reader.specs.Resolving.{State, Step, Resolving, step, bytes_of, resolving_by, resolve_from, token, Fails}

abbrev behind : (i : ℕ) (bytes : List ℕ) (s : State) (out : List Token) (ts : List Lexed) (d : Lexed) → Step → Resolving
behind i bytes s out ts d x = resolving_by x (λ k next. resolve_from bytes next (out ++ token k (get_or ts i d).from s.blanks ∷ []) (drop (i + 1) ts)) out

resolve_at : (i : ℕ) (bytes : List ℕ) (s : State) (out : List Token) (ts : List Lexed) (d : Lexed) → i < length ts
    → resolve_from bytes s out (drop i ts) ≡ behind i bytes s out ts d (step (bytes_of bytes (get_or ts i d)) (get_or ts i d) s)
unfolding resolve_from
resolve_at i bytes s out ts d lt = rw (drop-cons ts i d lt, add-one i) refl

pub resolve_more : (i : ℕ) (bytes : List ℕ) (s next : State) (out more : List Token) (k : Kind) (ts : List Lexed) (d : Lexed) (total : Resolving) → i < length ts
    → step (bytes_of bytes (get_or ts i d)) (get_or ts i d) s ≡ Ok (k, next) → more ≡ out ++ token k (get_or ts i d).from s.blanks ∷ []
    → resolve_from bytes s out (drop i ts) ≡ total → resolve_from bytes next more (drop (i + 1) ts) ≡ total
resolve_more i bytes s next out more k ts d total lt e m h =
    ap (λ (o : List Token). resolve_from bytes next o (drop (i + 1) ts)) m ∙ (sym (resolve_at i bytes s out ts d lt ∙ ap (behind i bytes s out ts d) e) ∙ h)

abbrev pub stopped : List Token → Fault → Resolving
stopped out x = record { tokens = out; stop = x }

pub resolve_stops : (i : ℕ) (bytes : List ℕ) (s : State) (out : List Token) (ts : List Lexed) (d : Lexed) (x : Fault) (total : Resolving) → i < length ts
    → step (bytes_of bytes (get_or ts i d)) (get_or ts i d) s ≡ Err x → resolve_from bytes s out (drop i ts) ≡ total → stopped out x ≡ total
resolve_stops i bytes s out ts d x total lt e h = sym (resolve_at i bytes s out ts d lt ∙ ap (behind i bytes s out ts d) e) ∙ h

pub resolve_end : (i : ℕ) (bytes : List ℕ) (s : State) (out : List Token) (ts : List Lexed) (total : Resolving) → length ts ≤ i
    → resolve_from bytes s out (drop i ts) ≡ total → stopped out (Syntax (length bytes)) ≡ total
unfolding resolve_from
resolve_end i bytes s out ts total le h = let e : drop i ts ≡ [] = drop_all i ts le in rw e at h

pub fails_is : {Y : Type 0} (want : Result Y Fault) (e : ResolveError) (f : Fault) → e ≡ errors.Fault f → Fails e want → want ≡ Err f
fails_is {Y} want e f is h = let P : ResolveError → Type 0 = λ x. Fails x want in subst P is h

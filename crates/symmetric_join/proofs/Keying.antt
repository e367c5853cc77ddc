-- Keys, variable by variable, and rows that fit.
use Rattle.std.proofs.Common.{ℕ, ◌≡◌, ◌+◌, ◌<◌, true, List, [], ◌∷◌, ◌++◌, Option, Some, None, refl, sym, ◌∙◌, ap, subst, length, get_or, take, drop}
use Rattle.std.specs.Prelude.{slice_get}
use Rattle.std.specs.Bool.{Decides}
use Rattle.std.proofs.lemmas.List.{take_more, take-append-drop}
use Rattle.std.proofs.lemmas.Option.{same_Some}
use Rattle.std.proofs.lemmas.Slice.Eq.{slice_eq-Decides}
use Rattle.rdf_terms.specs.declared.term.Term.{Term}
use Rattle.rdf_terms.proofs.Deciding.{term_Decides}
use Rattle.rows_core.specs.Rows.{Cells, cell_or_unbound, fits}
use Rattle.rows_core.proofs.Domains.{binds_of}
use Rattle.rows_core.proofs.Joining.{fits_Decides}
use Rattle.symmetric_join.specs.Keys.{Key, same_key, with_term, before_terms, key_of}

pub key_Decides : (a b : Key) → Decides (same_key a b) (a ≡ b)
key_Decides None None = ((λ h. refl), (λ e. refl))
key_Decides None (Some ys) = ((λ h. absurd (cc)), (λ e. absurd (cc)))
key_Decides (Some xs) None = ((λ h. absurd (cc)), (λ e. absurd (cc)))
key_Decides (Some xs) (Some ys) =
    let d = slice_eq-Decides term_Decides xs ys (same_key (Some xs) (Some ys)) refl in
    ((λ h. ap (λ (l : List Term). Some l) (d.0 h)), (λ e. d.1 (same_Some xs ys e)))

-- ---- one variable more

snoc_one : (c : Option Term) → before_terms c (Some []) ≡ with_term [] c
snoc_one None = refl
snoc_one (Some x) = refl

with_more : (x : Term) (rs : List Term) (d : Option Term) → before_terms (Some x) (with_term rs d) ≡ with_term (x ∷ rs) d
with_more x rs None = refl
with_more x rs (Some y) = refl

snoc_more : (c d : Option Term) (k m : Key) (ts : List Term) → before_terms c k ≡ Some ts → ((rs : List Term) → k ≡ Some rs → m ≡ with_term rs d) → before_terms c m ≡ with_term ts d
snoc_more None d k m ts e h = absurd (cc)
snoc_more (Some x) d None m ts e h = absurd (cc)
snoc_more (Some x) d (Some rs) m ts e h =
    ap (before_terms (Some x)) (h rs refl) ∙ (with_more x rs d ∙ ap (λ (l : List Term). with_term l d) (same_Some (x ∷ rs) ts e))

key_snoc : (vs : List ℕ) (v : ℕ) (row : Cells) (ts : List Term) → key_of vs row ≡ Some ts → key_of (vs ++ v ∷ []) row ≡ with_term ts (cell_or_unbound (slice_get row v))
key_snoc [] v row ts e = snoc_one (cell_or_unbound (slice_get row v)) ∙ ap (λ (l : List Term). with_term l (cell_or_unbound (slice_get row v))) (same_Some [] ts e)
key_snoc (u ∷ us) v row ts e =
    snoc_more (cell_or_unbound (slice_get row u)) (cell_or_unbound (slice_get row v)) (key_of us row) (key_of (us ++ v ∷ []) row) ts e (λ rs f. key_snoc us v row rs f)

pub key_more : (vs : List ℕ) (row : Cells) (ts : List Term) (i d : ℕ) → i < length vs → key_of (take i vs) row ≡ Some ts → key_of (take (i + 1) vs) row ≡ with_term ts (cell_or_unbound (slice_get row (get_or vs i d)))
key_more vs row ts i d h e = ap (λ (l : List ℕ). key_of l row) (take_more vs i d h) ∙ key_snoc (take i vs) (get_or vs i d) row ts e

none_cons : (c : Option Term) (k m : Key) → before_terms c k ≡ None → (k ≡ None → m ≡ None) → before_terms c m ≡ None
none_cons None k m e h = refl
none_cons (Some x) None m e h = ap (before_terms (Some x)) (h refl)
none_cons (Some x) (Some rs) m e h = absurd (cc)

none_more : (vs ws : List ℕ) (row : Cells) → key_of vs row ≡ None → key_of (vs ++ ws) row ≡ None
none_more [] ws row e = absurd (cc)
none_more (v ∷ vs) ws row e = none_cons (cell_or_unbound (slice_get row v)) (key_of vs row) (key_of (vs ++ ws) row) e (λ f. none_more vs ws row f)

-- a row that leaves one of the first variables unbound has no key
key_stops : (vs : List ℕ) (row : Cells) (i : ℕ) → key_of (take i vs) row ≡ None → key_of vs row ≡ None
key_stops vs row i e = subst (λ (l : List ℕ). key_of l row ≡ None) (take-append-drop i vs) (none_more (take i vs) (drop i vs) row e)

pub key_ends : (vs : List ℕ) (row : Cells) (ts : List Term) (i d : ℕ) → i < length vs → key_of (take i vs) row ≡ Some ts → with_term ts (cell_or_unbound (slice_get row (get_or vs i d))) ≡ None → key_of vs row ≡ None
key_ends vs row ts i d h e f = key_stops vs row (i + 1) (key_more vs row ts i d h e ∙ f)

-- ---- rows that fit

record Opened (c : Option Term) (k : Key) (ts : List Term) : Type 0 where
  first : Term
  rest : List Term
  is_first : c ≡ Some first
  is_rest : k ≡ Some rest
  both : ts ≡ first ∷ rest

opened : (c : Option Term) (k : Key) (ts : List Term) → before_terms c k ≡ Some ts → Opened c k ts
opened None k ts e = absurd (cc)
opened (Some x) None ts e = absurd (cc)
opened (Some x) (Some rs) ts e = record { first = x; rest = rs; is_first = refl; is_rest = refl; both = sym (same_Some (x ∷ rs) ts e) }

-- rows that fit have one key, where both have a key
pub fit_keys : (vs : List ℕ) (a b : Cells) (ks ls : List Term) → fits a b ≡ true → key_of vs a ≡ Some ks → key_of vs b ≡ Some ls → ks ≡ ls
fit_keys [] a b ks ls h e f = same_Some ks ls (sym e ∙ f)
fit_keys (v ∷ vs) a b ks ls h e f =
    let m = opened (cell_or_unbound (slice_get a v)) (key_of vs a) ks e in
    let n = opened (cell_or_unbound (slice_get b v)) (key_of vs b) ls f in
    let one : m.first ≡ n.first = ((fits_Decides a b).0 h).1 v m.first n.first (binds_of v a m.first m.is_first) (binds_of v b n.first n.is_first) in
    let rest : m.rest ≡ n.rest = fit_keys vs a b m.rest n.rest h m.is_rest n.is_rest in
    m.both ∙ (ap (λ (x : Term). x ∷ m.rest) one ∙ (ap (λ (l : List Term). n.first ∷ l) rest ∙ sym n.both))

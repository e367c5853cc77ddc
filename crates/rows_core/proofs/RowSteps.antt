-- Steps of loops over the cells of rows, and a cell that is bound.
use Rattle.std.proofs.Common.{◌≡◌, ℕ, zero, suc, ◌+◌, List, [], ◌∷◌, ◌++◌, refl, ap, ◌∙◌, Option, Some, None, add-one}
use Rattle.std.proofs.Common.{Bool, true, false, ◌≢◌, ◌≤◌, ◌<◌, length, arith, get_or, set, subst, take}
use Rattle.std.specs.Prelude.{◌&&◌, if◌then◌else◌, slice_get}
use Rattle.std.proofs.lemmas.List.{take_more, map-append}
use Rattle.rdf_terms.specs.declared.term.Term.{Term}
use Rattle.rdf_terms.specs.Same.{same_term}
use Rattle.rows_core.specs.Rows.{Cells, unbound, fits, agrees, projected, cell_or_unbound}
use Rattle.rows_core.specs.Bindings.{bound_to, under}

unbound_push : (n : ℕ) → unbound (suc n) ≡ unbound n ++ None ∷ []
unbound_push zero = refl
unbound_push (suc n) = ap (λ l. None ∷ l) (unbound_push n)

pub unbound_more : (n : ℕ) → unbound (n + 1) ≡ unbound n ++ None ∷ []
unbound_more n = ap unbound (add-one n) ∙ unbound_push n

and_second : (b c : Bool) → (b && c) ≡ true → c ≡ true
and_second true c h = h
and_second false c h = absurd (cc)

pub fit_lengths : (a b : Cells) → fits a b ≡ true → length a ≡ length b
fit_lengths [] [] h = refl
fit_lengths [] (y ∷ ys) h = absurd (cc)
fit_lengths (x ∷ xs) [] h = absurd (cc)
fit_lengths (x ∷ xs) (y ∷ ys) h = ap suc (fit_lengths xs ys (and_second (agrees x y) (fits xs ys) h))

no_fit_of : (a b : Cells) (r : Bool) → fits a b ≡ r → (length a ≡ length b → ⊥) → r ≡ false
no_fit_of a b true h ne = absurd (ne (fit_lengths a b h))
no_fit_of a b false h ne = refl

pub no_fit : (a b : Cells) → length a ≢ length b → fits a b ≡ false
no_fit a b ne = no_fit_of a b (fits a b) refl ne

pub bound_past : (v : ℕ) (x : Term) (cs : Cells) → length cs ≤ v → bound_to v x cs ≡ None
bound_past v x [] h = refl
bound_past zero x (c ∷ cs) h = absurd (omega arith)
bound_past (suc v) x (c ∷ cs) h = ap (under c) (bound_past v x cs (omega arith))

pub bound_free : (v : ℕ) (x : Term) (cs : Cells) (d : Option Term) → v < length cs → get_or cs v d ≡ None → bound_to v x cs ≡ Some (set cs v (Some x))
bound_free v x [] d h e = absurd (omega arith)
bound_free zero x (None ∷ cs) d h e = refl
bound_free zero x (Some y ∷ cs) d h e = absurd (cc)
bound_free (suc v) x (c ∷ cs) d h e = ap (under c) (bound_free v x cs d (omega arith) e)

under_test : (b : Bool) (c : Option Term) (cs : Cells) → under c (if b then Some cs else None) ≡ (if b then Some (c ∷ cs) else None)
under_test true c cs = refl
under_test false c cs = refl

pub bound_taken : (v : ℕ) (x y : Term) (cs : Cells) (d : Option Term) → v < length cs → get_or cs v d ≡ Some y → bound_to v x cs ≡ (if same_term y x then Some cs else None)
bound_taken v x y [] d h e = absurd (omega arith)
bound_taken zero x y (None ∷ cs) d h e = absurd (cc)
bound_taken zero x y (Some z ∷ cs) d h e = let s : z ≡ y = cc in subst (λ (w : Term). (if same_term z x then Some (Some z ∷ cs) else None) ≡ (if same_term w x then Some (Some z ∷ cs) else None)) s refl
bound_taken (suc v) x y (c ∷ cs) d h e = ap (under c) (bound_taken v x y cs d (omega arith) e) ∙ under_test (same_term y x) c cs

pub projected_more : (select : List ℕ) (cs : Cells) (i : ℕ) (d : ℕ) → i < length select → projected (take (i + 1) select) cs ≡ projected (take i select) cs ++ cell_or_unbound (slice_get cs (get_or select i d)) ∷ []
projected_more select cs i d h = ap (λ (l : List ℕ). projected l cs) (take_more select i d h) ∙ map-append (λ v. cell_or_unbound (slice_get cs v)) (take i select) (get_or select i d ∷ [])

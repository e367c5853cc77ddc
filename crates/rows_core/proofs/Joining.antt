-- What the tests and the merge, cell by cell, mean for bindings.
use Rattle.std.proofs.Common.{ℕ, zero, suc, ◌≡◌, ◌⊎◌, true, [], ◌∷◌, Option, Some, None, refl, sym, ◌∙◌, ap, subst, inl, inr, length, arith}
use Rattle.std.specs.Bool.{Decides}
use Rattle.std.proofs.lemmas.Option.{same_Some}
use Rattle.rdf_terms.specs.declared.term.Term.{Term}
use Rattle.rdf_terms.proofs.Deciding.{term_Decides}
use Rattle.rows_core.specs.Rows.{Cells, Binds, Compatible, Merges, agrees, fits, first_bound, merged}
use Rattle.rows_core.proofs.Matching.{and_both, both_and}
use Rattle.rows_core.proofs.RowSteps.{fit_lengths}

bound_cell : (c : Option Term) (x : Term) → Some c ≡ Some (Some x) → c ≡ Some x
bound_cell c x e = same_Some c (Some x) e

agree_on : (c d : Option Term) (x y : Term) → agrees c d ≡ true → c ≡ Some x → d ≡ Some y → x ≡ y
agree_on None d x y a e f = absurd (cc)
agree_on (Some u) None x y a e f = absurd (cc)
agree_on (Some u) (Some w) x y a e f = sym (same_Some u x e) ∙ ((term_Decides u w).0 a ∙ same_Some w y f)

fit_agree : (a b : Cells) → fits a b ≡ true → (v : ℕ) (x y : Term) → Binds a v x → Binds b v y → x ≡ y
fit_agree [] b h v x y e f = absurd (cc)
fit_agree (c ∷ cs) [] h v x y e f = absurd (cc)
fit_agree (c ∷ cs) (d ∷ ds) h zero x y e f = agree_on c d x y (and_both (agrees c d) (fits cs ds) h).0 (bound_cell c x e) (bound_cell d y f)
fit_agree (c ∷ cs) (d ∷ ds) h (suc v) x y e f = fit_agree cs ds (and_both (agrees c d) (fits cs ds) h).1 v x y e f

agree_if : (c d : Option Term) → ((x y : Term) → c ≡ Some x → d ≡ Some y → x ≡ y) → agrees c d ≡ true
agree_if None d h = refl
agree_if (Some u) None h = refl
agree_if (Some u) (Some w) h = (term_Decides u w).1 (h u w refl refl)

same_suc : (m n : ℕ) → suc m ≡ suc n → m ≡ n
same_suc m n e = omega arith

agree_fits : (a b : Cells) → length a ≡ length b → ((v : ℕ) (x y : Term) → Binds a v x → Binds b v y → x ≡ y) → fits a b ≡ true
agree_fits [] [] l h = refl
agree_fits [] (d ∷ ds) l h = absurd (let e : zero ≡ suc (length ds) = l in omega arith)
agree_fits (c ∷ cs) [] l h = absurd (let e : suc (length cs) ≡ zero = l in omega arith)
agree_fits (c ∷ cs) (d ∷ ds) l h =
    both_and (agrees c d) (fits cs ds)
    (agree_if c d (λ x y e f. h zero x y (ap (λ (o : Option Term). Some o) e) (ap (λ (o : Option Term). Some o) f)))
    (agree_fits cs ds (same_suc (length cs) (length ds) l) (λ v. h (suc v)))

pub fits_Decides : (a b : Cells) → Decides (fits a b) (Compatible a b)
fits_Decides a b = ((λ h. (fit_lengths a b h, fit_agree a b h)), (λ c. agree_fits a b c.0 c.1))

-- ---- the merge

pub merged_width : (a b : Cells) → fits a b ≡ true → length (merged a b) ≡ length a
merged_width [] [] h = refl
merged_width [] (d ∷ ds) h = absurd (cc)
merged_width (c ∷ cs) [] h = absurd (cc)
merged_width (c ∷ cs) (d ∷ ds) h = ap suc (merged_width cs ds (and_both (agrees c d) (fits cs ds) h).1)

first_of_two : (c d : Option Term) (x : Term) → first_bound c d ≡ Some x → (c ≡ Some x) ⊎ (d ≡ Some x)
first_of_two None d x e = inr e
first_of_two (Some u) d x e = inl e

two_first : (c d : Option Term) (x : Term) → agrees c d ≡ true → (c ≡ Some x) ⊎ (d ≡ Some x) → first_bound c d ≡ Some x
two_first None d x a (inl e) = absurd (cc)
two_first None d x a (inr e) = e
two_first (Some u) d x a (inl e) = e
two_first (Some u) d x a (inr e) = ap (λ (z : Term). Some z) (agree_on (Some u) d u x a refl e)

some_cell : (c : Option Term) (x : Term) → c ≡ Some x → Some c ≡ Some (Some x)
some_cell c x e = ap (λ (o : Option Term). Some o) e

of_merged : (a b : Cells) → fits a b ≡ true → (v : ℕ) (x : Term) → Binds (merged a b) v x → Binds a v x ⊎ Binds b v x
of_merged [] b h v x e = inr e
of_merged (c ∷ cs) [] h v x e = inl e
of_merged (c ∷ cs) (d ∷ ds) h zero x e = elim (first_of_two c d x (bound_cell (first_bound c d) x e)) [ inl l ↦ inl (some_cell c x l) | inr r ↦ inr (some_cell d x r) ]
of_merged (c ∷ cs) (d ∷ ds) h (suc v) x e = of_merged cs ds (and_both (agrees c d) (fits cs ds) h).1 v x e

in_merged : (a b : Cells) → fits a b ≡ true → (v : ℕ) (x : Term) → Binds a v x ⊎ Binds b v x → Binds (merged a b) v x
in_merged [] b h v x (inl e) = absurd (cc)
in_merged [] b h v x (inr e) = e
in_merged (c ∷ cs) [] h v x e = absurd (cc)
in_merged (c ∷ cs) (d ∷ ds) h zero x (inl e) = some_cell (first_bound c d) x (two_first c d x (and_both (agrees c d) (fits cs ds) h).0 (inl (bound_cell c x e)))
in_merged (c ∷ cs) (d ∷ ds) h zero x (inr e) = some_cell (first_bound c d) x (two_first c d x (and_both (agrees c d) (fits cs ds) h).0 (inr (bound_cell d x e)))
in_merged (c ∷ cs) (d ∷ ds) h (suc v) x e = in_merged cs ds (and_both (agrees c d) (fits cs ds) h).1 v x e

pub merged_merges : (a b : Cells) → fits a b ≡ true → Merges a b (merged a b)
merged_merges a b h = record { width = merged_width a b h; bindings = λ v x. (of_merged a b h v x, in_merged a b h v x) }

pub merges : (a b row : Cells) → fits a b ≡ true → row ≡ merged a b → Merges a b row
merges a b row h e = subst (Merges a b) (sym e) (merged_merges a b h)

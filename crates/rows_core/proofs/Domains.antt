-- Which variables a row binds, and what a triple adds to them.
use Rattle.std.proofs.Common.{ℕ, zero, suc, ◌≡◌, ◌⊎◌, [], ◌∷◌, Option, Some, None, refl, sym, ◌∙◌, ap, ap₂, subst, inl, inr, length}
use Rattle.std.specs.Prelude.{slice_get}
use Rattle.std.proofs.lemmas.Option.{same_Some}
use Rattle.rdf_terms.specs.declared.term.Term.{Term}
use Rattle.rdf_terms.specs.declared.triple.Triple.{Triple}
use Rattle.rdf_terms.specs.Same.{same_term}
use Rattle.rows_core.specs.declared.pattern.Spot.{Spot}
use Rattle.rows_core.specs.declared.pattern.Spot.TheVariants.{Term as Fixed, Var}
use Rattle.rows_core.specs.declared.pattern.TriplePattern.{TriplePattern}
use Rattle.rows_core.specs.Patterns.{Mentions}
use Rattle.rows_core.specs.Rows.{Cells, Binds, cell_or_unbound}
use Rattle.rows_core.specs.Bindings.{IsExtended, value_at, Gives, IsLeast, IsBinding, under, bound_to, bound_spot, then_bound, bound}
use Rattle.rows_core.proofs.Bindable.{Holds, Below, if_holds, each_holds, cell_kept, pattern_below, bound_is_binding}

-- ---- bindings

pub binds_of : (v : ℕ) (row : Cells) (x : Term) → cell_or_unbound (slice_get row v) ≡ Some x → Binds row v x
binds_of v [] x e = absurd (cc)
binds_of zero (c ∷ cs) x e = ap (λ (o : Option Term). Some o) e
binds_of (suc v) (c ∷ cs) x e = binds_of v cs x e

pub cell_of : (v : ℕ) (row : Cells) (x : Term) → Binds row v x → cell_or_unbound (slice_get row v) ≡ Some x
cell_of v row x e = ap cell_or_unbound e

pub binds_kept : (v : ℕ) (a r : Cells) (x : Term) → IsExtended a r → Binds a v x → Binds r v x
binds_kept v a r x h e = binds_of v r x (cell_kept v a r x h (cell_of v a x e))

pub one_binding : (v : ℕ) (r : Cells) (x y : Term) → Binds r v x → Binds r v y → x ≡ y
one_binding v r x y e f = same_Some x y (sym (cell_of v r x e) ∙ cell_of v r y f)

pub extended_width : (a r : Cells) → IsExtended a r → length r ≡ length a
extended_width [] [] h = refl
extended_width [] (d ∷ ds) h = absurd h
extended_width (c ∷ cs) [] h = absurd h
extended_width (None ∷ cs) (d ∷ ds) h = ap suc (extended_width cs ds h)
extended_width (Some x ∷ cs) (d ∷ ds) h = ap suc (extended_width cs ds h.1)

-- an extended row that binds nothing besides is the row itself
pub nothing_new : (a r : Cells) → IsExtended a r → ((v : ℕ) (x : Term) → Binds r v x → Binds a v x) → a ≡ r
nothing_new [] [] h k = refl
nothing_new [] (d ∷ ds) h k = absurd h
nothing_new (c ∷ cs) [] h k = absurd h
nothing_new (None ∷ cs) (None ∷ ds) h k = ap (λ (l : Cells). None ∷ l) (nothing_new cs ds h (λ v. k (suc v)))
nothing_new (None ∷ cs) (Some y ∷ ds) h k = absurd (let z : None ≡ Some y = cell_of zero (None ∷ cs) y (k zero y refl) in cc)
nothing_new (Some x ∷ cs) (None ∷ ds) h k = absurd (let z = h.0 in cc)
nothing_new (Some x ∷ cs) (Some y ∷ ds) h k = ap₂ (λ (o : Option Term) (l : Cells). o ∷ l) (sym h.0) (nothing_new cs ds h.1 (λ v. k (suc v)))

-- ---- the variables that a row binds

-- the row binds the variables with the property, and no other
pub record IsOver (D : ℕ → Type 0) (row : Cells) : Type 0 where
  pub of : (v : ℕ) (x : Term) → Binds row v x → D v
  pub all : (v : ℕ) → D v → (x : Term) × Binds row v x

over_rest : (D : ℕ → Type 0) (c : Option Term) (cs : Cells) → IsOver D (c ∷ cs) → IsOver (λ v. D (suc v)) cs
over_rest D c cs o = record { of = λ v x e. o.of (suc v) x e; all = λ v d. o.all (suc v) d }

not_bound : (D : ℕ → Type 0) (cs : Cells) → IsOver D (None ∷ cs) → D zero → ⊥
not_bound D cs o d = let w = o.all zero d in let z : None ≡ Some w.0 = cell_of zero (None ∷ cs) w.0 w.1 in cc

-- two rows that bind the same variables are one where one row extends both
pub one_row : (D : ℕ → Type 0) (a b r : Cells) → IsOver D a → IsOver D b → IsExtended a r → IsExtended b r → a ≡ b
one_row D [] [] r o p h k = refl
one_row D [] (d ∷ ds) [] o p h k = absurd k
one_row D [] (d ∷ ds) (e ∷ es) o p h k = absurd h
one_row D (c ∷ cs) [] [] o p h k = absurd h
one_row D (c ∷ cs) [] (e ∷ es) o p h k = absurd k
one_row D (c ∷ cs) (d ∷ ds) [] o p h k = absurd h
one_row D (None ∷ cs) (None ∷ ds) (e ∷ es) o p h k = ap (λ (l : Cells). None ∷ l) (one_row (λ v. D (suc v)) cs ds es (over_rest D None cs o) (over_rest D None ds p) h k)
one_row D (None ∷ cs) (Some y ∷ ds) (e ∷ es) o p h k = absurd (not_bound D cs o (p.of zero y refl))
one_row D (Some x ∷ cs) (None ∷ ds) (e ∷ es) o p h k = absurd (not_bound D ds p (o.of zero x refl))
one_row D (Some x ∷ cs) (Some y ∷ ds) (e ∷ es) o p h k =
    ap₂ (λ (c : Option Term) (l : Cells). c ∷ l) (sym h.0 ∙ k.0) (one_row (λ v. D (suc v)) cs ds es (over_rest D (Some x) cs o) (over_rest D (Some y) ds p) h.1 k.1)

-- ---- what a triple adds

-- what the second row binds besides is the variable
abbrev Only : ℕ → Cells → Cells → Type 0
Only w cs ds = (v : ℕ) (x : Term) → Binds ds v x → Binds cs v x ⊎ (w ≡ v)

under_only : (w : ℕ) (c : Option Term) (cs ds : Cells) → Only w cs ds → (v : ℕ) (x : Term) → Binds (c ∷ ds) v x → Binds (c ∷ cs) v x ⊎ (suc w ≡ v)
under_only w c cs ds h zero x e = inl e
under_only w c cs ds h (suc v) x e = elim (h v x e) [ inl l ↦ inl l | inr r ↦ inr (ap suc r) ]

under_holds : (w : ℕ) (c : Option Term) (cs : Cells) (o : Option Cells) → Holds (Only w cs) o → Holds (Only (suc w) (c ∷ cs)) (under c o)
under_holds w c cs None h = tt
under_holds w c cs (Some ds) h = under_only w c cs ds h

first_only : (y : Term) (cs : Cells) (v : ℕ) (x : Term) → Binds (Some y ∷ cs) v x → Binds (None ∷ cs) v x ⊎ (zero ≡ v)
first_only y cs zero x e = inr refl
first_only y cs (suc v) x e = inl e

bound_only : (w : ℕ) (y : Term) (cs : Cells) → Holds (Only w cs) (bound_to w y cs)
bound_only w y [] = tt
bound_only zero y (None ∷ cs) = first_only y cs
bound_only zero y (Some z ∷ cs) = if_holds (Only zero (Some z ∷ cs)) (same_term z y) (Some z ∷ cs) (λ h v x e. inl e)
bound_only (suc w) y (c ∷ cs) = under_holds w c cs (bound_to w y cs) (bound_only w y cs)

-- what the second row binds besides is the spot's variable
abbrev AtSpot : Spot → Cells → Cells → Type 0
AtSpot s cs ds = (v : ℕ) (x : Term) → Binds ds v x → Binds cs v x ⊎ (s ≡ Var v)

spot_only : (s : Spot) (y : Term) (cs : Cells) → Holds (AtSpot s cs) (bound_spot s y cs)
spot_only (Fixed t) y cs = if_holds (AtSpot (Fixed t) cs) (same_term t y) cs (λ h v x e. inl e)
spot_only (Var w) y cs = each_holds (Only w cs) (AtSpot (Var w) cs) (λ ds h v x e. elim (h v x e) [ inl l ↦ inl l | inr r ↦ inr (ap Var r) ]) (bound_to w y cs) (bound_only w y cs)

then_only : (P Q : Cells → Type 0) (s : Spot) (y : Term) → ((ds es : Cells) → P ds → AtSpot s ds es → Q es) → (o : Option Cells) → Holds P o → Holds Q (then_bound s y o)
then_only P Q s y f None h = tt
then_only P Q s y f (Some ds) h = each_holds (AtSpot s ds) Q (λ es a. f ds es h a) (bound_spot s y ds) (spot_only s y ds)

-- what the second row binds besides stands in the pattern
abbrev InPattern : TriplePattern → Cells → Cells → Type 0
InPattern p cs ds = (v : ℕ) (x : Term) → Binds ds v x → Binds cs v x ⊎ Mentions p v

-- .. in its subject or its predicate
abbrev InTwo : TriplePattern → Cells → Cells → Type 0
InTwo p cs ds = (v : ℕ) (x : Term) → Binds ds v x → Binds cs v x ⊎ ((p.s ≡ Var v) ⊎ (p.p ≡ Var v))

two_only : (p : TriplePattern) (row ds es : Cells) → AtSpot p.s row ds → AtSpot p.p ds es → (v : ℕ) (x : Term) → Binds es v x → Binds row v x ⊎ ((p.s ≡ Var v) ⊎ (p.p ≡ Var v))
two_only p row ds es h a v x e = elim (a v x e) [
  | inl l ↦ elim (h v x l) [ inl i ↦ inl i | inr q ↦ inr (inl q) ]
  | inr r ↦ inr (inr r)
]

three_only : (p : TriplePattern) (row ds es : Cells) → InTwo p row ds → AtSpot p.o ds es → (v : ℕ) (x : Term) → Binds es v x → Binds row v x ⊎ Mentions p v
three_only p row ds es h a v x e = elim (a v x e) [
  | inl l ↦ elim (h v x l) [ inl i ↦ inl i | inr j ↦ elim j [ inl q ↦ inr (inl q) | inr q ↦ inr (inr (inl q)) ] ]
  | inr r ↦ inr (inr (inr r))
]

pattern_only : (p : TriplePattern) (t : Triple) (row : Cells) → Holds (InPattern p row) (bound p t row)
pattern_only p t row =
    then_only (InTwo p row) (InPattern p row) p.o t.o (λ ds es h a. three_only p row ds es h a) (then_bound p.p t.p (bound_spot p.s t.s row))
    (then_only (AtSpot p.s row) (InTwo p row) p.p t.p (λ ds es h a. two_only p row ds es h a) (bound_spot p.s t.s row) (spot_only p.s t.s row))

-- the row that a triple makes binds besides only what stands in the pattern
pub bound_mentions : (p : TriplePattern) (t : Triple) (row m : Cells) → bound p t row ≡ Some m → (v : ℕ) (x : Term) → Binds m v x → Binds row v x ⊎ Mentions p v
bound_mentions p t row m e = subst (λ (o : Option Cells). Holds (InPattern p row) o) e (pattern_only p t row)

pub bound_least : (p : TriplePattern) (t : Triple) (row m : Cells) → bound p t row ≡ Some m → IsLeast p t row m
bound_least p t row m e = subst (λ (o : Option Cells). IsBinding p t row o) e (bound_is_binding p t row)

below_there : (es : Cells) (o : Option Cells) → Below es o → (m : Cells) × (o ≡ Some m) × IsExtended m es
below_there es None h = absurd h
below_there es (Some ds) h = (ds, refl, h)

-- where a row extends the first and gives the triple there is a least one, and it extends that
pub bound_there : (p : TriplePattern) (t : Triple) (row es : Cells) → IsExtended row es → Gives p t es → (m : Cells) × (bound p t row ≡ Some m) × IsExtended m es
bound_there p t row es h g = below_there es (bound p t row) (pattern_below p t row es h g)

-- a variable of the pattern is bound by each row that gives a triple
pub mentioned : (p : TriplePattern) (t : Triple) (m : Cells) (v : ℕ) → Gives p t m → Mentions p v → (x : Term) × Binds m v x
mentioned p t m v g (inl e) = (t.s, binds_of v m t.s (subst (λ (s : Spot). value_at m s ≡ Some t.s) e g.0))
mentioned p t m v g (inr (inl e)) = (t.p, binds_of v m t.p (subst (λ (s : Spot). value_at m s ≡ Some t.p) e g.1))
mentioned p t m v g (inr (inr e)) = (t.o, binds_of v m t.o (subst (λ (s : Spot). value_at m s ≡ Some t.o) e g.2))

abbrev pub More : (ℕ → Type 0) → TriplePattern → ℕ → Type 0
More D p v = D v ⊎ Mentions p v

pub over_bound : (D : ℕ → Type 0) (p : TriplePattern) (t : Triple) (row m : Cells) → IsOver D row → bound p t row ≡ Some m → IsOver (More D p) m
over_bound D p t row m o e =
    let least = bound_least p t row m e in
    record {
      of = λ v x b. elim (bound_mentions p t row m e v x b) [ inl l ↦ inl (o.of v x l) | inr r ↦ inr r ];
      all = λ v d. elim d [ inl l ↦ let b = o.all v l in (b.0, binds_kept v row m b.0 least.extends b.1) | inr r ↦ mentioned p t m v least.gives r ];
    }

-- a row gives one triple of a pattern
pub one_triple : (p : TriplePattern) (t u : Triple) (row : Cells) → Gives p t row → Gives p u row → t ≡ u
one_triple p t u row g h =
    let made : Term → Term → Term → Triple = λ s b o. record { s = s; p = b; o = o } in
    ap (λ (s : Term). made s t.p t.o) (same_Some t.s u.s (sym g.0 ∙ h.0)) ∙ (ap (λ (b : Term). made u.s b t.o) (same_Some t.p u.p (sym g.1 ∙ h.1)) ∙ ap (λ (o : Term). made u.s u.p o) (same_Some t.o u.o (sym g.2 ∙ h.2)))

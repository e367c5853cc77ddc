-- A row that is bound spot by spot is the least one that extends it and gives the triple.
use Rattle.std.proofs.Common.{ℕ, zero, suc, ◌≡◌, Bool, true, false, [], ◌∷◌, Option, Some, None, refl, sym, ◌∙◌, ap, subst, inl, inr}
use Rattle.std.specs.Prelude.{◌==◌, ◌&&◌, if◌then◌else◌, slice_get}
use Rattle.std.proofs.lemmas.Option.{same_Some}
use Rattle.rdf_terms.specs.declared.term.Term.{Term}
use Rattle.rdf_terms.specs.declared.triple.Triple.{Triple}
use Rattle.rdf_terms.specs.Same.{same_term}
use Rattle.rdf_terms.proofs.Deciding.{term_Decides}
use Rattle.rows_core.specs.declared.pattern.Spot.{Spot}
use Rattle.rows_core.specs.declared.pattern.Spot.TheVariants.{Term as Fixed, Var}
use Rattle.rows_core.specs.declared.pattern.TriplePattern.{TriplePattern}
use Rattle.rows_core.specs.Patterns.{agree}
use Rattle.rows_core.specs.Rows.{Cells, cell_or_unbound}
use Rattle.rows_core.specs.Bindings.{IsExtended, value_at, Gives, IsBinding, under, bound_to, bound_spot, then_bound, bound, cell_takes, takes, is_bindable}
use Rattle.rows_core.proofs.Matching.{both_and, numbers, if_same, if_not}

-- ---- extended rows

pub same_extended : (cs : Cells) → IsExtended cs cs
same_extended [] = tt
same_extended (None ∷ cs) = same_extended cs
same_extended (Some x ∷ cs) = (refl, same_extended cs)

under_extended : (c : Option Term) (cs ds : Cells) → IsExtended cs ds → IsExtended (c ∷ cs) (c ∷ ds)
under_extended None cs ds h = h
under_extended (Some x) cs ds h = (refl, h)

pub twice_extended : (cs ds es : Cells) → IsExtended cs ds → IsExtended ds es → IsExtended cs es
twice_extended [] [] [] h k = tt
twice_extended [] [] (e ∷ es) h k = absurd k
twice_extended [] (d ∷ ds) es h k = absurd h
twice_extended (c ∷ cs) [] es h k = absurd h
twice_extended (c ∷ cs) (None ∷ ds) [] h k = absurd k
twice_extended (c ∷ cs) (Some y ∷ ds) [] h k = absurd k
twice_extended (None ∷ cs) (None ∷ ds) (e ∷ es) h k = twice_extended cs ds es h k
twice_extended (None ∷ cs) (Some y ∷ ds) (e ∷ es) h k = twice_extended cs ds es h k.1
twice_extended (Some x ∷ cs) (None ∷ ds) (e ∷ es) h k = absurd (let z = h.0 in cc)
twice_extended (Some x ∷ cs) (Some y ∷ ds) (e ∷ es) h k = (k.0 ∙ h.0, twice_extended cs ds es h.1 k.1)

pub cell_kept : (v : ℕ) (ds es : Cells) (x : Term) → IsExtended ds es → cell_or_unbound (slice_get ds v) ≡ Some x → cell_or_unbound (slice_get es v) ≡ Some x
cell_kept v [] es x h e = absurd (cc)
cell_kept v (d ∷ ds) [] x h e = absurd h
cell_kept zero (None ∷ ds) (f ∷ es) x h e = absurd (cc)
cell_kept zero (Some y ∷ ds) (f ∷ es) x h e = h.0 ∙ e
cell_kept (suc v) (None ∷ ds) (f ∷ es) x h e = cell_kept v ds es x h e
cell_kept (suc v) (Some y ∷ ds) (f ∷ es) x h e = cell_kept v ds es x h.1 e

pub value_kept : (s : Spot) (ds es : Cells) (x : Term) → IsExtended ds es → value_at ds s ≡ Some x → value_at es s ≡ Some x
value_kept (Fixed t) ds es x h e = e
value_kept (Var v) ds es x h e = cell_kept v ds es x h e

-- ---- what is bound has the binding, and extends the row

-- the property holds of the row, if there is one
abbrev pub Holds : (Cells → Type 0) → Option Cells → Type 0
Holds P None = Unit {0}
Holds P (Some ds) = P ds

abbrev Adds : Cells → Spot → Term → Cells → Type 0
Adds cs s x ds = IsExtended cs ds × (value_at ds s ≡ Some x)

pub if_holds : (P : Cells → Type 0) (b : Bool) (ds : Cells) → (b ≡ true → P ds) → Holds P (if b then Some ds else None)
if_holds P true ds h = h refl
if_holds P false ds h = tt

under_adds : (c : Option Term) (cs : Cells) (v : ℕ) (x : Term) (o : Option Cells) → Holds (Adds cs (Var v) x) o → Holds (Adds (c ∷ cs) (Var (suc v)) x) (under c o)
under_adds c cs v x None h = tt
under_adds c cs v x (Some ds) h = (under_extended c cs ds h.0, h.1)

bound_adds : (v : ℕ) (x : Term) (cs : Cells) → Holds (Adds cs (Var v) x) (bound_to v x cs)
bound_adds v x [] = tt
bound_adds zero x (None ∷ cs) = (same_extended cs, refl)
bound_adds zero x (Some y ∷ cs) = if_holds (Adds (Some y ∷ cs) (Var zero) x) (same_term y x) (Some y ∷ cs) (λ h. (same_extended (Some y ∷ cs), ap (λ (z : Term). Some z) ((term_Decides y x).0 h)))
bound_adds (suc v) x (c ∷ cs) = under_adds c cs v x (bound_to v x cs) (bound_adds v x cs)

spot_adds : (s : Spot) (x : Term) (cs : Cells) → Holds (Adds cs s x) (bound_spot s x cs)
spot_adds (Fixed t) x cs = if_holds (Adds cs (Fixed t) x) (same_term t x) cs (λ h. (same_extended cs, ap (λ (z : Term). Some z) ((term_Decides t x).0 h)))
spot_adds (Var v) x cs = bound_adds v x cs

pub each_holds : (P Q : Cells → Type 0) → ((ds : Cells) → P ds → Q ds) → (o : Option Cells) → Holds P o → Holds Q o
each_holds P Q f None h = tt
each_holds P Q f (Some ds) h = f ds h

then_holds : (P Q : Cells → Type 0) (s : Spot) (x : Term) → ((ds es : Cells) → P ds → Adds ds s x es → Q es) → (o : Option Cells) → Holds P o → Holds Q (then_bound s x o)
then_holds P Q s x f None h = tt
then_holds P Q s x f (Some ds) h = each_holds (Adds ds s x) Q (λ es a. f ds es h a) (bound_spot s x ds) (spot_adds s x ds)

abbrev Extending : TriplePattern → Triple → Cells → Cells → Type 0
Extending p t row ds = IsExtended row ds × Gives p t ds

bound_extends : (p : TriplePattern) (t : Triple) (row : Cells) → Holds (Extending p t row) (bound p t row)
bound_extends p t row =
    let Two : Cells → Type 0 = λ ds. IsExtended row ds × (value_at ds p.s ≡ Some t.s) × (value_at ds p.p ≡ Some t.p) in
    then_holds Two (Extending p t row) p.o t.o
    (λ ds es h a. (twice_extended row ds es h.0 a.0, (value_kept p.s ds es t.s a.0 h.1, value_kept p.p ds es t.p a.0 h.2, a.1)))
    (then_bound p.p t.p (bound_spot p.s t.s row))
    (then_holds (Adds row p.s t.s) Two p.p t.p
    (λ ds es h a. (twice_extended row ds es h.0 a.0, value_kept p.s ds es t.s a.0 h.1, a.1))
    (bound_spot p.s t.s row) (spot_adds p.s t.s row))

-- ---- each row that does so extends what is bound

-- there is a row, and the other extends it
abbrev pub Below : Cells → Option Cells → Type 0
Below es None = ⊥
Below es (Some ds) = IsExtended ds es

if_below : (b : Bool) (ds es : Cells) → b ≡ true → IsExtended ds es → Below es (if b then Some ds else None)
if_below true ds es e h = h
if_below false ds es e h = absurd (cc)

none_below : (d : Option Term) (es : Cells) (o : Option Cells) → Below es o → Below (d ∷ es) (under None o)
none_below d es None h = absurd h
none_below d es (Some ds) h = h

some_below : (x : Term) (d : Option Term) (es : Cells) (o : Option Cells) → d ≡ Some x → Below es o → Below (d ∷ es) (under (Some x) o)
some_below x d es None e h = absurd h
some_below x d es (Some ds) e h = (e, h)

bound_below : (v : ℕ) (x : Term) (cs es : Cells) → IsExtended cs es → cell_or_unbound (slice_get es v) ≡ Some x → Below es (bound_to v x cs)
bound_below v x [] [] h e = absurd (cc)
bound_below v x [] (d ∷ es) h e = absurd h
bound_below v x (c ∷ cs) [] h e = absurd h
bound_below zero x (None ∷ cs) (d ∷ es) h e = (e, h)
bound_below zero x (Some y ∷ cs) (d ∷ es) h e = if_below (same_term y x) (Some y ∷ cs) (d ∷ es) ((term_Decides y x).1 (same_Some y x (sym h.0 ∙ e))) h
bound_below (suc v) x (None ∷ cs) (d ∷ es) h e = none_below d es (bound_to v x cs) (bound_below v x cs es h e)
bound_below (suc v) x (Some y ∷ cs) (d ∷ es) h e = some_below y d es (bound_to v x cs) h.0 (bound_below v x cs es h.1 e)

spot_below : (s : Spot) (x : Term) (cs es : Cells) → IsExtended cs es → value_at es s ≡ Some x → Below es (bound_spot s x cs)
spot_below (Fixed t) x cs es h e = if_below (same_term t x) cs es ((term_Decides t x).1 (same_Some t x e)) h
spot_below (Var v) x cs es h e = bound_below v x cs es h e

then_below : (s : Spot) (x : Term) (es : Cells) → value_at es s ≡ Some x → (o : Option Cells) → Below es o → Below es (then_bound s x o)
then_below s x es e None h = absurd h
then_below s x es e (Some ds) h = spot_below s x ds es h e

pub pattern_below : (p : TriplePattern) (t : Triple) (row es : Cells) → IsExtended row es → Gives p t es → Below es (bound p t row)
pattern_below p t row es h g =
    then_below p.o t.o es g.2 (then_bound p.p t.p (bound_spot p.s t.s row)) (then_below p.p t.p es g.1 (bound_spot p.s t.s row) (spot_below p.s t.s row es h g.0))

binding_of : (p : TriplePattern) (t : Triple) (row : Cells) (o : Option Cells) → Holds (Extending p t row) o → ((es : Cells) → IsExtended row es → Gives p t es → Below es o) → IsBinding p t row o
binding_of p t row None h below = below
binding_of p t row (Some ds) h below = record { extends = h.0; gives = h.1; none_below = below }

pub bound_is_binding : (p : TriplePattern) (t : Triple) (row : Cells) → IsBinding p t row (bound p t row)
bound_is_binding p t row = binding_of p t row (bound p t row) (bound_extends p t row) (pattern_below p t row)

pub binding : (p : TriplePattern) (t : Triple) (row : Cells) (o : Option Cells) → o ≡ bound p t row → IsBinding p t row o
binding p t row o e = subst (IsBinding p t row) (sym e) (bound_is_binding p t row)

-- ---- the tests decide whether there is a row

cell_taken : (v : ℕ) (cs es : Cells) (x : Term) → IsExtended cs es → cell_or_unbound (slice_get es v) ≡ Some x → cell_takes (slice_get cs v) x ≡ true
cell_taken v [] [] x h e = absurd (cc)
cell_taken v [] (d ∷ es) x h e = absurd h
cell_taken v (c ∷ cs) [] x h e = absurd h
cell_taken zero (None ∷ cs) (d ∷ es) x h e = refl
cell_taken zero (Some y ∷ cs) (d ∷ es) x h e = (term_Decides y x).1 (same_Some y x (sym h.0 ∙ e))
cell_taken (suc v) (None ∷ cs) (d ∷ es) x h e = cell_taken v cs es x h e
cell_taken (suc v) (Some y ∷ cs) (d ∷ es) x h e = cell_taken v cs es x h.1 e

taken : (s : Spot) (cs es : Cells) (x : Term) → IsExtended cs es → value_at es s ≡ Some x → takes cs s x ≡ true
taken (Fixed t) cs es x h e = (term_Decides t x).1 (same_Some t x e)
taken (Var v) cs es x h e = cell_taken v cs es x h e

agreed : (es : Cells) (s p : Spot) (x y : Term) → value_at es s ≡ Some x → value_at es p ≡ Some y → agree s p x y ≡ true
agreed es (Fixed t) p x y e f = refl
agreed es (Var v) (Fixed u) x y e f = refl
agreed es (Var v) (Var w) x y e f =
    elim (numbers v w) [ inl q ↦ if_same (v == w) x y (same_Some x y (sym e ∙ (ap (λ (n : ℕ). cell_or_unbound (slice_get es n)) q ∙ f))) | inr n ↦ if_not (v == w) x y n ]

bindable : (p : TriplePattern) (t : Triple) (row es : Cells) → Extending p t row es → is_bindable p t row ≡ true
bindable p t row es h =
    both_and (takes row p.s t.s) _ (taken p.s row es t.s h.0 h.1.0)
    (both_and (takes row p.p t.p && agree p.s p.p t.s t.p) _ (both_and (takes row p.p t.p) _ (taken p.p row es t.p h.0 h.1.1) (agreed es p.s p.p t.s t.p h.1.0 h.1.1))
    (both_and (takes row p.o t.o && agree p.s p.o t.s t.o) _ (both_and (takes row p.o t.o) _ (taken p.o row es t.o h.0 h.1.2) (agreed es p.s p.o t.s t.o h.1.0 h.1.2))
    (agreed es p.p p.o t.p t.o h.1.1 h.1.2)))

none_if : (p : TriplePattern) (t : Triple) (row : Cells) (o : Option Cells) → Holds (Extending p t row) o → is_bindable p t row ≡ false → o ≡ None
none_if p t row None h e = refl
none_if p t row (Some es) h e = let b = bindable p t row es h in absurd (cc)

pub not_bindable : (p : TriplePattern) (t : Triple) (row : Cells) → is_bindable p t row ≡ false → bound p t row ≡ None
not_bindable p t row h = none_if p t row (bound p t row) (bound_extends p t row) h

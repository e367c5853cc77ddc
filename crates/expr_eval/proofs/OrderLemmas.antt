-- The order of terms by cases, as the code takes them.
use Rattle.std.proofs.Common.{◌≡◌, ◌∙◌, ℕ, ◌<◌, Bool, List, Option, Some, None, refl, ap, sym, arith}
use Rattle.std.specs.declared.cmp.Ordering.{Ordering}
use Rattle.std.specs.declared.cmp.Ordering.TheVariants.{Less, Equal, Greater}
use Rattle.std.specs.Ordering.{nat_cmp, int_cmp, ordering_then}
use Rattle.std.proofs.lemmas.Bool.Decides.{nat_tests}
use Rattle.value_core.specs.declared.numbers.Number.{Number}
use Rattle.rdf_terms.specs.declared.term.Term.{Term}
use Rattle.rdf_terms.specs.declared.term.Term.TheVariants.{Blank, Iri, Literal}
use Rattle.rdf_terms.specs.Order.{text_cmp, tag_cmp}
use Rattle.expr_eval.specs.declared.ordering.Kind.{Kind}
use Rattle.expr_eval.specs.declared.ordering.Kind.TheVariants.{Number as NumberKind, Boolean, Text, Other}
use Rattle.expr_eval.specs.Order.{Key, key_by, key_of, key_cmp, rest_cmp, kind_of, term_order, form_cmp, truth_value}

less_rank : (m n : ℕ) → m < n → nat_cmp m n ≡ Less
less_rank m n h = grind (arith, nat_tests)

more_rank : (m n : ℕ) → n < m → nat_cmp m n ≡ Greater
more_rank m n h = grind (arith, nat_tests)

first_less : (o rest : Ordering) → o ≡ Less → ordering_then o rest ≡ Less
first_less Less rest e = refl
first_less Equal rest e = cc
first_less Greater rest e = cc

first_more : (o rest : Ordering) → o ≡ Greater → ordering_then o rest ≡ Greater
first_more Less rest e = cc
first_more Equal rest e = cc
first_more Greater rest e = refl

lower : (j k : Key) → j.rank < k.rank → key_cmp j k ≡ Less
lower j k h = first_less (nat_cmp j.rank k.rank) (rest_cmp j k) (less_rank j.rank k.rank h)

higher : (j k : Key) → k.rank < j.rank → key_cmp j k ≡ Greater
higher j k h = first_more (nat_cmp j.rank k.rank) (rest_cmp j k) (more_rank j.rank k.rank h)

-- a literal comes after what is none
literal_rank : (kind : Kind) (x : List ℕ) (t : Option (List ℕ)) (a : List ℕ) → 2 < (key_by kind x t a).rank
literal_rank (NumberKind n) x t a = omega arith
literal_rank (Boolean b) x t a = omega arith
literal_rank Text x t a = omega arith
literal_rank Other x t a = omega arith

pub blank_literal : (a b : Term) (d : List ℕ) (n : ℕ) (x : List ℕ) (t : Option (List ℕ)) (l : List ℕ) → a ≡ Blank d n → b ≡ Literal x t l → Less ≡ term_order (Some a) (Some b)
blank_literal a b d n x t l p q =
    let large = literal_rank (kind_of l x) x t l in
    rw (p, q) (sym (lower (key_of (Some (Blank d n))) (key_by (kind_of l x) x t l) (omega (arith, large))))

pub literal_blank : (a b : Term) (d : List ℕ) (n : ℕ) (x : List ℕ) (t : Option (List ℕ)) (l : List ℕ) → a ≡ Literal x t l → b ≡ Blank d n → Greater ≡ term_order (Some a) (Some b)
literal_blank a b d n x t l p q =
    let large = literal_rank (kind_of l x) x t l in
    rw (p, q) (sym (higher (key_by (kind_of l x) x t l) (key_of (Some (Blank d n))) (omega (arith, large))))

pub iri_literal : (a b : Term) (s : List ℕ) (x : List ℕ) (t : Option (List ℕ)) (l : List ℕ) → a ≡ Iri s → b ≡ Literal x t l → Less ≡ term_order (Some a) (Some b)
iri_literal a b s x t l p q =
    let large = literal_rank (kind_of l x) x t l in
    rw (p, q) (sym (lower (key_of (Some (Iri s))) (key_by (kind_of l x) x t l) (omega (arith, large))))

pub literal_iri : (a b : Term) (s : List ℕ) (x : List ℕ) (t : Option (List ℕ)) (l : List ℕ) → a ≡ Literal x t l → b ≡ Iri s → Greater ≡ term_order (Some a) (Some b)
literal_iri a b s x t l p q =
    let large = literal_rank (kind_of l x) x t l in
    rw (p, q) (sym (higher (key_by (kind_of l x) x t l) (key_of (Some (Iri s))) (omega (arith, large))))

-- what is unbound comes before each term
bound_rank : (a : Term) → 0 < (key_of (Some a)).rank
bound_rank (Blank d n) = omega arith
bound_rank (Iri s) = omega arith
bound_rank (Literal x t a) = let large = literal_rank (kind_of a x) x t a in omega (arith, large)

pub unbound_first : (a : Term) → term_order None (Some a) ≡ Less
unbound_first a = lower (key_of None) (key_of (Some a)) (bound_rank a)

pub unbound_last : (a : Term) → term_order (Some a) None ≡ Greater
unbound_last a = higher (key_of (Some a)) (key_of None) (bound_rank a)

then_nothing : (o : Ordering) → ordering_then o Equal ≡ o
then_nothing Less = refl
then_nothing Equal = refl
then_nothing Greater = refl

-- two literals of one kind
pub numbers_order : (x : List ℕ) (t : Option (List ℕ)) (a y : List ℕ) (u : Option (List ℕ)) (b : List ℕ) (m n : Number) → kind_of a x ≡ NumberKind m → kind_of b y ≡ NumberKind n
    → term_order (Some (Literal x t a)) (Some (Literal y u b)) ≡ ordering_then (int_cmp m.scaled n.scaled) (form_cmp x t a y u b)
numbers_order x t a y u b m n p q =
    ap (λ (k : Kind). key_cmp (key_by k x t a) (key_by (kind_of b y) y u b)) p
    ∙ ap (λ (k : Kind). key_cmp (key_by (NumberKind m) x t a) (key_by k y u b)) q
    ∙ ap (λ (o : Ordering). ordering_then (int_cmp m.scaled n.scaled) (ordering_then (text_cmp a b) (ordering_then (text_cmp x y) o))) (then_nothing (tag_cmp t u))

pub booleans_order : (x : List ℕ) (t : Option (List ℕ)) (a y : List ℕ) (u : Option (List ℕ)) (b : List ℕ) (m n : Bool) → kind_of a x ≡ Boolean m → kind_of b y ≡ Boolean n
    → term_order (Some (Literal x t a)) (Some (Literal y u b)) ≡ ordering_then (int_cmp (truth_value m) (truth_value n)) (form_cmp x t a y u b)
booleans_order x t a y u b m n p q =
    ap (λ (k : Kind). key_cmp (key_by k x t a) (key_by (kind_of b y) y u b)) p
    ∙ ap (λ (k : Kind). key_cmp (key_by (Boolean m) x t a) (key_by k y u b)) q
    ∙ ap (λ (o : Ordering). ordering_then (int_cmp (truth_value m) (truth_value n)) (ordering_then (text_cmp a b) (ordering_then (text_cmp x y) o))) (then_nothing (tag_cmp t u))

pub texts_order : (x : List ℕ) (t : Option (List ℕ)) (a y : List ℕ) (u : Option (List ℕ)) (b : List ℕ) → kind_of a x ≡ Text → kind_of b y ≡ Text
    → term_order (Some (Literal x t a)) (Some (Literal y u b)) ≡ form_cmp x t a y u b
texts_order x t a y u b p q =
    ap (λ (k : Kind). key_cmp (key_by k x t a) (key_by (kind_of b y) y u b)) p
    ∙ ap (λ (k : Kind). key_cmp (key_by Text x t a) (key_by k y u b)) q
    ∙ ap (λ (o : Ordering). ordering_then (text_cmp a b) (ordering_then (text_cmp x y) o)) (then_nothing (tag_cmp t u))

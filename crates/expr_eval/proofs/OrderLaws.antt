-- The order of terms is total, and only equal terms tie.
use Rattle.std.proofs.Common.{◌≡◌, ◌∙◌, ℕ, List, Option, Some, None, refl, ap, sym, rules, cond, ◌==◌}
use Rattle.std.specs.declared.cmp.Ordering.{Ordering}
use Rattle.std.specs.declared.cmp.Ordering.TheVariants.{Less, Equal, Greater}
use Rattle.std.specs.Ordering.{nat_cmp, int_cmp, ordering_then}
use Rattle.std.specs.Cmp.{IsTotalOrder}
use Rattle.std.specs.Cmp.Rules.{comparing}
use Rattle.std.specs.FinMap.{nat_cmp-IsAntisymmetric, slice_cmp-IsAntisymmetric}
use Rattle.rdf_terms.specs.declared.term.Term.{Term}
use Rattle.rdf_terms.specs.declared.term.Term.TheVariants.{Blank, Iri, Literal}
use Rattle.rdf_terms.specs.Order.{text_cmp, tag_cmp}
use Rattle.expr_eval.specs.declared.ordering.Kind.{Kind}
use Rattle.expr_eval.specs.declared.ordering.Kind.TheVariants.{Number as NumberKind, Boolean, Text, Other}
use Rattle.expr_eval.specs.Order.{Key, key_by, key_of, key_cmp, kind_of, term_order}

pub term_order-total : IsTotalOrder term_order
term_order-total = search (comparing, rules) depth 16

then_equal : (o p : Ordering) → ordering_then o p ≡ Equal → (o ≡ Equal) × (p ≡ Equal)
then_equal Less p e = cc
then_equal Equal p e = (refl, e)
then_equal Greater p e = cc

text_tied : (a b : List ℕ) → text_cmp a b ≡ Equal → a ≡ b
text_tied = slice_cmp-IsAntisymmetric nat_cmp-IsAntisymmetric

tag_tied : (t u : Option (List ℕ)) → tag_cmp t u ≡ Equal → t ≡ u
tag_tied None None e = refl
tag_tied None (Some b) e = cc
tag_tied (Some a) None e = cc
tag_tied (Some a) (Some b) e = ap Some (text_tied a b e)

-- the term whose key has these parts
abbrev term_from : ℕ → List ℕ → ℕ → List ℕ → Option (List ℕ) → List ℕ → Option Term
term_from rank first count second tag third =
    cond (rank == 0) None (cond (rank == 1) (Some (Blank first count)) (cond (rank == 2) (Some (Iri first))
    (cond (rank == 6) (Some (Literal first tag third)) (Some (Literal second tag first)))))

abbrev term_of_key : Key → Option Term
term_of_key k = term_from k.rank k.first k.count k.second k.tag k.third

literal_back : (kind : Kind) (x : List ℕ) (t : Option (List ℕ)) (a : List ℕ) → term_of_key (key_by kind x t a) ≡ Some (Literal x t a)
literal_back (NumberKind n) x t a = refl
literal_back (Boolean b) x t a = refl
literal_back Text x t a = refl
literal_back Other x t a = refl

-- a key gives back its term
term_back : (a : Option Term) → term_of_key (key_of a) ≡ a
term_back None = refl
term_back (Some (Blank d n)) = refl
term_back (Some (Iri s)) = refl
term_back (Some (Literal x t a)) = literal_back (kind_of a x) x t a

-- keys that tie give one term
same_back : (j k : Key) → key_cmp j k ≡ Equal → term_of_key j ≡ term_of_key k
same_back j k e =
    let by_rank = then_equal (nat_cmp j.rank k.rank) _ e in
    let by_value = then_equal (int_cmp j.value k.value) _ by_rank.1 in
    let by_first = then_equal (text_cmp j.first k.first) _ by_value.1 in
    let by_count = then_equal (nat_cmp j.count k.count) _ by_first.1 in
    let by_second = then_equal (text_cmp j.second k.second) _ by_count.1 in
    let by_tag = then_equal (tag_cmp j.tag k.tag) _ by_second.1 in
    let rank : j.rank ≡ k.rank = nat_cmp-IsAntisymmetric j.rank k.rank by_rank.0 in
    let first : j.first ≡ k.first = text_tied j.first k.first by_first.0 in
    let count : j.count ≡ k.count = nat_cmp-IsAntisymmetric j.count k.count by_count.0 in
    let second : j.second ≡ k.second = text_tied j.second k.second by_second.0 in
    let tag : j.tag ≡ k.tag = tag_tied j.tag k.tag by_tag.0 in
    let third : j.third ≡ k.third = text_tied j.third k.third by_tag.1 in
    rw (rank, first, count, second, tag, third) refl

pub term_order-ties : (a b : Option Term) → term_order a b ≡ Equal → a ≡ b
term_order-ties a b e = sym (term_back a) ∙ same_back (key_of a) (key_of b) e ∙ term_back b

-- The rows that the patterns lead to in turn are the pattern instance mappings, each once.
use Rattle.std.proofs.Common.{ℕ, zero, suc, ◌≡◌, ◌⊎◌, List, [], ◌∷◌, flat_map, length, Option, Some, None, refl, sym, ◌∙◌, ap, subst, inl, inr, arith}
use Rattle.std.specs.Prelude.{◌↔◌, option_to_list}
use Rattle.std.proofs.lemmas.Option.{same_Some}
use Rattle.rdf_terms.specs.declared.term.Term.{Term}
use Rattle.rdf_terms.specs.declared.triple.Triple.{Triple}
use Rattle.rdf_terms.specs.Lists.{IsIn, Apart}
use Rattle.rdf_terms.specs.Same.{same_triple}
use Rattle.rdf_terms.proofs.Adding.{triple_tells}
use Rattle.rows_core.specs.declared.pattern.TriplePattern.{TriplePattern}
use Rattle.rows_core.specs.Patterns.{Mentions}
use Rattle.rows_core.specs.Rows.{Cells, Binds, unbound}
use Rattle.rows_core.specs.Bindings.{IsExtended, Gives, bound, extensions}
use Rattle.rows_core.proofs.Bindable.{same_extended, twice_extended, value_kept}
use Rattle.rows_core.proofs.Domains.{binds_kept, one_binding, extended_width, nothing_new, IsOver, one_row, bound_mentions, bound_least, bound_there, mentioned, More, over_bound, one_triple}
use Rattle.algebra_core.specs.Graphs.{graph, extended, all_extended}
use Rattle.algebra_core.specs.Bags.{IsWithin}
use Rattle.algebra_core.specs.PatternInstances.{AreTriples, MentionedIn, IsPatternInstance}
use Rattle.algebra_core.proofs.Flat.{in_flat, from_flat, apart_flat}
use Rattle.algebra_core.proofs.SolutionBags.{once_within, within_once, once_apart}

-- ---- one pattern

from_option : (o : Option Cells) (m : Cells) → IsIn (option_to_list o) m → o ≡ Some m
from_option None m h = absurd h
from_option (Some c) m (inl e) = ap (λ (z : Cells). Some z) e
from_option (Some c) m (inr h) = absurd h

in_option : (o : Option Cells) (m : Cells) → o ≡ Some m → IsIn (option_to_list o) m
in_option None m e = absurd (cc)
in_option (Some c) m e = inl (same_Some c m e)

apart_option : (o : Option Cells) → Apart (option_to_list o)
apart_option None = tt
apart_option (Some c) = ((λ h. h), tt)

-- the row is made of a row and a triple
record IsMade (p : TriplePattern) (g : List Triple) (rows : List Cells) (m : Cells) : Type 0 where
  row : Cells
  triple : Triple
  from : IsIn rows row
  of : IsIn g triple
  is : bound p triple row ≡ Some m

made : (p : TriplePattern) (g : List Triple) (rows : List Cells) (m : Cells) → IsIn (extended p g rows) m → IsMade p g rows m
made p g rows m h =
    let r = from_flat (λ row. flat_map (λ t. extensions p t row) g) rows m h in
    let s = from_flat (λ t. extensions p t r.0) g m r.2 in
    record { row = r.0; triple = s.0; from = r.1; of = s.1; is = from_option (bound p s.0 r.0) m s.2 }

make : (p : TriplePattern) (g : List Triple) (rows : List Cells) (row m : Cells) (t : Triple) → IsIn rows row → IsIn g t → bound p t row ≡ Some m → IsIn (extended p g rows) m
make p g rows row m t h k e =
    in_flat (λ (c : Cells). flat_map (λ u. extensions p u c) g) rows row m h (in_flat (λ u. extensions p u row) g t m k (in_option (bound p t row) m e))

-- ---- the patterns in turn

-- the second row extends the first, by the patterns' variables alone, and gives triples
record Leads (ps : List TriplePattern) (g : List Triple) (row r : Cells) : Type 0 where
  extends : IsExtended row r
  triples : AreTriples ps g r
  variables : (v : ℕ) (x : Term) → Binds r v x → Binds row v x ⊎ MentionedIn ps v

gives_kept : (p : TriplePattern) (t : Triple) (m r : Cells) → IsExtended m r → Gives p t m → Gives p t r
gives_kept p t m r h g = (value_kept p.s m r t.s h g.0, value_kept p.p m r t.p h g.1, value_kept p.o m r t.o h g.2)

led : (ps : List TriplePattern) (g : List Triple) (rows : List Cells) (r : Cells) → IsIn (all_extended ps g rows) r → (row : Cells) × IsIn rows row × Leads ps g row r
led [] g rows r h = (r, h, record { extends = same_extended r; triples = tt; variables = λ v x b. inl b })
led (p ∷ ps) g rows r h =
    let n = led ps g (extended p g rows) r h in
    let s = made p g rows n.0 n.1 in
    let least = bound_least p s.triple s.row n.0 s.is in (
      s.row,
      s.from,
      record {
        extends = twice_extended s.row n.0 r least.extends n.2.extends;
        triples = ((s.triple, s.of, gives_kept p s.triple n.0 r n.2.extends least.gives), n.2.triples);
        variables = λ v x b. elim (n.2.variables v x b) [
          | inl l ↦ elim (bound_mentions p s.triple s.row n.0 s.is v x l) [ inl i ↦ inl i | inr j ↦ inr (inl j) ]
          | inr q ↦ inr (inr q)
        ];
      },
    )

-- a variable of the pattern has its term already in the least row
bound_there_too : (p : TriplePattern) (t : Triple) (m r : Cells) (v : ℕ) (x : Term) → IsExtended m r → Gives p t m → Binds r v x → Mentions p v → Binds m v x
bound_there_too p t m r v x h g b i =
    let w = mentioned p t m v g i in
    subst (λ (z : Term). Binds m v z) (one_binding v r w.0 x (binds_kept v m r w.0 h w.1) b) w.1

lead : (ps : List TriplePattern) (g : List Triple) (rows : List Cells) (row r : Cells) → IsIn rows row → Leads ps g row r → IsIn (all_extended ps g rows) r
lead [] g rows row r h e = subst (λ (c : Cells). IsIn rows c) (nothing_new row r e.extends (λ v x b. elim (e.variables v x b) [ inl l ↦ l | inr q ↦ absurd q ])) h
lead (p ∷ ps) g rows row r h e =
    let t = e.triples.0 in
    let m = bound_there p t.0 row r e.extends t.2 in
    let least = bound_least p t.0 row m.0 m.1 in
    lead ps g (extended p g rows) m.0 r (make p g rows row m.0 t.0 h t.1 m.1)
    (record {
      extends = m.2;
      triples = e.triples.1;
      variables = λ v x b. elim (e.variables v x b) [
        | inl l ↦ inl (binds_kept v row m.0 x least.extends l)
        | inr q ↦ elim q [ inl i ↦ inl (bound_there_too p t.0 m.0 r v x m.2 least.gives b i) | inr j ↦ inr j ]
      ];
    })

-- ---- from the row that binds nothing

unbound_extended : (width : ℕ) (r : Cells) → length r ≡ width → IsExtended (unbound width) r
unbound_extended zero [] e = tt
unbound_extended zero (c ∷ cs) e = absurd (omega arith)
unbound_extended (suc n) [] e = absurd (omega arith)
unbound_extended (suc n) (c ∷ cs) e = unbound_extended n cs (omega arith)

unbound_width : (width : ℕ) → length (unbound width) ≡ width
unbound_width zero = refl
unbound_width (suc n) = ap suc (unbound_width n)

unbound_binds : (width v : ℕ) (x : Term) → Binds (unbound width) v x → ⊥
unbound_binds zero v x e = cc
unbound_binds (suc n) zero x e = let z : None ≡ Some x = same_Some None (Some x) e in cc
unbound_binds (suc n) (suc v) x e = unbound_binds n v x e

abbrev start : ℕ → List Cells
start width = unbound width ∷ []

is_instance : (ps : List TriplePattern) (width : ℕ) (g : List Triple) (row r : Cells) → IsIn (start width) row → Leads ps g row r → IsPatternInstance ps width g r
is_instance ps width g row r (inl f) e =
    let s : Leads ps g (unbound width) r = subst (λ (c : Cells). Leads ps g c r) (sym f) e in
    record {
      width = extended_width (unbound width) r s.extends ∙ unbound_width width;
      triples = s.triples;
      variables = λ v x b. elim (s.variables v x b) [ inl l ↦ absurd (unbound_binds width v x l) | inr q ↦ q ];
    }
is_instance ps width g row r (inr h) e = absurd h

pub found_instance : (ps : List TriplePattern) (width : ℕ) (g : List Triple) (r : Cells) → IsIn (all_extended ps g (unbound width ∷ [])) r → IsPatternInstance ps width g r
found_instance ps width g r h = let n = led ps g (start width) r h in is_instance ps width g n.0 r n.1 n.2

pub instance_found : (ps : List TriplePattern) (width : ℕ) (g : List Triple) (r : Cells) → IsPatternInstance ps width g r → IsIn (all_extended ps g (unbound width ∷ [])) r
instance_found ps width g r s =
    lead ps g (start width) (unbound width) r (inl refl) (record { extends = unbound_extended width r s.width; triples = s.triples; variables = λ v x b. inr (s.variables v x b) })

triples_within : (ps : List TriplePattern) (g h : List Triple) (r : Cells) → IsWithin g h → AreTriples ps g r → AreTriples ps h r
triples_within [] g h r w a = tt
triples_within (p ∷ ps) g h r w a = ((a.0.0, w a.0.0 a.0.1, a.0.2), triples_within ps g h r w a.1)

instance_within : (ps : List TriplePattern) (width : ℕ) (g h : List Triple) (r : Cells) → IsWithin g h → IsPatternInstance ps width g r → IsPatternInstance ps width h r
instance_within ps width g h r w s = record { width = s.width; triples = triples_within ps g h r w s.triples; variables = s.variables }

pub are_instances : (ps : List TriplePattern) (width : ℕ) (g : List Triple) (r : Cells) → IsIn (all_extended ps (graph g) (unbound width ∷ [])) r ↔ IsPatternInstance ps width g r
are_instances ps width g r = (
  (λ h. instance_within ps width (graph g) g r (once_within same_triple triple_tells g) (found_instance ps width (graph g) r h)),
  (λ s. instance_found ps width (graph g) r (instance_within ps width g (graph g) r (within_once same_triple triple_tells g) s)),
)

-- ---- each once

apart_extended : (D : ℕ → Type 0) (p : TriplePattern) (g : List Triple) (rows : List Cells) → Apart g → Apart rows → ((row : Cells) → IsIn rows row → IsOver D row) → Apart (extended p g rows)
apart_extended D p g rows a b o =
    apart_flat (λ (row : Cells). flat_map (λ t. extensions p t row) g) rows b
    (λ row h. apart_flat (λ t. extensions p t row) g a (λ t k. apart_option (bound p t row))
    (λ t u m i j k l. one_triple p t u m (bound_least p t row m (from_option (bound p t row) m k)).gives (bound_least p u row m (from_option (bound p u row) m l)).gives))
    (λ row other m h k i j.
    let s = from_flat (λ t. extensions p t row) g m i in
    let z = from_flat (λ t. extensions p t other) g m j in
    one_row D row other m (o row h) (o other k) (bound_least p s.0 row m (from_option (bound p s.0 row) m s.2)).extends (bound_least p z.0 other m (from_option (bound p z.0 other) m z.2)).extends)

apart_all : (D : ℕ → Type 0) (ps : List TriplePattern) (g : List Triple) (rows : List Cells) → Apart g → Apart rows → ((row : Cells) → IsIn rows row → IsOver D row) → Apart (all_extended ps g rows)
apart_all D [] g rows a b o = b
apart_all D (p ∷ ps) g rows a b o =
    apart_all (More D p) ps g (extended p g rows) a (apart_extended D p g rows a b o)
    (λ m h. let s = made p g rows m h in over_bound D p s.triple s.row m (o s.row s.from) s.is)

abbrev Nothing : ℕ → Type 0
Nothing v = ⊥

over_nothing : (width : ℕ) → IsOver Nothing (unbound width)
over_nothing width = record { of = λ v x e. unbound_binds width v x e; all = λ v d. absurd d }

over_start : (width : ℕ) (row : Cells) → IsIn (start width) row → IsOver Nothing row
over_start width row (inl e) = subst (λ (c : Cells). IsOver Nothing c) e (over_nothing width)
over_start width row (inr h) = absurd h

pub instances_apart : (ps : List TriplePattern) (width : ℕ) (g : List Triple) → Apart (all_extended ps (graph g) (unbound width ∷ []))
instances_apart ps width g = apart_all Nothing ps (graph g) (start width) (once_apart same_triple triple_tells g) ((λ h. h), tt) (over_start width)

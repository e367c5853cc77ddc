-- What is read where the first token is known.
use Rattle.std.proofs.Common.{◌≡◌, ◌<◌, List, [], ◌∷◌, ◌++◌, ◌∙◌, refl, sym, ap, true, false, length, arith}
use Rattle.grammar_model.specs.Parsers.{on, first_of_list, go, Outcome, Done, Rejected, Call, Advance, Return}
use Rattle.rows_core.specs.declared.pattern.Spot.{Spot}
use Rattle.rows_core.specs.declared.pattern.TriplePattern.{TriplePattern}
use Rattle.expr_eval.specs.declared.expr.Expr.{Expr}
use Rattle.algebra_core.specs.declared.algebra.Algebra.{Algebra}
use Rattle.algebra_translation.specs.Translation.{PartialGroup, Grouped, with_filter, with_triples, with_group, with_option}
use Rattle.sparql_resolve.specs.declared.fault.Fault.{Fault}
use Rattle.sparql_resolve.specs.declared.kind.Kind.TheVariants as kinds
use Rattle.sparql_resolve.specs.declared.kind.Token.{Token}
use Rattle.sparql_parser.specs.declared.tokens.Terminal.TheVariants as terminals
use Rattle.sparql_parser.specs.Grammar.{E, reads, is_terminal, triple, Object, ObjectList, MoreObjects, sparql, kind_of, choose, through, begins_term, GroupGraphPattern, GroupGraphPatternSub, TriplesOrElements, Elements, AfterElement, Filter, OptionalGraphPattern, GroupElement, GroupOrUnionGraphPattern, Constraint, TriplesBlock}
use Rattle.sparql_parser.proofs.Whole.{part_is}

module _ (stop : Fault) where
  passed : (o : E GroupGraphPatternSub) → on (sparql stop) {m = GroupGraphPatternSub} {q = GroupGraphPatternSub} o (λ v us. Done v us) ≡ o
  passed (Done v us) = refl
  passed (Rejected x) = refl

  pub no_triples_here : (s : PartialGroup) (ts : List Token) → begins_term (kind_of (first_of_list ts)) ≡ false → reads stop (TriplesOrElements s) ts ≡ reads stop (Elements s) ts
  no_triples_here s ts e =
      part_is stop (TriplesOrElements s) ts
      ∙ ap (λ b. go (sparql stop) (reads stop) (TriplesOrElements s) (choose b (Call (TriplesBlock s.patterns) (λ ps. through (Elements (with_triples s ps)))) (through (Elements s))) ts) e
      ∙ passed (reads stop (Elements s) ts)

  pub triples_here : (s : PartialGroup) (ts us : List Token) (ps : List TriplePattern) → begins_term (kind_of (first_of_list ts)) ≡ true → reads stop (TriplesBlock s.patterns) ts ≡ Done ps us
      → reads stop (TriplesOrElements s) ts ≡ reads stop (Elements (with_triples s ps)) us
  triples_here s ts us ps e h =
      part_is stop (TriplesOrElements s) ts
      ∙ ap (λ b. go (sparql stop) (reads stop) (TriplesOrElements s) (choose b (Call (TriplesBlock s.patterns) (λ qs. through (Elements (with_triples s qs)))) (through (Elements s))) ts) e
      ∙ ap (λ o. on (sparql stop) {m = TriplesOrElements s} {q = TriplesBlock s.patterns} o (λ qs vs. on (sparql stop) {m = TriplesOrElements s} {q = Elements (with_triples s qs)} (reads stop (Elements (with_triples s qs)) vs) (λ v ws. Done v ws))) h
      ∙ passed (reads stop (Elements (with_triples s ps)) us)

  pub filter_here : (s new : PartialGroup) (ts us : List Token) (e : Expr) → reads stop Constraint ts ≡ Done e us → new ≡ with_filter s e → reads stop (Filter s) ts ≡ reads stop (AfterElement new) us
  filter_here s new ts us e h w = part_is stop (Filter s) ts ∙ rw (h, w) (passed (reads stop (AfterElement (with_filter s e)) us))

  pub option_here : (s new : PartialGroup) (ts us : List Token) (g : Grouped) → reads stop GroupGraphPattern ts ≡ Done g us → new ≡ with_option s g → reads stop (OptionalGraphPattern s) ts ≡ reads stop (AfterElement new) us
  option_here s new ts us g h w = part_is stop (OptionalGraphPattern s) ts ∙ rw (h, w) (passed (reads stop (AfterElement (with_option s g)) us))

  pub groups_here : (s new : PartialGroup) (ts us : List Token) (a : Algebra) → reads stop GroupOrUnionGraphPattern ts ≡ Done a us → new ≡ with_group s a → reads stop (GroupElement s) ts ≡ reads stop (AfterElement new) us
  groups_here s new ts us a h w = part_is stop (GroupElement s) ts ∙ rw (h, w) (passed (reads stop (AfterElement (with_group s a)) us))

  pub at_filter : (s : PartialGroup) (t : Token) (ts : List Token) → t.kind ≡ kinds.Filter → reads stop (Elements s) (t ∷ ts) ≡ reads stop (Filter s) ts
  at_filter s t ts k = part_is stop (Elements s) (t ∷ ts) ∙ rw k (passed (reads stop (Filter s) ts))

  pub at_option : (s : PartialGroup) (t : Token) (ts : List Token) → t.kind ≡ kinds.Optional → reads stop (Elements s) (t ∷ ts) ≡ reads stop (OptionalGraphPattern s) ts
  at_option s t ts k = part_is stop (Elements s) (t ∷ ts) ∙ rw k (passed (reads stop (OptionalGraphPattern s) ts))

  pub at_group : (s : PartialGroup) (t : Token) (ts : List Token) → t.kind ≡ kinds.OpenBrace → reads stop (Elements s) (t ∷ ts) ≡ reads stop (GroupElement s) ts
  at_group s t ts k = part_is stop (Elements s) (t ∷ ts) ∙ rw k (passed (reads stop (GroupElement s) ts))

  passed_list : (o : Outcome Token Fault (List TriplePattern)) → on (sparql stop) {m = TriplesBlock []} {q = TriplesBlock []} o (λ v us. Done v us) ≡ o
  passed_list (Done v us) = refl
  passed_list (Rejected x) = refl

  -- one object more
  pub object_more : (s p o : Spot) (before mid new : List TriplePattern) (x : TriplePattern) (rest ts us : List Token) (t : Token) → is_terminal terminals.Comma t.kind ≡ true → rest ≡ t ∷ ts
      → reads stop (Object before) ts ≡ Done (mid, o) us → x ≡ triple s p o → new ≡ mid ++ x ∷ [] → reads stop (MoreObjects s p before) rest ≡ reads stop (MoreObjects s p new) us
  object_more s p o before mid new x rest ts us t e r h xe ne =
      ap (λ (l : List Token). reads stop (MoreObjects s p before) l) r
      ∙ (part_is stop (MoreObjects s p before) (t ∷ ts)
      ∙ (ap (λ b. go (sparql stop) (reads stop) (MoreObjects s p before) (choose b (Advance (through (ObjectList s p before))) (Return before)) (t ∷ ts)) e
      ∙ (passed_list (reads stop (ObjectList s p before) ts)
      ∙ (part_is stop (ObjectList s p before) ts
      ∙ (ap (λ q. on (sparql stop) {m = ObjectList s p before} {q = Object before} q (λ y vs. on (sparql stop) {m = ObjectList s p before} {q = MoreObjects s p (y.0 ++ triple s p y.1 ∷ [])} (reads stop (MoreObjects s p (y.0 ++ triple s p y.1 ∷ [])) vs) (λ v ws. Done v ws))) h
      ∙ (passed_list (reads stop (MoreObjects s p (mid ++ triple s p o ∷ [])) us)
      ∙ ap (λ (l : List TriplePattern). reads stop (MoreObjects s p l) us) (sym (ne ∙ ap (λ (y : TriplePattern). mid ++ y ∷ []) xe))))))))

pub still_within : (rest ts us all : List Token) (t : Token) → rest ≡ t ∷ ts → length us < length ts → length rest < length all → length us < length all
still_within rest ts us all t r a b = let l = ap (λ (x : List Token). length x) r in omega (arith, l, a, b)

-- The next item of a list.
use Rattle.std.proofs.Common.{◌≡◌, ℕ, List, [], ◌∷◌, ◌++◌, refl, sym, ap, subst, ◌∙◌, Bool, false}
use Rattle.rdf_terms.specs.declared.term.Term.TheVariants.{Iri}
use Rattle.rdf_terms.specs.declared.triple.Triple.{Triple}
use Rattle.grammar_model.specs.Parsers.{Return, Advance, on, go, Outcome, Done, Rejected}
use Rattle.turtle_reader.specs.declared.token_fault.Fault.{Fault}
use Rattle.turtle_reader.specs.declared.kind.Kind.{Kind}
use Rattle.turtle_reader.specs.declared.kind.Kind.TheVariants as kinds
use Rattle.turtle_reader.specs.declared.kind.Token.{Token}
use Rattle.turtle_reader.specs.Vocabulary.{rdf_rest, rdf_nil}
use Rattle.turtle_reader.specs.Grammar.{Items, Item, MoreItems, turtle, E, reads, blank, triple, is_shut_paren, choose, through}
use Rattle.turtle_reader.proofs.Whole.{part_is}

pub not_shut : (k : Kind) → (k ≡ kinds.ShutParen → ⊥) → is_shut_paren k ≡ false
not_shut kinds.ShutParen h = absurd (h refl)
not_shut k h = refl

module _ (doc : List ℕ) (stop : Fault) where
  passed_items : (cell c : ℕ) (before b : List Triple) (o : E (Items c b)) → on (turtle doc stop) {m = MoreItems cell before} {q = Items c b} o (λ v us. Done v us) ≡ o
  passed_items cell c before b (Done v us) = refl
  passed_items cell c before b (Rejected x) = refl

  passed_more : (cell : ℕ) (before new : List Triple) (o : E (MoreItems cell new)) → on (turtle doc stop) {m = Items cell before} {q = MoreItems cell new} o (λ v us. Done v us) ≡ o
  passed_more cell before new (Done v us) = refl
  passed_more cell before new (Rejected x) = refl

  items_read : (cell : ℕ) (before new : List Triple) (ts us : List Token) → reads doc stop (Item cell before) ts ≡ Done new us → reads doc stop (Items cell before) ts ≡ reads doc stop (MoreItems cell new) us
  items_read cell before new ts us h = part_is doc stop (Items cell before) ts ∙ rw h (passed_more cell before new (reads doc stop (MoreItems cell new) us))

  -- what shuts no list begins an item, whose cell is the rest of the one before
  pub goes_on : (cell : ℕ) (before more new : List Triple) (t : Token) (ts us : List Token) → is_shut_paren t.kind ≡ false → more ≡ before ++ triple (blank doc cell) (Iri rdf_rest) (blank doc t.cell) ∷ []
      → reads doc stop (Item t.cell more) (t ∷ ts) ≡ Done new us → reads doc stop (MoreItems cell before) (t ∷ ts) ≡ reads doc stop (MoreItems t.cell new) us
  goes_on cell before more new t ts us k m h =
      let behind : List Triple = before ++ triple (blank doc cell) (Iri rdf_rest) (blank doc t.cell) ∷ [] in
      let h' : reads doc stop (Item t.cell behind) (t ∷ ts) ≡ Done new us = subst (λ (x : List Triple). reads doc stop (Item t.cell x) (t ∷ ts) ≡ Done new us) m h in
      part_is doc stop (MoreItems cell before) (t ∷ ts)
      ∙ ap (λ (b : Bool). go (turtle doc stop) (reads doc stop) (MoreItems cell before) (choose b (Advance (Return (before ++ triple (blank doc cell) (Iri rdf_rest) (Iri rdf_nil) ∷ []))) (through (Items t.cell behind))) (t ∷ ts)) k
      ∙ passed_items cell t.cell before behind (reads doc stop (Items t.cell behind) (t ∷ ts))
      ∙ items_read t.cell behind new (t ∷ ts) us h'

  pub next_item : (cell : ℕ) (before more new : List Triple) (t : Token) (ts rest us : List Token) (total : Outcome Token Fault (List Triple)) → rest ≡ t ∷ ts → (t.kind ≡ kinds.ShutParen → ⊥)
      → more ≡ before ++ triple (blank doc cell) (Iri rdf_rest) (blank doc t.cell) ∷ [] → reads doc stop (Item t.cell more) rest ≡ Done new us
      → reads doc stop (MoreItems cell before) rest ≡ total → reads doc stop (MoreItems t.cell new) us ≡ total
  next_item cell before more new t ts rest us total e k m h i =
      let h' : reads doc stop (Item t.cell more) (t ∷ ts) ≡ Done new us = subst (λ (x : List Token). reads doc stop (Item t.cell more) x ≡ Done new us) e h in
      let i' : reads doc stop (MoreItems cell before) (t ∷ ts) ≡ total = subst (λ (x : List Token). reads doc stop (MoreItems cell before) x ≡ total) e i in
      sym (goes_on cell before more new t ts us (not_shut t.kind k) m h') ∙ i'

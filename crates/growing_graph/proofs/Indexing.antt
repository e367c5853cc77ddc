-- A graph with its indexes: when a triple comes, and when triples go.
use Rattle.std.proofs.Common.{ℕ, ◌≡◌, List, [], ◌∷◌, sym, subst, inl, inr, take}
use Rattle.indexmap.specs.IndexMap.{IndexMap}
use Rattle.rdf_terms.specs.declared.term.Term.{Term}
use Rattle.rdf_terms.specs.declared.triple.Triple.{Triple}
use Rattle.rdf_terms.specs.Lists.{add_once}
use Rattle.rdf_terms.specs.Same.{same_triple}
use Rattle.rdf_terms.proofs.Adding.{once_cases}
use Rattle.growing_graph.specs.declared.index.Part.{Part}
use Rattle.growing_graph.specs.declared.index.Part.TheVariants.{Subject, Predicate, Object}
use Rattle.growing_graph.specs.Indexes.{Lists, IsIndexed}
use Rattle.growing_graph.proofs.Listing.{lists_none, lists_push}
use Rattle.growing_graph.proofs.Logging.{logged_once, apart_take}

module _ {S : Type 0} where
  pub indexed_none : (bs bp bo : IndexMap Term (List ℕ) S) → bs.entries ≡ [] → bp.entries ≡ [] → bo.entries ≡ [] → IsIndexed [] 0 bs 0 bp 0 bo
  indexed_none bs bp bo e f g = record { apart = tt; subject = lists_none Subject [] bs e; predicate = lists_none Predicate [] bp f; object = lists_none Object [] bo g }

  lists_once : (part : Part) (xs : List Triple) (t : Triple) (n : ℕ) (table : IndexMap Term (List ℕ) S) → Lists part xs n table → Lists part (add_once same_triple xs t) n table
  lists_once part xs t n table l =
      elim (once_cases same_triple xs t) [
        | inl p ↦ subst (λ (ys : List Triple). Lists part ys n table) (sym p.1) l
        | inr q ↦ subst (λ (ys : List Triple). Lists part ys n table) (sym q.1) (lists_push part xs n (t ∷ []) table l)
      ]

  pub indexed_once : (xs : List Triple) (t : Triple) (s p o : ℕ) (bs bp bo : IndexMap Term (List ℕ) S) → IsIndexed xs s bs p bp o bo → IsIndexed (add_once same_triple xs t) s bs p bp o bo
  indexed_once xs t s p o bs bp bo i = record {
    apart = (logged_once xs t).once i.apart;
    subject = lists_once Subject xs t s bs i.subject;
    predicate = lists_once Predicate xs t p bp i.predicate;
    object = lists_once Object xs t o bo i.object;
  }

  pub indexed_short : (n : ℕ) (xs : List Triple) (s p o : ℕ) (bs bp bo : IndexMap Term (List ℕ) S) (t q r : ℕ) (cs cp co : IndexMap Term (List ℕ) S) → IsIndexed xs s bs p bp o bo
      → ((part : Part) (ys : List Triple) → Lists part ys s bs → Lists part (take n ys) t cs) → ((part : Part) (ys : List Triple) → Lists part ys p bp → Lists part (take n ys) q cp)
      → ((part : Part) (ys : List Triple) → Lists part ys o bo → Lists part (take n ys) r co) → IsIndexed (take n xs) t cs q cp r co
  indexed_short n xs s p o bs bp bo t q r cs cp co i f g h = record { apart = apart_take n xs i.apart; subject = f Subject xs i.subject; predicate = g Predicate xs i.predicate; object = h Object xs i.object }

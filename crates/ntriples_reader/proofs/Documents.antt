-- One line more of a document.
use Rattle.std.proofs.Common.{◌≡◌, ℕ, List, [], ◌∷◌, ◌++◌, Option, Some, None, Result, Ok, Err, refl, sym, ap, subst, ◌∙◌, append_assoc, append-nil}
use Rattle.rdf_terms.specs.declared.triple.Triple.{Triple}
use Rattle.turtle_reader.specs.declared.fault.ReadFault.{ReadFault}
use Rattle.turtle_reader.specs.declared.fault.ReadFault.TheVariants as faults
use Rattle.ntriples_reader.specs.declared.piece.Item.{Item}
use Rattle.ntriples_reader.specs.declared.statement.Statement.{Statement}
use Rattle.ntriples_reader.specs.Lines.{Line, Lines, first_line}
use Rattle.ntriples_reader.specs.Grammar.{Reading, line, add, add_to, before_lines, document_by, document}
use Rattle.ntriples_reader.specs.Reading.{lines_read_as, Fails}
use Rattle.ntriples_reader.specs.Triples.{numbered, triples_from, line_triples, line_labels}

document_more : (items : List Item) (end : ℕ) (l : Line) (more : List Line) (o : Option Statement) (rest : Lines) → line (record { items = items; end = end; more = l ∷ more }) ≡ Ok (o, rest)
    → document_by items end (l ∷ more) ≡ add_to o (document_by l.items l.end more)
unfolding document_by
document_more items end l more o rest e = ap (λ (r : Reading (Option Statement)). before_lines r (document_by l.items l.end more)) e

document_last : (items : List Item) (end : ℕ) (o : Option Statement) (rest : Lines) → line (record { items = items; end = end; more = [] }) ≡ Ok (o, rest) → document_by items end [] ≡ add_to o (Ok [])
unfolding document_by
document_last items end o rest e = ap (λ (r : Reading (Option Statement)). before_lines r (Ok [])) e

document_not : (items : List Item) (end : ℕ) (more : List Line) (at : ℕ) → line (record { items = items; end = end; more = more }) ≡ Err at → document_by items end more ≡ Err at
unfolding document_by
document_not items end [] at e = ap (λ (r : Reading (Option Statement)). before_lines r (Ok [])) e
document_not items end (l ∷ more) at e = ap (λ (r : Reading (Option Statement)). before_lines r (document_by l.items l.end more)) e

-- triples in front of those of a document
abbrev pub prepend : List Triple → Result (List Triple) ℕ → Result (List Triple) ℕ
prepend ts (Ok us) = Ok (ts ++ us)
prepend ts (Err at) = Err at

module _ (doc : List ℕ) where
  line_more : (labels : List (List ℕ)) (ts : List Triple) (o : Option Statement) (r : Result (List Statement) ℕ)
      → prepend ts (numbered doc labels (add_to o r)) ≡ prepend (ts ++ line_triples doc labels o) (numbered doc (line_labels labels o) r)
  unfolding triples_from
  line_more labels ts None (Ok sts) = ap (λ (us : List Triple). Ok (us ++ triples_from doc labels sts)) (sym (append-nil ts))
  line_more labels ts (Some st) (Ok sts) = ap Ok (sym (append_assoc ts (line_triples doc labels (Some st)) (triples_from doc (line_labels labels (Some st)) sts)))
  line_more labels ts None (Err at) = refl
  line_more labels ts (Some st) (Err at) = refl

  -- the lines are read as this, behind triples and labels
  abbrev pub IsRest : List (List ℕ) → List Triple → Lines → Result (List Triple) ℕ → Type 0
  IsRest labels ts ls whole = prepend ts (numbered doc labels (document ls)) ≡ whole

  nothing : (r : Result (List Triple) ℕ) → prepend [] r ≡ r
  nothing (Ok us) = refl
  nothing (Err at) = refl

  pub begun : (labels : List (List ℕ)) (ts : List Triple) (ls : Lines) → labels ≡ [] → ts ≡ [] → IsRest labels ts ls (lines_read_as doc ls)
  unfolding lines_read_as
  begun labels ts ls l t =
      ap (λ (us : List Triple). prepend us (numbered doc labels (document ls))) t
      ∙ (ap (λ (ks : List (List ℕ)). prepend [] (numbered doc ks (document ls))) l ∙ nothing (numbered doc [] (document ls)))

  module _ (labels next_labels : List (List ℕ)) (ts next_ts : List Triple) (ls rest : Lines) (whole : Result (List Triple) ℕ) (so_far : IsRest labels ts ls whole) where
    line_fault : (at : ℕ) → line ls ≡ Err at → whole ≡ Err at
    line_fault at e = sym so_far ∙ ap (λ r. prepend ts (numbered doc labels r)) (document_not ls.items ls.end ls.more at e)

    pub line_fails : (e : ReadFault) → Fails e (line ls) → Fails e whole
    line_fails faults.Memory f = tt
    line_fails (faults.Syntax at) f = line_fault at f
    line_fails (faults.Deep at) f = absurd f

    module _ (o : Option Statement) (is : line ls ≡ Ok (o, rest)) (same : rest.more ≡ ls.more) (l : next_labels ≡ line_labels labels o) (t : next_ts ≡ ts ++ line_triples doc labels o) where
      stepped : (r : Result (List Statement) ℕ) → document ls ≡ add_to o r → prepend next_ts (numbered doc next_labels r) ≡ whole
      stepped r e =
          ap (λ (us : List Triple). prepend us (numbered doc next_labels r)) t
          ∙ (ap (λ (ks : List (List ℕ)). prepend (ts ++ line_triples doc labels o) (numbered doc ks r)) l
          ∙ (sym (line_more labels ts o r) ∙ (sym (ap (λ r. prepend ts (numbered doc labels r)) e) ∙ so_far)))

      pub line_step : (next : Lines) → rest.more ≡ first_line next ∷ next.more → IsRest next_labels next_ts next whole
      line_step next e =
          let m : ls.more ≡ first_line next ∷ next.more = sym same ∙ e in
          let P : List Line → Type 0 = λ more. line (record { items = ls.items; end = ls.end; more = more }) ≡ Ok (o, rest) → document_by ls.items ls.end more ≡ add_to o (document next) in
          stepped (document next) (subst P (sym m) (λ k. document_more ls.items ls.end (first_line next) next.more o rest k) is)

      no_more : prepend next_ts (numbered doc next_labels (Ok [])) ≡ Ok next_ts
      unfolding triples_from
      no_more = ap Ok (append-nil next_ts)

      pub line_last : rest.more ≡ [] → whole ≡ Ok next_ts
      line_last e =
          let m : ls.more ≡ [] = sym same ∙ e in
          let P : List Line → Type 0 = λ more. line (record { items = ls.items; end = ls.end; more = more }) ≡ Ok (o, rest) → document_by ls.items ls.end more ≡ add_to o (Ok []) in
          sym (stepped (Ok []) (subst P (sym m) (λ k. document_last ls.items ls.end o rest k) is)) ∙ no_more

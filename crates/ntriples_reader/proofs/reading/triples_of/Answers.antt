use Rattle.std.proofs.Common.{◌≡◌, ◌++◌, ℕ, List, Bool, sym, ap, subst, ◌∙◌}
use Rattle.std.proofs.lemmas.Result.{err_from_is_err_and}
use Rattle.ntriples_reader.specs.declared.numbering.Common.{Common}
use Rattle.ntriples_reader.specs.Cursor.{view, IsNextLine}
use Rattle.ntriples_reader.specs.Triples.{IsCommon, line_triples}
use Rattle.ntriples_reader.proofs.Documents.{begun, line_fails, line_step, line_last}
use Rattle.ntriples_reader.proofs.reading.triples_of.Goals as goal

pub loop-numbering-init : goal.loop-numbering-init
loop-numbering-init c =
    let b = c.in_ok-numbering.ensures in record {
      common = b.common;
      named = b.named;
      so_far = begun c.args.doc.now c.in_ok-numbering.numbering.labels.keys c.in_ok-numbering.numbering.triples.items (view c.args.cursor.now) b.labels b.triples;
    }

pub loop-numbering-preserved : goal.loop-numbering-preserved
loop-numbering-preserved c =
    let l = c.loop-numbering in
    let s = c.in_ok-statement in
    let a = c.in_ok-add.ensures in
    let triples = subst (λ (d : List ℕ). c.add.new.self.triples.items ≡ l.numbering.triples.items ++ line_triples d l.numbering.labels.keys s.statement) l.invariant.named a.triples in
    record {
      common = subst IsCommon (sym a.common) l.invariant.common;
      named = ap (λ (x : Common). x.doc) a.common ∙ l.invariant.named;
      so_far = line_step c.args.doc.now l.numbering.labels.keys c.add.new.self.labels.keys l.numbering.triples.items c.add.new.self.triples.items (view l.cursor) (view c.line.new.self) _ l.invariant.so_far
          s.statement s.ensures.value s.ensures.kept a.labels triples (view c.next_line.new.self)
          (subst (λ (b : Bool). IsNextLine (view c.line.new.self) (view c.next_line.new.self) b) c.if-not-goes_on.false c.in_ok-goes_on.ensures);
    }

pub returns-in_err-statement : goal.returns-in_err-statement
returns-in_err-statement c =
    let l = c.loop-numbering in
    let p = err_from_is_err_and c.from_residual-in_err-statement.result c.from_residual-in_err-statement.ensures.1 in
    rw (p.1, p.2) (line_fails c.args.doc.now l.numbering.labels.keys l.numbering.labels.keys l.numbering.triples.items l.numbering.triples.items (view l.cursor) (view l.cursor) _ l.invariant.so_far c.in_err-statement.field-0.0 c.in_err-statement.ensures.value)

pub returns-then-not-goes_on : goal.returns-then-not-goes_on
returns-then-not-goes_on c =
    let l = c.loop-numbering in
    let s = c.in_ok-statement in
    let a = c.in_ok-add.ensures in
    let triples = subst (λ (d : List ℕ). c.add.new.self.triples.items ≡ l.numbering.triples.items ++ line_triples d l.numbering.labels.keys s.statement) l.invariant.named a.triples in
    line_last c.args.doc.now l.numbering.labels.keys c.add.new.self.labels.keys l.numbering.triples.items c.add.new.self.triples.items (view l.cursor) (view c.line.new.self) _ l.invariant.so_far
    s.statement s.ensures.value s.ensures.kept a.labels triples
    (subst (λ (b : Bool). IsNextLine (view c.line.new.self) (view c.next_line.new.self) b) c.if-not-goes_on.true c.in_ok-goes_on.ensures)

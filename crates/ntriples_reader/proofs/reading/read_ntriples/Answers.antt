use Rattle.std.proofs.Common.{◌≡◌, List, ap, ◌∙◌}
use Rattle.turtle_lexer.specs.declared.token.Token.{Token}
use Rattle.ntriples_reader.specs.Lines.{lines_of}
use Rattle.ntriples_reader.specs.Cursor.{view}
use Rattle.ntriples_reader.specs.Reading.{lines_read_as, read_as, ntriples_reading}
use Rattle.ntriples_reader.proofs.Readings.{read_by, reading_is, gives_by}
use Rattle.ntriples_reader.proofs.reading.read_ntriples.Goals as goal

pub returns-clause-value : goal.returns-clause-value
returns-clause-value c = λ r p.
    let e : lines_read_as c.args.doc.now (view c.in_ok-cursor.cursor) ≡ read_as c.args.doc.now c.args.bytes.now c.in_ok-tokens.tokens.items =
    ap (lines_read_as c.args.doc.now) c.in_ok-cursor.ensures ∙ ap (λ (ts : List Token). lines_read_as c.args.doc.now (lines_of c.args.bytes.now ts)) c.as_slice.ensures.value in
    gives_by _ c.triples_of.result _ r (e ∙ read_by c.args.doc.now c.args.bytes.now r c.in_ok-tokens.tokens.items c.in_ok-tokens.ensures.tokens p) c.triples_of.ensures

pub returns-clause-reading : goal.returns-clause-reading
returns-clause-reading c =
    let r = ntriples_reading c.args.doc.now c.args.bytes.now in
    let e : lines_read_as c.args.doc.now (view c.in_ok-cursor.cursor) ≡ read_as c.args.doc.now c.args.bytes.now c.in_ok-tokens.tokens.items =
    ap (lines_read_as c.args.doc.now) c.in_ok-cursor.ensures ∙ ap (λ (ts : List Token). lines_read_as c.args.doc.now (lines_of c.args.bytes.now ts)) c.as_slice.ensures.value in
    gives_by _ c.triples_of.result _ r (e ∙ read_by c.args.doc.now c.args.bytes.now r c.in_ok-tokens.tokens.items c.in_ok-tokens.ensures.tokens (reading_is c.args.doc.now c.args.bytes.now)) c.triples_of.ensures

use Rattle.std.proofs.Common.{◌≡◌, length}
use Rattle.ntriples_reader.specs.Cursor.{view}
use Rattle.ntriples_reader.specs.Reading.{lines_read_as}
use Rattle.ntriples_reader.specs.Triples.{IsCommon}
use Rattle.ntriples_reader.proofs.Documents.{IsRest}
use Rattle.ntriples_reader.proofs.reading.triples_of.Given as goal

abbrev pub invariant-loop-numbering : goal.invariant-loop-numbering
invariant-loop-numbering l = record {
  common : IsCommon l.numbering.common;
  named : l.numbering.common.doc ≡ l.doc;
  so_far : IsRest l.doc l.numbering.labels.keys l.numbering.triples.items (view l.cursor) (lines_read_as l.doc (view l.fn.cursor));
}

abbrev pub decreases-loop-numbering : goal.decreases-loop-numbering
decreases-loop-numbering l = length (view l.cursor).more

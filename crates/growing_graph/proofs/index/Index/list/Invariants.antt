use Rattle.std.proofs.Common.{◌≡◌}
use Rattle.growing_graph.specs.Indexes.{Lists}
use Rattle.growing_graph.proofs.index.Index.list.Given as goal

abbrev pub invariant-loop-place : goal.invariant-loop-place
invariant-loop-place l = Lists l.part l.triples l.self.listed l.self.table × (l.self.listed ≡ l._place)

use Rattle.std.proofs.Common.{◌≡◌, [], length}
use Rattle.turtle_reader.specs.Grammar.{reads, TurtleDoc}
use Rattle.turtle_reader.proofs.document.document.Given as goal

abbrev pub invariant-loop-out : goal.invariant-loop-out
invariant-loop-out l = reads l.setting.doc l.setting.stop (TurtleDoc l.out.items) l.rest ≡ reads l.setting.doc l.setting.stop (TurtleDoc []) l.tokens

abbrev pub decreases-loop-out : goal.decreases-loop-out
decreases-loop-out l = length l.rest

use Rattle.std.proofs.Common.{◌≡◌, ◌≤◌, ◌<◌, ◌-◌, length, drop, None}
use Rattle.std.specs.Prelude.{IfSome}
use Rattle.terminals.specs.Utf8.{symbols_of}
use Rattle.terminals.specs.Scan.{scan}
use Rattle.terminals.proofs.Waiting.{ShadeLost, WallsBack}
use Rattle.turtle_lexer.specs.declared.state.State.TheVariants as states
use Rattle.turtle_lexer.specs.State.{stepped_in, kind_of}
use Rattle.turtle_lexer.proofs.Languages.{lexicon}
use Rattle.turtle_lexer.proofs.scan.longest.Given as goal

abbrev pub invariant-loop-class : goal.invariant-loop-class
invariant-loop-class l = record {
  within : l.at ≤ length l.bytes;
  later : l.from ≤ l.at;
  best : IfSome l.best (λ x. (l.from < x.1) × (x.1 ≤ l.at));
  so_far : scan (stepped_in l.dialect) kind_of l.state l.at l.best (symbols_of (drop l.at l.bytes)) ≡ scan (stepped_in l.dialect) kind_of states.Start l.from None (symbols_of (drop l.from l.bytes));
  lost : l.from < l.no_colon_before → ShadeLost (lexicon l.dialect) l.state l.at (symbols_of (drop l.at l.bytes));
  walls : WallsBack (lexicon l.dialect) l.state l.at (symbols_of (drop l.at l.bytes)) l.from (symbols_of (drop l.from l.bytes));
}

abbrev pub decreases-loop-class : goal.decreases-loop-class
decreases-loop-class l = length l.bytes - l.at

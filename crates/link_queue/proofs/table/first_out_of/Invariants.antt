use Rattle.std.proofs.Common.{◌≡◌, ◌≤◌, ℕ}
use Rattle.std.specs.Prelude.{Some}
use Rattle.link_queue.specs.declared.state.LinkState.TheVariants.{InFlight}
use Rattle.link_queue.specs.Table.{state_at}
use Rattle.link_queue.proofs.table.first_out_of.Given as goal

abbrev pub invariant-loop-place : goal.invariant-loop-place
invariant-loop-place l = (n : ℕ) → state_at l.map.entries n ≡ Some InFlight → l.place ≤ n

use Rattle.std.proofs.Common.{◌∙◌, sym, ap, arith}
use Rattle.std.specs.Prelude.{Some}
use Rattle.link_queue.specs.declared.state.LinkState.{LinkState}
use Rattle.link_queue.proofs.Places.{first_found, first_none, flying_test}
use Rattle.link_queue.specs.LinkStates.{is_flying}
use Rattle.link_queue.specs.declared.state.LinkState.TheVariants.{InFlight}
use Rattle.link_queue.proofs.table.first_out_of.Goals as goal

pub returns-in-InFlight : goal.returns-in-InFlight
returns-in-InFlight c = sym (first_found is_flying InFlight _ _ flying_test (c.state_in.ensures ∙ ap (λ (s : LinkState). Some s) c.in-InFlight.is) c.loop-place.invariant)

pub returns : goal.returns
returns c = sym (first_none is_flying InFlight c.args.map.now.entries flying_test (λ k h. let z = c.loop-place.invariant k h in omega arith))

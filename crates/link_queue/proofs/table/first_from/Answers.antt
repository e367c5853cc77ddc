use Rattle.std.proofs.Common.{◌∙◌, sym, ap, arith}
use Rattle.std.specs.Prelude.{Some}
use Rattle.link_queue.specs.declared.state.LinkState.{LinkState}
use Rattle.link_queue.proofs.Places.{first_found, first_none, queued_test}
use Rattle.link_queue.specs.LinkStates.{is_queued}
use Rattle.link_queue.specs.declared.state.LinkState.TheVariants.{Queued}
use Rattle.link_queue.proofs.table.first_from.Goals as goal

pub returns-in-Queued : goal.returns-in-Queued
returns-in-Queued c = sym (first_found is_queued Queued _ _ queued_test (c.state_in.ensures ∙ ap (λ (s : LinkState). Some s) c.in-Queued.is) c.loop-place.invariant)

pub returns : goal.returns
returns c = sym (first_none is_queued Queued c.args.map.now.entries queued_test (λ k h. let z = c.loop-place.invariant k h in omega arith))

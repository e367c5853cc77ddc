use Rattle.std.proofs.Common.{rules, ◌∙◌, refl}
use Rattle.web_port.proofs.PortLemmas.{waits_none, waits_more, lands_more, waits_idle}
use Rattle.web_port.proofs.polling.next_landed.Goals as goal

pub loop-number-init : goal.loop-number-init
loop-number-init g c = record { waits = waits_none _ _; fetch = refl; lanes = refl }

pub returns-in_err-number-clause-err : goal.returns-in_err-number-clause-err
returns-in_err-number-clause-err g c =
    let w = waits_more _ _ _ _ _ c.loop-number.invariant.fetch c.loop-number.invariant.waits c.in_err-number.ensures.err in
    search rules

pub returns-in-Settled-clause-ok : goal.returns-in-Settled-clause-ok
returns-in-Settled-clause-ok g c =
    lands_more _ _ _ _ _ _ _ c.loop-number.invariant.fetch c.loop-number.invariant.waits (rw c.in-Settled.is at c.in_ok-number.ensures.ok)

pub loop-number-preserved : goal.loop-number-preserved
loop-number-preserved g c =
    let p = rw c.in-Pending.is at c.in_ok-number.ensures.ok in
    record {
      waits = waits_more _ _ _ _ _ c.loop-number.invariant.fetch c.loop-number.invariant.waits p.0;
      fetch = c.in_ok-number.ensures.same.0 ∙ c.loop-number.invariant.fetch;
      lanes = c.in_ok-number.ensures.same.1 ∙ c.loop-number.invariant.lanes;
    }

pub returns-in-Idle-clause-ok : goal.returns-in-Idle-clause-ok
returns-in-Idle-clause-ok g c =
    let p = rw c.in-Idle.is at c.in_ok-number.ensures.ok in
    (waits_more _ _ _ _ _ c.loop-number.invariant.fetch c.loop-number.invariant.waits p.0, waits_idle _ _ _ c.loop-number.invariant.waits p.1)

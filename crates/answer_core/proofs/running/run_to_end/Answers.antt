use Rattle.std.proofs.Common.{sym, subst}
use Rattle.answer_core.specs.Headline.{CountsFaults, output_fails}
use Rattle.answer_core.specs.Running.{ran_status}
use Rattle.answer_core.proofs.Ends.{counts, wrote, of_site, run_evidence}
use Rattle.answer_core.proofs.running.run_to_end.Goals as goal

pub returns : goal.returns
returns g c =
    let run = g.J.Job.run in
    let s = c.run_alone-ran.new.self in
    let r = c.finish-finished.result.trace in
    let x = c.run_alone-ran.result in
    let ran = c.run_alone-ran.ensures in
    let end = c.finish-finished.ensures in
    let content = g.S.Sink.content c.finish-finished.result.out in
    let now = g.S.Sink.faults c.finish-finished.result.out in
    let from_start : CountsFaults (output_fails (ran_status x r)) c.args.run.out.faults now =
    subst (λ n. CountsFaults (output_fails (ran_status x r)) c.args.run.out.faults n) (sym end.out.1) (counts x r c.args.run.out.faults s.out.faults (λ e. (ran.output e).1) (λ n. ran.calm n) ran.later) in
    run_evidence run r x c.status_of-status.result (record { bytes = content; faults = now }) c.status_of-status.ensures end.traversed end.order (λ e. end.ended (ran.done e).closed)
    (wrote run s r content x end.trace.0 end.out.0 end.kept end.ended (λ e. (ran.done e).closed) (λ e. let done = ran.done e in end.written done.closed done.clear))
    (subst (λ n. CountsFaults (output_fails (ran_status x r)) n now) (sym c.requires.faults) from_start) (λ site over. of_site run site s r end.trace.0 over end.kept end.traversed end.faithful end.reachable)

use Rattle.std.proofs.Common.{◌≡◌, sym, subst, refl, ◌∙◌}
use Rattle.traverse_core.specs.Run.{TellsIfSure}
use Rattle.answer_core.specs.Running.{BeforeReport, TaskRead, RunRead, Writing, task_of}
use Rattle.answer_core.proofs.Evidence.{evidence_as, shown_by, shows_of}
use Rattle.answer_core.proofs.Reading.{task_read}
use Rattle.answer_core.proofs.running.run_named.Goals as goal

pub open-requires-clause-told : goal.open-requires-clause-told
open-requires-clause-told g c = subst TellsIfSure (sym c.requires.fetch) (λ sure. refl)

pub returns-in-Ok-open : goal.returns-in-Ok-open
returns-in-Ok-open g c =
    let run = g.J.Job.run in
    let end = c.run_to_end-answer.result in
    let shows = shows_of g.S.Sink.content g.S.Sink.faults in
    let before : Writing = record { bytes = run.content; faults = run.faults } in
    let shown = shown_by shows (λ d. d ≡ task_of run) (BeforeReport (RunRead run)) end.trace before c.args.out end.out end.status c.run_to_end-answer.ensures.read.1.0 c.requires.out.0 c.requires.out.1 c.run_to_end-answer.ensures in
    evidence_as shows (λ d. d ≡ task_of run) (λ d. d ≡ c.args.task) (BeforeReport (RunRead run)) (BeforeReport (TaskRead c.args.task c.args.site)) end.trace c.args.out end.out end.status (λ d is. is ∙ c.requires.task)
    (λ m x. task_read run c.args.task c.args.site end.status end.trace c.requires.task c.requires.fetch x) shown

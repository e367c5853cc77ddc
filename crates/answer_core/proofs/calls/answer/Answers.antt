use Rattle.std.specs.Prelude.{map, string_bytes}
use Rattle.command_words.specs.Words.{command_of}
use Rattle.answer_core.specs.Task.{asked_of}
use Rattle.answer_core.proofs.Promising.{promised}
use Rattle.answer_core.proofs.calls.answer.Goals as goal

pub returns : goal.returns
returns g c =
    let run = c.answer_words-status in
    let report = c.write_report-status in
    promised (record { bytes = g.I.Source.left; faults = g.I.Source.faults }) g.I.Source.ends (record { bytes = g.S.Sink.content; faults = g.S.Sink.faults }) (record { bytes = g.R.Sink.content; faults = g.R.Sink.faults })
    (asked_of (command_of (map string_bytes c.args.words.now))) run.result.status report.result run.result.trace c.args.input.now run.new.input c.args.out run.result.out c.args.report.now report.new.report run.ensures report.ensures.after
    report.ensures.reported report.ensures.faults

use Rattle.std.proofs.Common.{sym, ap, subst}
use Rattle.std.specs.Prelude.{map, string_bytes}
use Rattle.command_words.specs.Words.{command_of}
use Rattle.answer_core.specs.Task.{Asks, asked_alone}
use Rattle.answer_core.specs.Headline.{HasRead, StatusEvidence}
use Rattle.answer_core.specs.Running.{BeforeReport}
use Rattle.answer_core.specs.declared.status.Status.TheVariants.{Usage}
use Rattle.answer_core.proofs.Evidence.{unrecorded, shows_of}
use Rattle.answer_core.proofs.Reading.{usage_read}
use Rattle.answer_core.proofs.calls.answer_words_alone.Goals as goal

pub returns-in-Ok : goal.returns-in-Ok
returns-in-Ok g c =
    let end = c.answer_command_alone.result in
    let i = shows_of g.I.Source.left g.I.Source.faults in
    let o = shows_of g.S.Sink.content g.S.Sink.faults in
    subst (λ z. StatusEvidence o (Asks (asked_alone z)) (BeforeReport (HasRead i g.I.Source.ends (asked_alone z) c.args.input.now c.answer_command_alone.new.input)) end.trace c.args.out end.out end.status) (sym c.in-Ok.ensures.value) c.answer_command_alone.ensures

pub returns-in-Err-Usage : goal.returns-in-Err-Usage
returns-in-Err-Usage g c =
    let words = map string_bytes c.args.words.now in
    let end = c.without_record.result in
    let none = c.without_record.ensures in
    let i = shows_of g.I.Source.left g.I.Source.faults in
    let o = shows_of g.S.Sink.content g.S.Sink.faults in
    unrecorded o (Asks (asked_alone (command_of words))) (BeforeReport (HasRead i g.I.Source.ends (asked_alone (command_of words)) c.args.input.now c.args.input.now)) end.trace c.args.out end.out Usage end.status none.0 none.1 none.2 (λ x. x)
    (usage_read i g.I.Source.ends (asked_alone (command_of words)) c.args.input.now (ap asked_alone (c.in-Err-Usage.ensures.usage (cc))))

use Rattle.std.proofs.Common.{inl, inr, refl, arith}
use Rattle.answer_core.specs.Task.{OverInput, Asks, IsTaskOf}
use Rattle.answer_core.specs.Headline.{HasRead}
use Rattle.answer_core.specs.Running.{BeforeReport, BytesRead}
use Rattle.answer_core.specs.declared.status.Status.TheVariants.{Input, Memory}
use Rattle.answer_core.proofs.Evidence.{evidence_as, unrecorded, shows_of}
use Rattle.answer_core.proofs.Reading.{input_read, stopped_read}
use Rattle.answer_core.proofs.answering.answer_input.Goals as goal

pub returns-in-Ok : goal.returns-in-Ok
returns-in-Ok g c =
    let a = c.args.settings in
    let end = c.answer_bytes.result in
    let bytes = c.in-Ok.bytes in
    let i = shows_of g.I.Source.left g.I.Source.faults in
    let o = shows_of g.S.Sink.content g.S.Sink.faults in
    let read = BeforeReport (HasRead i g.I.Source.ends (OverInput a) c.args.input.now c.read_all.new.source) in
    evidence_as o (IsTaskOf a) (Asks (OverInput a)) (BeforeReport (BytesRead a bytes)) read end.trace c.args.out end.out end.status (λ d is. is)
    (λ m x. input_read i g.I.Source.ends a c.args.input.now c.read_all.new.source bytes end.status end.trace c.in-Ok.ensures.bytes c.in-Ok.ensures.calm (λ short. (c.in-Ok.ensures.ended (omega (arith, short)), c.in-Ok.ensures.at_end (omega (arith, short)))) x)
    c.answer_bytes.ensures

pub returns-in-Err-Failed : goal.returns-in-Err-Failed
returns-in-Err-Failed g c =
    let a = c.args.settings in
    let none = c.without_record.ensures in
    let i = shows_of g.I.Source.left g.I.Source.faults in
    let o = shows_of g.S.Sink.content g.S.Sink.faults in
    let stopped = c.in-Err-Failed.ensures.read in
    unrecorded o (Asks (OverInput a)) (BeforeReport (HasRead i g.I.Source.ends (OverInput a) c.args.input.now c.read_all.new.source)) c.without_record.result.trace c.args.out c.without_record.result.out Input c.without_record.result.status none.0
    none.1 none.2 (λ x. x) (stopped_read i g.I.Source.ends a c.args.input.now c.read_all.new.source Input stopped.0 (inl refl) stopped.1 (c.in-Err-Failed.ensures.cause (cc), c.in-Err-Failed.ensures.later))

pub returns : goal.returns
returns g c =
    let a = c.args.settings in
    let end = c.without_record-in-Err-Memory.result in
    let none = c.without_record-in-Err-Memory.ensures in
    let i = shows_of g.I.Source.left g.I.Source.faults in
    let o = shows_of g.S.Sink.content g.S.Sink.faults in
    let stopped = c.in-Err-Memory.ensures.read in
    unrecorded o (Asks (OverInput a)) (BeforeReport (HasRead i g.I.Source.ends (OverInput a) c.args.input.now c.read_all.new.source)) end.trace c.args.out end.out Memory end.status none.0 none.1 none.2 tt
    (stopped_read i g.I.Source.ends a c.args.input.now c.read_all.new.source Memory stopped.0 (inr refl) stopped.1 (inl (c.in-Err-Memory.ensures.memory (cc))))

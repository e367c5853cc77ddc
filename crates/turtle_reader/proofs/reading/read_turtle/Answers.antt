use Rattle.grammar_model.specs.Parsers.{Done}
use Rattle.turtle_reader.specs.Resolving.{resolved}
use Rattle.turtle_reader.proofs.Answering.{text_is, fault_is, reading_is, reading_fault_is}
use Rattle.turtle_reader.proofs.reading.read_turtle.Goals as goal

pub returns-in-Ok-clause-ok : goal.returns-in-Ok-clause-ok
returns-in-Ok-clause-ok c =
    text_is c.args.doc.now c.args.base.now c.args.bytes.now c.in_ok-setting.setting.doc c.in_ok-lexed.lexed.items c.as_slice.result.now (resolved c.in_ok-resolved.resolved) c.in_ok-setting.setting.stop c.as_slice-2.result.now
    (Done c.in-Ok.triples.items c.in-Ok.field-0-1.now) c.in_ok-lexed.ensures.tokens c.as_slice.ensures.value c.in_ok-resolved.ensures c.in_ok-setting.ensures.doc c.in_ok-setting.ensures.stop c.as_slice-2.ensures.value c.in-Ok.ensures

pub returns-clause-fault : goal.returns-clause-fault
returns-clause-fault c =
    fault_is c.args.doc.now c.args.base.now c.args.bytes.now c.in_ok-setting.setting.doc c.in_ok-lexed.lexed.items c.as_slice.result.now (resolved c.in_ok-resolved.resolved) c.in_ok-setting.setting.stop c.as_slice-2.result.now
    c.in-Err.error c.reported.result c.in_ok-lexed.ensures.tokens c.as_slice.ensures.value c.in_ok-resolved.ensures c.in_ok-setting.ensures.doc c.in_ok-setting.ensures.stop c.as_slice-2.ensures.value c.in-Err.ensures c.reported.ensures

pub returns-in-Ok-clause-ok_reading : goal.returns-in-Ok-clause-ok_reading
returns-in-Ok-clause-ok_reading c =
    reading_is c.args.doc.now c.args.base.now c.args.bytes.now _ (text_is c.args.doc.now c.args.base.now c.args.bytes.now c.in_ok-setting.setting.doc c.in_ok-lexed.lexed.items c.as_slice.result.now (resolved c.in_ok-resolved.resolved) c.in_ok-setting.setting.stop c.as_slice-2.result.now
    (Done c.in-Ok.triples.items c.in-Ok.field-0-1.now) c.in_ok-lexed.ensures.tokens c.as_slice.ensures.value c.in_ok-resolved.ensures c.in_ok-setting.ensures.doc c.in_ok-setting.ensures.stop c.as_slice-2.ensures.value c.in-Ok.ensures)

pub returns-clause-fault_reading : goal.returns-clause-fault_reading
returns-clause-fault_reading c =
    reading_fault_is c.args.doc.now c.args.base.now c.args.bytes.now c.reported.result (fault_is c.args.doc.now c.args.base.now c.args.bytes.now c.in_ok-setting.setting.doc c.in_ok-lexed.lexed.items c.as_slice.result.now (resolved c.in_ok-resolved.resolved) c.in_ok-setting.setting.stop c.as_slice-2.result.now
    c.in-Err.error c.reported.result c.in_ok-lexed.ensures.tokens c.as_slice.ensures.value c.in_ok-resolved.ensures c.in_ok-setting.ensures.doc c.in_ok-setting.ensures.stop c.as_slice-2.ensures.value c.in-Err.ensures c.reported.ensures)

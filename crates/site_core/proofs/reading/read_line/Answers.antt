use Rattle.std.proofs.Common.{◌+◌, sym, subst, arith}
use Rattle.site_core.specs.declared.expected.Step.TheVariants.{Misfit, Next, Finished, Body}
use Rattle.site_core.specs.declared.reading.Body.TheVariants as behind
use Rattle.site_core.specs.declared.reading.Found.{Found}
use Rattle.site_core.specs.Endings.{Finds}
use Rattle.site_core.proofs.Following.{at_rest, finds_bad_body, finds_body, finds_cut, finds_last, finds_misfit, finds_next, line_read, small_rest}
use Rattle.site_core.proofs.reading.read_line.Goals as goal

pub returns-in-Misfit : goal.returns-in-Misfit
returns-in-Misfit c =
    let line = line_read c.args.entries.now.items c.as_slice.result.now c.args.expected c.args.at c.args.bytes.now c.tail-rest.result.now c.front.result.now c.in-Some.length c.in_ok-step.field-0 Misfit c.tail-rest.ensures c.in-Some.ensures c.front.ensures c.as_slice.ensures.value c.in_ok-step.ensures c.in-Misfit.is in
    finds_misfit c.args.entries.now.items c.args.expected c.args.at c.args.bytes.now c.in-Some.length line.ends line.steps

pub returns-in-Next : goal.returns-in-Next
returns-in-Next c =
    let line = line_read c.args.entries.now.items c.as_slice.result.now c.args.expected c.args.at c.args.bytes.now c.tail-rest.result.now c.front.result.now c.in-Some.length c.in_ok-step.field-0 (Next c.in-Next.expected) c.tail-rest.ensures c.in-Some.ensures c.front.ensures c.as_slice.ensures.value c.in_ok-step.ensures c.in-Next.is in
    finds_next c.args.entries.now.items c.args.expected c.args.at c.args.bytes.now c.in-Some.length c.in-Next.expected (c.args.at + c.in-Some.length + 1) (omega arith) line.ends line.steps

pub returns-in-Finished : goal.returns-in-Finished
returns-in-Finished c =
    let line = line_read c.args.entries.now.items c.as_slice.result.now c.args.expected c.args.at c.args.bytes.now c.tail-rest.result.now c.front.result.now c.in-Some.length c.in_ok-step.field-0 Finished c.tail-rest.ensures c.in-Some.ensures c.front.ensures c.as_slice.ensures.value c.in_ok-step.ensures c.in-Finished.is in
    let P : Found → Type 0 = Finds c.args.entries.now.items c.args.expected c.args.at c.args.bytes.now c.args.entries.now.items in
    subst P (sym c.last.ensures) (finds_last c.args.entries.now.items c.args.expected c.args.at c.args.bytes.now c.in-Some.length (c.args.at + c.in-Some.length + 1) (omega arith) line.ends line.steps)

pub returns-in_ok-push-in-Whole : goal.returns-in_ok-push-in-Whole
returns-in_ok-push-in-Whole c =
    let line = line_read c.args.entries.now.items c.as_slice.result.now c.args.expected c.args.at c.args.bytes.now c.tail-rest.result.now c.front.result.now c.in-Some.length c.in_ok-step.field-0 (Body c.in-Body.link c.in-Body.reply c.in-Body.size) c.tail-rest.ensures c.in-Some.ensures c.front.ensures c.as_slice.ensures.value c.in_ok-step.ensures c.in-Body.is in
    let has = at_rest c.args.bytes.now c.tail.result.now (c.args.at + c.in-Some.length + 1) c.in-Body.size c.in_ok-body-in-Body.field-0 (behind.Whole c.in-Whole.body) c.tail.ensures c.in-Whole.is c.in_ok-body-in-Body.ensures.found in
    let small = small_rest c.args.bytes.now c.tail.result.now (c.args.at + c.in-Some.length + 1) c.tail.ensures c.in_ok-body-in-Body.ensures.small in
    finds_body c.args.entries.now.items c.push.new.self.items c.args.expected c.args.at c.args.bytes.now c.in-Some.length (c.args.at + c.in-Some.length + 1) c.in-Body.link c.in-Body.reply c.with_body.result c.in-Body.size (c.args.at + c.in-Some.length + 1 + c.in-Body.size + 1) c.in-Whole.body small (omega arith) line.ends line.steps has.0 has.1 has.2 c.with_body.ensures c.in_ok-push-in-Whole.ensures.items (omega arith)

pub returns-in-Misfit-2 : goal.returns-in-Misfit-2
returns-in-Misfit-2 c =
    let line = line_read c.args.entries.now.items c.as_slice.result.now c.args.expected c.args.at c.args.bytes.now c.tail-rest.result.now c.front.result.now c.in-Some.length c.in_ok-step.field-0 (Body c.in-Body.link c.in-Body.reply c.in-Body.size) c.tail-rest.ensures c.in-Some.ensures c.front.ensures c.as_slice.ensures.value c.in_ok-step.ensures c.in-Body.is in
    let has = at_rest c.args.bytes.now c.tail.result.now (c.args.at + c.in-Some.length + 1) c.in-Body.size c.in_ok-body-in-Body.field-0 behind.Misfit c.tail.ensures c.in-Misfit-2.is c.in_ok-body-in-Body.ensures.found in
    let small = small_rest c.args.bytes.now c.tail.result.now (c.args.at + c.in-Some.length + 1) c.tail.ensures c.in_ok-body-in-Body.ensures.small in
    finds_bad_body c.args.entries.now.items c.args.expected c.args.at c.args.bytes.now c.in-Some.length (c.args.at + c.in-Some.length + 1) c.in-Body.link c.in-Body.reply c.in-Body.size small (omega arith) line.ends line.steps has.0 has.1

pub returns-in-Short : goal.returns-in-Short
returns-in-Short c =
    let line = line_read c.args.entries.now.items c.as_slice.result.now c.args.expected c.args.at c.args.bytes.now c.tail-rest.result.now c.front.result.now c.in-Some.length c.in_ok-step.field-0 (Body c.in-Body.link c.in-Body.reply c.in-Body.size) c.tail-rest.ensures c.in-Some.ensures c.front.ensures c.as_slice.ensures.value c.in_ok-step.ensures c.in-Body.is in
    let has = at_rest c.args.bytes.now c.tail.result.now (c.args.at + c.in-Some.length + 1) c.in-Body.size c.in_ok-body-in-Body.field-0 behind.Short c.tail.ensures c.in-Short.is c.in_ok-body-in-Body.ensures.found in
    finds_cut c.args.entries.now.items c.args.expected c.args.at c.args.bytes.now c.in-Some.length (c.args.at + c.in-Some.length + 1) c.in-Body.link c.in-Body.reply c.in-Body.size (omega arith) line.ends line.steps has

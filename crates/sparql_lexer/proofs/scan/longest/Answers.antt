use Rattle.std.proofs.Common.{None, Some, refl, sym, ◌∙◌, arith, rules, drop, length-drop}
use Rattle.terminals.specs.Utf8.{symbols_of}
use Rattle.terminals.proofs.Waiting.{start_lost, start_walls, shade_goes_on, walls_go_on, gives_up, stops}
use Rattle.terminals.proofs.Loop.{scan_over, scan_goes_on, scan_sticks, lost_over, lost_sticks}
use Rattle.sparql_lexer.specs.State.{stepped, kind_of, is_waiting}
use Rattle.sparql_lexer.proofs.Query.{query}
use Rattle.sparql_lexer.proofs.scan.longest.Goals as goal

pub loop-class-init : goal.loop-class-init
loop-class-init c = record {
  within = c.requires.place;
  later = omega arith;
  best = tt;
  so_far = search rules;
  lost = λ lt. start_lost query c.args.from c.args.no_colon_before (symbols_of (drop c.args.from c.args.bytes.now)) c.requires.nameless lt;
  walls = start_walls query c.args.from (symbols_of (drop c.args.from c.args.bytes.now));
}

pub loop-class-preserved-in-Some-kind_of : goal.loop-class-preserved-in-Some-kind_of
loop-class-preserved-in-Some-kind_of c =
    let first = c.in-Some.ensures.value in
    let st = sym c.step.ensures ∙ c.in-Some-step.is in
    let inv = c.loop-class.invariant in
    record {
      within = omega (arith, c.in-Some.ensures.within, length-drop c.loop-class.at c.args.bytes.now);
      later = omega arith;
      best = (omega (arith, c.in-Some.ensures.within), omega arith);
      so_far = scan_goes_on stepped kind_of c.args.bytes.now c.loop-class.at c.in-Some.class c.in-Some.width first (omega (arith, c.in-Some.ensures.within)) c.loop-class.state c.in-Some-step.next (Some c.in-Some-kind_of.kind) c.loop-class.best _ st (sym c.kind_of.ensures ∙ c.in-Some-kind_of.is) inv.so_far;
      lost = λ lt. shade_goes_on query c.args.bytes.now c.args.from c.loop-class.at c.in-Some.width c.in-Some.class first (omega (arith, c.in-Some.ensures.within)) c.loop-class.state c.in-Some-step.next st (inv.lost lt);
      walls = walls_go_on query c.args.bytes.now c.args.from c.loop-class.at c.in-Some.width c.in-Some.class first (omega (arith, c.in-Some.ensures.within)) c.loop-class.state c.in-Some-step.next st inv.walls;
    }

pub loop-class-preserved : goal.loop-class-preserved
loop-class-preserved c =
    let first = c.in-Some.ensures.value in
    let st = sym c.step.ensures ∙ c.in-Some-step.is in
    let inv = c.loop-class.invariant in
    record {
      within = omega (arith, c.in-Some.ensures.within, length-drop c.loop-class.at c.args.bytes.now);
      later = omega arith;
      best = search rules;
      so_far = scan_goes_on stepped kind_of c.args.bytes.now c.loop-class.at c.in-Some.class c.in-Some.width first (omega (arith, c.in-Some.ensures.within)) c.loop-class.state c.in-Some-step.next None c.loop-class.best _ st (sym c.kind_of.ensures ∙ c.in_default-kind_of.is) inv.so_far;
      lost = λ lt. shade_goes_on query c.args.bytes.now c.args.from c.loop-class.at c.in-Some.width c.in-Some.class first (omega (arith, c.in-Some.ensures.within)) c.loop-class.state c.in-Some-step.next st (inv.lost lt);
      walls = walls_go_on query c.args.bytes.now c.args.from c.loop-class.at c.in-Some.width c.in-Some.class first (omega (arith, c.in-Some.ensures.within)) c.loop-class.state c.in-Some-step.next st inv.walls;
    }

pub returns-in_default-step-clause-found : goal.returns-in_default-step-clause-found
returns-in_default-step-clause-found c =
    scan_sticks stepped kind_of c.args.bytes.now c.loop-class.at c.in-Some.class c.in-Some.width c.in-Some.ensures.value (omega (arith, c.in-Some.ensures.within)) c.loop-class.state c.loop-class.best _ (sym c.step.ensures ∙ c.in_default-step.is) c.loop-class.invariant.so_far

pub returns-in_default-step-clause-nameless : goal.returns-in_default-step-clause-nameless
returns-in_default-step-clause-nameless c =
    stops query c.loop-class.state (is_waiting c.loop-class.state) c.loop-class.at c.args.no_colon_before c.no_colon_behind.result c.args.from (symbols_of (drop c.loop-class.at c.args.bytes.now)) (symbols_of (drop c.args.from c.args.bytes.now)) refl c.no_colon_behind.ensures
    (lost_sticks stepped kind_of c.args.bytes.now c.loop-class.at c.in-Some.class c.in-Some.width c.in-Some.ensures.value (omega (arith, c.in-Some.ensures.within)) c.loop-class.state (sym c.step.ensures ∙ c.in_default-step.is))
    c.loop-class.invariant.walls c.requires.nameless

pub returns-then-is_waiting-clause-found : goal.returns-then-is_waiting-clause-found
returns-then-is_waiting-clause-found c =
    gives_up query c.args.bytes.now c.args.from c.loop-class.at c.in-Some.width c.in-Some.class c.in-Some.ensures.value (omega (arith, c.in-Some.ensures.within)) c.loop-class.state c.in-Some-step.next (sym c.step.ensures ∙ c.in-Some-step.is) c.loop-class.best _
    (sym c.is_waiting.ensures ∙ c.if-is_waiting.true) (c.loop-class.invariant.lost c.if-from-no_colon_before.true) c.loop-class.invariant.so_far

pub returns-clause-found : goal.returns-clause-found
returns-clause-found c = scan_over stepped kind_of c.args.bytes.now c.loop-class.at c.loop-class.state c.loop-class.best _ c.in_default.ensures.value c.loop-class.invariant.so_far

pub returns-clause-nameless : goal.returns-clause-nameless
returns-clause-nameless c =
    stops query c.loop-class.state (is_waiting c.loop-class.state) c.loop-class.at c.args.no_colon_before c.no_colon_behind-2.result c.args.from (symbols_of (drop c.loop-class.at c.args.bytes.now)) (symbols_of (drop c.args.from c.args.bytes.now)) refl c.no_colon_behind-2.ensures
    (lost_over stepped kind_of c.args.bytes.now c.loop-class.at c.loop-class.state c.in_default.ensures.value)
    c.loop-class.invariant.walls c.requires.nameless

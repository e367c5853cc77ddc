use Rattle.std.proofs.Common.{ap, ◌∙◌}
use Rattle.sparql_resolve.specs.declared.fault.Fault.{Fault}
use Rattle.sparql_resolve.specs.Resolving.{view}
use Rattle.sparql_resolve.proofs.Loops.{resolve_more, resolve_stops, resolve_end, stopped, fails_is}
use Rattle.sparql_resolve.proofs.resolving.pass.Goals as goal

pub loop-token-preserved : goal.loop-token-preserved
loop-token-preserved c =
    resolve_more c.loop-token.token-index c.args.names.now c.args.bytes.now (view c.loop-token.resolver) (view c.step.new.self) c.loop-token.out.items c.push.new.self.items c.in-Ok.kind c.args.tokens.now _ _
    c.loop-token-test.true c.in-Ok.ensures c.in_ok-push-in-Ok.ensures.items c.loop-token.invariant

pub returns-in-Err-Fault : goal.returns-in-Err-Fault
returns-in-Err-Fault c =
    ap (λ (f : Fault). stopped c.loop-token.out.items f c.loop-token.resolver.blanks) c.in-Err-Fault.fault-is
    ∙ resolve_stops c.loop-token.token-index c.args.names.now c.args.bytes.now (view c.loop-token.resolver) c.loop-token.out.items c.args.tokens.now _ c.in-Err-Fault.fault _
    c.loop-token-test.true (fails_is _ c.in-Err-Fault.field-0 c.in-Err-Fault.fault c.in-Err-Fault.field-0-is c.in-Err-Fault.ensures) c.loop-token.invariant

pub returns : goal.returns
returns c = resolve_end c.loop-token.token-index c.args.names.now c.args.bytes.now (view c.loop-token.resolver) c.loop-token.out.items c.args.tokens.now _ c.loop-token-test.false c.loop-token.invariant

use Rattle.std.proofs.Common.{rules}
use Rattle.symmetric_join.proofs.Gains.{gains_fed_right}
use Rattle.symmetric_join.proofs.node.Node.feed_right.Goals as goal

pub returns-clause-gains : goal.returns-clause-gains
returns-clause-gains c =
    gains_fed_right c.args.self.now (record { width = c.self.inside.width; lefts = c.meet.new.self.rows; rights = c.push.new.self.rows }) c.args.row c.in_ok-out.out.items (search rules) (search rules)

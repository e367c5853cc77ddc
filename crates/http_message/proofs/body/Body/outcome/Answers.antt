use Rattle.std.proofs.Common.{rules}
use Rattle.http_message.proofs.BodyLemmas.{undecided_yet, not_decided}
use Rattle.http_message.proofs.body.Body.outcome.Goals as goal

pub returns-in_default : goal.returns-in_default
returns-in_default c = record {
  yes = search rules;
  no = rw (← c.self.view_is) (undecided_yet c.self.inside.limit c.self.inside.reply c.self.inside.body.items c.self.inside.stage c.self.invariant c.in_default.not-Decided);
  stage = rw (← c.self.view_is) (not_decided c.self.inside.stage c.in_default.not-Decided);
}

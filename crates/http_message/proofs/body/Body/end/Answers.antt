use Rattle.std.proofs.Common.{◌≡◌, subst, sym, [], false, rules}
use Rattle.std.specs.Prelude.{None}
use Rattle.http_message.specs.Body.{undecided}
use Rattle.http_message.specs.State.{BodyState, progress_from, is_decided}
use Rattle.http_message.proofs.BodyLemmas.{cut_of}
use Rattle.http_message.proofs.body.Body.end.Goals as goal

pub returns-in_default : goal.returns-in_default
returns-in_default c =
    let going = subst (λ (s : BodyState). is_decided s.stage ≡ false) (sym c.self.view_is) c.requires in
    record {
      heard = subst (λ (s : BodyState). progress_from s [] ≡ undecided None) c.self.view_is
          (cut_of c.self.inside.limit c.self.inside.reply c.self.inside.body.items c.self.inside.stage c.self.invariant going c.in_default.not-UntilEnd);
      after = search rules;
    }

use Rattle.std.proofs.Common.{◌∙◌, ap}
use Rattle.std.specs.Prelude.{codes}
use Rattle.std.proofs.lemmas.Result.{IfOk-weaker}
use Rattle.clap.specs.Words.{App, with_rule}
use Rattle.command_words.specs.Grammar.{option}
use Rattle.command_words.proofs.grammar.with_reach_options.Goals as goal

pub returns : goal.returns
returns c =
    IfOk-weaker c.with_option-2.result _ _ (λ command e. e ∙ ap (λ (app : App). with_rule app (option (codes "limit"))) c.in_ok-command.ensures) c.with_option-2.ensures

use Rattle.std.proofs.Common.{◌∙◌, ap, map, string_bytes}
use Rattle.std.proofs.lemmas.Result.{IfOk-weaker}
use Rattle.command_words.specs.Words.{command_named}
use Rattle.command_words.proofs.FirstWord.{first_named, no_words}
use Rattle.command_words.proofs.reading.command_or_none.Goals as goal

pub returns-in-empty-clause-value : goal.returns-in-empty-clause-value
returns-in-empty-clause-value c = no_words string_bytes c.args.words.now c.in-empty.len_below

pub returns-in-len1-up-clause-value : goal.returns-in-len1-up-clause-value
returns-in-len1-up-clause-value c =
    let words = map string_bytes c.args.words.now in
    let is = ap (λ name. command_named name words) c.as_str.ensures.value ∙ first_named string_bytes c.args.words.now c.name-item.result c.in-len1-up.len_at_least c.name-item.is in
    IfOk-weaker c.named_command.result _ _ (λ command e. e ∙ is) c.named_command.ensures.value

use Rattle.std.proofs.Common.{◌-◌, length, take, drop, ◌∙◌, rules, tests}
use Rattle.std.specs.Prelude.{reverse}
use Rattle.std.proofs.lemmas.List.{take_rest}
use Rattle.std.proofs.lemmas.Iterator.{YieldsList-from_slice}
use Rattle.std.proofs.lemmas.Iterator.Adapters.{YieldsList-from_rev_slice}
use Rattle.std.proofs.lemmas.Iterator.Consumers.{count_from_yields_List}
use Rattle.std.proofs.lemmas.Iterator.Search.{YieldsList-from_take_while}
use Rattle.std.proofs.lemmas.List.Folds.{length-prefix_len}
use Rattle.link_uri.specs.Heard.{is_blank}
use Rattle.http_message.proofs.lengths.trim.Goals as goal

pub returns : goal.returns
returns c =
    let bytes = c.args.bytes.now in
    let front = count_from_yields_List c.take_while.result _ c.count-front.ensures.ran (YieldsList-from_take_while _ is_blank (YieldsList-from_slice bytes (cc)) c.take_while.ensures.closure c.take_while.ensures.done (λ x b q k. search (rules, tests))) ∙ length-prefix_len is_blank bytes in
    let rest = take (length bytes - c.count-front.result) (drop c.count-front.result bytes) in
    let back = count_from_yields_List c.take_while-2.result _ c.count-back.ensures.ran (YieldsList-from_take_while _ is_blank (YieldsList-from_rev_slice rest (cc)) c.take_while-2.ensures.closure c.take_while-2.ensures.done (λ x b q k. search (rules, tests))) ∙ length-prefix_len is_blank (reverse rest) in
    rw (back, take_rest, front)

use Rattle.std.proofs.Common.{◌≡◌, ◌+◌, ◌-◌, ap, ◌∙◌, take, None, Some, arith, lit<}
use Rattle.std.proofs.lemmas.Str.Pattern.{rfind_char}
use Rattle.iri_core.proofs.Resolving.{up_to_slash, without_slash}
use Rattle.iri_core.proofs.resolution.up_to_last_slash.Goals as goal

pub returns-in-Some : goal.returns-in-Some
returns-in-Some c =
    let at = c.in-Some.at in
    let last = rfind_char 47 c.args.path.now (Some at) c.in-Some.ensures.cases (lit< tt) in
    let whole : at + 1 - 0 ≡ at + 1 = omega arith in
    c.range.ensures.value ∙ ap (λ n. take n c.args.path.now) whole ∙ up_to_slash c.args.path.now at last.0 last.1 last.2

pub returns-in-None : goal.returns-in-None
returns-in-None c = without_slash c.args.path.now (rfind_char 47 c.args.path.now None c.in-None.ensures.cases (lit< tt))

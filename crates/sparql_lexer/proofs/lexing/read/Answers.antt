use Rattle.std.proofs.Common.{sym, ◌∙◌, subst, arith}
use Rattle.sparql_lexer.specs.declared.lexing.Next.{Next}
use Rattle.sparql_lexer.specs.Tokens.{IsNext}
use Rattle.terminals.proofs.Reading.{plain_token, read_end, read_ill, read_none, read_token, later, as_allowed, nameless_at, nameless_to}
use Rattle.sparql_lexer.proofs.Query.{query, not_last}
use Rattle.sparql_lexer.proofs.lexing.read.Goals as goal

pub longest-requires-clause-place : goal.longest-requires-clause-place
longest-requires-clause-place c = c.in-Token.ensures.within

pub longest-requires-clause-nameless : goal.longest-requires-clause-nameless
longest-requires-clause-nameless c = nameless_at query c.args.bytes.now c.args.from c.in-Token.at c.in-Token.ensures.value c.args.no_colon_before c.requires.nameless

pub returns-in-End-clause-next : goal.returns-in-End-clause-next
returns-in-End-clause-next c = subst (λ (n : Next). IsNext c.args.bytes.now c.args.from n) (sym c.last.ensures) (read_end query c.args.bytes.now c.args.from c.in-End.at c.in-End.ensures.value)

pub returns-in-Ill-clause-next : goal.returns-in-Ill-clause-next
returns-in-Ill-clause-next c = subst (λ (n : Next). IsNext c.args.bytes.now c.args.from n) (sym c.last-in-Ill.ensures) (read_ill query c.args.bytes.now c.args.from c.in-Ill.at c.in-Ill.ensures.value)

pub returns-in-Some-default-clause-next : goal.returns-in-Some-default-clause-next
returns-in-Some-default-clause-next c = read_token query c.args.bytes.now c.args.from c.in-Token.at c.in-Token.ensures.value c.in-Some-default.kind c.in-Some-default.to (sym c.in-Some-default.is-0 ∙ c.longest.ensures.found)

pub returns-in-Some-default-clause-within : goal.returns-in-Some-default-clause-within
returns-in-Some-default-clause-within c =
    let w = rw c.in-Some-default.is-0 at c.longest.ensures.within in
    (omega (arith, w, later query c.args.bytes.now c.args.from c.in-Token.at c.in-Token.ensures.value), (omega (arith, w), w.1))

pub returns-in-Some-default-clause-nameless : goal.returns-in-Some-default-clause-nameless
returns-in-Some-default-clause-nameless c = nameless_to query c.args.bytes.now c.args.from c.in-Token.at c.in-Token.ensures.value c.in-Some-default.kind c.in-Some-default.to (sym c.in-Some-default.is-0 ∙ c.longest.ensures.found) c.longest.result.1 c.longest.ensures.nameless

pub returns-in-None-default-clause-next : goal.returns-in-None-default-clause-next
returns-in-None-default-clause-next c =
    subst (λ (n : Next). IsNext c.args.bytes.now c.args.from n) (sym c.last-in-None-default.ensures)
    (read_none query c.args.bytes.now c.args.from c.in-Token.at c.in-Token.ensures.value (sym c.in-None-default.is-0 ∙ c.longest.ensures.found))

pub returns-in-Some-default-clause-placed : goal.returns-in-Some-default-clause-placed
returns-in-Some-default-clause-placed c = as_allowed query c.args.bytes.now c.args.from c.in-Token.at c.in-Token.ensures.value c.in-Some-default.kind c.in-Some-default.to (sym c.in-Some-default.is-0 ∙ c.longest.ensures.found) (not_last c.in-Some-default.kind)

pub returns-in-Some-default-clause-plain : goal.returns-in-Some-default-clause-plain
returns-in-Some-default-clause-plain c = plain_token query c.args.bytes.now c.args.from c.in-Token.at c.in-Token.ensures.value c.in-Some-default.kind c.in-Some-default.to (sym c.in-Some-default.is-0 ∙ c.longest.ensures.found)

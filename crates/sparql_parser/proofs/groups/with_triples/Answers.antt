use Rattle.std.proofs.Common.{◌∙◌, sym}
use Rattle.algebra_translation.specs.Views.{view}
use Rattle.sparql_parser.proofs.Here.{no_triples_here, triples_here}
use Rattle.sparql_parser.proofs.groups.with_triples.Goals as goal

pub returns-then-not-begins_term-clause-value : goal.returns-then-not-begins_term-clause-value
returns-then-not-begins_term-clause-value c = no_triples_here c.args.stop (view c.args.stage) c.args.tokens.now (sym c.begins_term.ensures ∙ c.if-not-begins_term.true)

pub returns-clause-value : goal.returns-clause-value
returns-clause-value c = triples_here c.args.stop (view c.args.stage) c.args.tokens.now c.in_ok-rest.rest.now _ (sym c.begins_term.ensures ∙ c.if-not-begins_term.false) c.in_ok-rest.ensures.value

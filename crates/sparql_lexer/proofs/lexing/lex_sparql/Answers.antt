use Rattle.sparql_lexer.proofs.lexing.lex_sparql.Goals as goal

pub returns-clause-plain : goal.returns-clause-plain
returns-clause-plain c = rw c.as_bytes.ensures.value at c.lex.ensures.plain

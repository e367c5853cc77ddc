use Rattle.definition_laws.proofs.Parts.{no_mark_in_authority, no_mark_in_path, no_mark_in_query, no_mark_in_scheme, parts_are_the_text}
use Rattle.definition_laws.proofs.references.parts_make_up_the_text.Goals as goal

pub returns-clause-whole : goal.returns-clause-whole
returns-clause-whole c = parts_are_the_text

pub returns-clause-scheme : goal.returns-clause-scheme
returns-clause-scheme c = no_mark_in_scheme

pub returns-clause-authority : goal.returns-clause-authority
returns-clause-authority c = no_mark_in_authority

pub returns-clause-path : goal.returns-clause-path
returns-clause-path c = no_mark_in_path

pub returns-clause-query : goal.returns-clause-query
returns-clause-query c = no_mark_in_query

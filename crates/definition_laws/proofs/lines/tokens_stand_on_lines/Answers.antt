use Rattle.definition_laws.proofs.CutLines.{lines_one, lines_cut}
use Rattle.definition_laws.proofs.lines.tokens_stand_on_lines.Goals as goal

pub returns-clause-one : goal.returns-clause-one
returns-clause-one c = lines_one

pub returns-clause-cut : goal.returns-clause-cut
returns-clause-cut c = lines_cut

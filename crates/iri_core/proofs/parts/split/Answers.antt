use Rattle.std.proofs.Common.{sym, subst, ap, ◌∙◌}
use Rattle.iri_core.specs.Reference.{AllCut, parts_of}
use Rattle.iri_core.proofs.Cuts.{all_cut}
use Rattle.iri_core.proofs.parts.split.Goals as goal

pub returns-clause-cut : goal.returns-clause-cut
returns-clause-cut c = subst (AllCut c.args.text.now) (sym (c.parts_of.ensures ∙ ap parts_of c.as_bytes.ensures.value)) (all_cut c.args.text.now c.utf8.text)

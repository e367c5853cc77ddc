use Rattle.rdf_terms.specs.Same.{same_triple}
use Rattle.rdf_terms.proofs.Adding.{triple_tells}
use Rattle.algebra_core.proofs.SolutionBags.{once_apart, once_again, graph_same}
use Rattle.algebra_core.proofs.laws.each_triple_stands_once.Goals as goal

pub returns-clause-once : goal.returns-clause-once
returns-clause-once c = once_apart same_triple triple_tells

pub returns-clause-same : goal.returns-clause-same
returns-clause-same c = graph_same

pub returns-clause-own : goal.returns-clause-own
returns-clause-own c = once_again same_triple triple_tells

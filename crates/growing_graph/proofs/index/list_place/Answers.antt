use Rattle.std.proofs.Common.{ℕ, ◌∙◌, ap, List, ◌++◌, ◌∷◌, [], rules}
use Rattle.growing_graph.proofs.Written.{written_last, written_same, inserted_first}
use Rattle.growing_graph.proofs.index.list_place.Goals as goal

pub returns-in_err-push-in-Some-clause-err : goal.returns-in_err-push-in-Some-clause-err
returns-in_err-push-in-Some-clause-err c =
    let same = written_same c.args.table.now (c.get_mut.follows.lender c.push.new.self) c.args.term.now c.in-Some.places.now c.push.new.self c.in-Some.ensures.value c.in_err-push-in-Some.ensures.err (c.get_mut.follows.holds c.push.new.self) in
    search (rules, same)

pub returns-in_ok-push-in-Some-clause-ok : goal.returns-in_ok-push-in-Some-clause-ok
returns-in_ok-push-in-Some-clause-ok c =
    written_last c.args.table.now (c.get_mut.follows.lender c.push.new.self) c.args.term.now c.args.place c.in-Some.places.now c.push.new.self c.in-Some.ensures.value c.in_ok-push-in-Some.ensures.ok (c.get_mut.follows.holds c.push.new.self)

pub returns-in_ok-insert-in-None-clause-ok : goal.returns-in_ok-insert-in-None-clause-ok
returns-in_ok-insert-in-None-clause-ok c =
    inserted_first c.args.table.now c.insert.new.self c.args.term.now c.args.place c.push-in-None.new.self c.get_mut.follows.lender-at-none c.in_ok-own-in-None.own c.in-None.ensures.value
    (c.in_ok-push-in-None.ensures.ok ∙ ap (λ (l : List ℕ). l ++ c.args.place ∷ []) c.new-places.ensures) c.get_mut.follows.holds-at-none c.in_ok-own-in-None.ensures c.in_ok-insert-in-None.ensures.updates

use Rattle.std.proofs.lemmas.Result.{on_ok_weaker}
use Rattle.bound_search.proofs.Adding.{and_added}
use Rattle.bound_search.proofs.gates.add_and.Goals as goal

pub returns : goal.returns
returns c = on_ok_weaker c.add_three.result
    (and_added c.args.clauses.now _ _ _ c.args.l c.args.a c.args.b _ _ _ _
    c.opposite.ensures c.opposite-2.ensures c.opposite-3.ensures
    c.opposite-4.ensures c.in_ok-add_two.ensures c.in_ok-add_two-2.ensures)
    c.add_three.ensures

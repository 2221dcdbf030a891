use Rattle.std.proofs.Common.{◌<◌, length, refl, rules}
use Rattle.sat_core.proofs.Searching.{ready-empty}
use Rattle.sat_core.proofs.solver.Solver.new.Goals as goal

pub returns-clause-ready : goal.returns-clause-ready
returns-clause-ready c =
    let sized : c.args.cnf.variables < length c.in_ok-places.places.items = search rules in
    ready-empty _ c.args.cnf.variables c.args.cnf.clauses refl
    c.in_ok-partial.ensures c.new-2.ensures.items c.new-3.ensures.items
    c.args.cnf.few_variables c.args.cnf.few_clauses sized c.args.cnf.right

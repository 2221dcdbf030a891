use Rattle.hy_formula.specs.Formulas.{plain_formula}
use Rattle.ea_tool.proofs.Decisions.{settle-compared, settle-uncompared}
use Rattle.ea_tool.proofs.circuits.compare_by_circuit.Goals as goal

pub returns-in-Ok : goal.returns-in-Ok
returns-in-Ok c =
    rw c.compared_verdict.ensures
    (settle-compared (plain_formula c.args.first.now) (plain_formula c.args.second.now) c.args.ask.now _ c.in-Ok.ensures.first c.in-Ok.ensures.second c.in-Ok.ensures.counted c.in-Ok.ensures.also_counted
    c.in-Ok.ensures.decision)

pub returns-in-Err : goal.returns-in-Err
returns-in-Err c =
    rw c.circuit_refusal.ensures (settle-uncompared (plain_formula c.args.first.now) (plain_formula c.args.second.now) c.args.ask.now _ c.in-Err.ensures.refused)

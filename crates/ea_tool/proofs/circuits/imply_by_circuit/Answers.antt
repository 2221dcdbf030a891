use Rattle.hy_formula.specs.Formulas.{plain_formula}
use Rattle.ea_tool.proofs.Decisions.{settle-implied, settle-unimplied}
use Rattle.ea_tool.proofs.circuits.imply_by_circuit.Goals as goal

pub returns-in-Ok : goal.returns-in-Ok
returns-in-Ok c =
    rw c.implied_verdict.ensures
    (settle-implied (plain_formula c.args.first.now) (plain_formula c.args.second.now) c.args.ask.now _ c.in-Ok.ensures.first c.in-Ok.ensures.second c.in-Ok.ensures.counted
    c.in-Ok.ensures.decision)

pub returns-in-Err : goal.returns-in-Err
returns-in-Err c =
    rw c.circuit_refusal.ensures (settle-unimplied (plain_formula c.args.first.now) (plain_formula c.args.second.now) c.args.ask.now _ c.in-Err.ensures.refused)

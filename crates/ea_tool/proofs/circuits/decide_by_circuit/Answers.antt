use Rattle.hy_formula.specs.Formulas.{plain_formula}
use Rattle.ea_tool.proofs.Decisions.{settle-found, settle-refused}
use Rattle.ea_tool.proofs.circuits.decide_by_circuit.Goals as goal

pub returns-in-Ok : goal.returns-in-Ok
returns-in-Ok c =
    rw c.settled_verdict.ensures
    (settle-found (plain_formula c.args.formula.now) c.args.ask.now _ c.in-Ok.ensures.taken c.in-Ok.ensures.counted
    c.in-Ok.ensures.decision)

pub returns-in-Err : goal.returns-in-Err
returns-in-Err c =
    rw c.circuit_refusal.ensures (settle-refused (plain_formula c.args.formula.now) c.args.ask.now _ c.in-Err.ensures.refused)

use Rattle.hy_check.proofs.Once.{check_settled}
use Rattle.hy_check.proofs.laws.settled.Goals as goal

pub returns : goal.returns
returns c =
    check_settled c.one_command.ensures c.one_text.ensures.taken c.one_text.ensures.refused c.one_text.ensures.apart
    c.one_circuit.ensures.taken c.one_circuit.ensures.refused c.one_circuit.ensures.apart c.one_verdict.ensures

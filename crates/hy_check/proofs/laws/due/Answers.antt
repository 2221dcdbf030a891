use Rattle.hy_check.proofs.Due.{comes_due}
use Rattle.hy_check.proofs.laws.due.Goals as goal

pub returns : goal.returns
returns c question files table claim cert answer ready comes =
    comes_due c.one_certificate.ensures c.one_fault.ensures.none c.one_text.ensures.taken c.one_circuit.ensures.taken
    question files table claim cert answer ready comes

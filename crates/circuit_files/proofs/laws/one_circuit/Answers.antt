use Rattle.circuit_files.proofs.Texts.{circuit_once, fault_once, circuit_not_refused}
use Rattle.circuit_files.proofs.laws.one_circuit.Goals as goal

pub returns-clause-taken : goal.returns-clause-taken
returns-clause-taken c = circuit_once

pub returns-clause-refused : goal.returns-clause-refused
returns-clause-refused c = fault_once

pub returns-clause-apart : goal.returns-clause-apart
returns-clause-apart c = circuit_not_refused

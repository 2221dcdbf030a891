-- Which bytes are a circuit, and which are refused, by which fault.
use Rattle.std.specs.Prelude.{◌≡◌, ℕ, List}
use Rattle.hy_base.specs.Limits.{most}
use Rattle.hy_base.specs.declared.limit.Kind.TheVariants.{Variables}
use Rattle.aig_net.specs.Nets.{Net}
use Rattle.aiger_body.specs.Outcomes.{Refusal, limit, fault, outcome, refused}
use Rattle.aiger_body.specs.declared.error.AigerError.{AigerError}
use Rattle.aiger_body.specs.declared.error.AigerError.TheVariants as circuits
use Rattle.aiger_read.specs.Readings as aiger
use Rattle.hy_files.specs.declared.fault.FileFault.{FileFault}
use Rattle.hy_files.specs.declared.fault.FileFault.TheVariants.{Count, Circuit, Memory}

-- The bytes are the text of the circuit.
abbrev pub IsCircuit : List ℕ → Net → Type 0
IsCircuit bytes net = aiger.IsText bytes net

-- the fault of a text that is no circuit
abbrev pub circuit_fault : Refusal → FileFault
circuit_fault limit = Count Variables (most Variables)
circuit_fault (fault kind byte) = Circuit kind byte

-- The bytes are no circuit text, or one past the limit, by this fault.
abbrev pub IsNoCircuit : List ℕ → FileFault → Type 0
IsNoCircuit bytes f = (refusal : Refusal) × (outcome bytes ≡ refused refusal) × (f ≡ circuit_fault refusal)

-- the fault that the reader of circuits answers
abbrev pub aiger_fault : AigerError → FileFault
aiger_fault (circuits.Bad kind byte) = Circuit kind byte
aiger_fault (circuits.Limit past) = Count past.kind past.limit
aiger_fault circuits.Memory = Memory

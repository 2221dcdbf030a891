-- What each tool says, as one of the answers of all tools: a verdict and its own refusals have a variant of the same name and
-- fields, but that a search which is spent reads as a check that is.
use Rattle.std.specs.Prelude.{ℕ, false, List, [], Ok, Err}
use Rattle.chain_check.specs.declared.logs.Learned.{Learned}
use Rattle.hy_base.specs.declared.limit.Kind.TheVariants as kinds
use Rattle.hy_base.specs.declared.reading.TheConstants.{BYTES_LIMIT}
use Rattle.mc_core.specs.declared.checked.Checked.TheVariants.{UnknownConflicts}
use Rattle.hy_files.specs.declared.fault.FileFault.{FileFault}
use Rattle.hy_files.specs.declared.fault.FileFault.TheVariants as faults
use Rattle.hy_run.specs.Runs as runs
use Rattle.hy_run.specs.declared.refusal.Refusal.{Refusal}
use Rattle.hy_run.specs.declared.refusal.Refusal.TheVariants as refusals
use Rattle.ea_tool.specs.declared.verdict.EaFault.{EaFault}
use Rattle.ea_tool.specs.declared.verdict.EaFault.TheVariants as ea_faults
use Rattle.ea_tool.specs.declared.verdict.EaVerdict.{EaVerdict}
use Rattle.ea_tool.specs.declared.verdict.EaVerdict.TheVariants as ea
use Rattle.mc_tool.specs.declared.verdict.McFault.{McFault}
use Rattle.mc_tool.specs.declared.verdict.McFault.TheVariants as mc_faults
use Rattle.mc_tool.specs.declared.verdict.McVerdict.{McVerdict}
use Rattle.mc_tool.specs.declared.verdict.McVerdict.TheVariants as mc
use Rattle.rv_tool.specs.declared.verdict.RvFault.{RvFault}
use Rattle.rv_tool.specs.declared.verdict.RvFault.TheVariants as rv_faults
use Rattle.rv_tool.specs.declared.verdict.RvVerdict.{RvVerdict}
use Rattle.rv_tool.specs.declared.verdict.RvVerdict.TheVariants as rv
use Rattle.hy_top.specs.declared.answer.Answer.{Answer}
use Rattle.hy_top.specs.declared.answer.Answer.TheVariants.{Sat, Unsat, NoneWithin, Implied, NotImplied, Equivalent, NotEquivalent, ByCircuit, OnTrue, OnFalse, NoViolation, Violation, Checked, StrategyHolds, StrategyFails}
use Rattle.hy_top.specs.declared.answer.Answer.TheVariants.{Words, Syntax, Unbound, Prefix, Line, Session, Circuit, Strategy, Name, OpenFault, ReadFault, WriteFault, Limit, CnfLimit, States, Memory}

-- ---- refusals

-- the answer of a fault of file k
abbrev pub fault_answer : ℕ → FileFault → Answer
fault_answer k faults.Open = OpenFault k
fault_answer k faults.Read = ReadFault k
fault_answer k faults.Bytes = Limit kinds.Bytes BYTES_LIMIT
fault_answer k (faults.Syntax token byte) = Syntax k token byte
fault_answer k (faults.Unbound byte) = Unbound k byte
fault_answer k (faults.Count kind limit) = Limit kind limit
fault_answer k (faults.Circuit kind byte) = Circuit k kind byte
fault_answer k (faults.Line line) = Line k line
fault_answer k faults.Memory = Memory

-- the answer of a refusal, where these are those of what the tool alone refuses
abbrev pub refusal_answer : {F : Type 0} → (F → Answer) → Refusal F → Answer
refusal_answer own refusals.Words = Words
refusal_answer own (refusals.File file fault) = fault_answer file fault
refusal_answer own (refusals.Prefix file class) = Prefix file class
refusal_answer own (refusals.Limit kind limit) = Limit kind limit
refusal_answer own (refusals.Own fault) = own fault
refusal_answer own refusals.Write = WriteFault
refusal_answer own refusals.Memory = Memory

abbrev pub ea_fault : EaFault → Answer
ea_fault (ea_faults.States n) = States n

abbrev pub rv_fault : RvFault → Answer
rv_fault (rv_faults.Session line) = Session line

abbrev pub mc_fault : McFault → Answer
mc_fault (mc_faults.Name name twice) = Name name twice
mc_fault (mc_faults.Strategy inputs outputs) = Strategy inputs outputs
mc_fault (mc_faults.CnfLimit kind limit kept) = CnfLimit kind limit kept

-- ---- what is said

-- the answer of a search within a bound that learned as many clauses as were allowed: these; no steps of a circuit were asked
-- about, and no facts were kept
abbrev pub given_up : ℕ → List Learned → Answer
given_up conflicts log = Checked (UnknownConflicts conflicts 0 false (record { inv = []; logs = []; spent = [] }) log)

abbrev pub ea_answer : runs.Answer EaVerdict EaFault → Answer
ea_answer (Ok (ea.Sat list)) = Sat list
ea_answer (Ok (ea.Unsat proof)) = Unsat proof
ea_answer (Ok (ea.NoneWithin log)) = NoneWithin log
ea_answer (Ok (ea.ByCircuit verdict)) = ByCircuit verdict
ea_answer (Ok (ea.Spent conflicts log)) = given_up conflicts log
ea_answer (Ok (ea.Implied proof)) = Implied proof
ea_answer (Ok (ea.NotImplied list)) = NotImplied list
ea_answer (Ok (ea.Equivalent first second)) = Equivalent first second
ea_answer (Ok (ea.NotEquivalent side list)) = NotEquivalent side list
ea_answer (Ok ea.OnTrue) = OnTrue
ea_answer (Ok ea.OnFalse) = OnFalse
ea_answer (Err refusal) = refusal_answer ea_fault refusal

abbrev pub rv_answer : runs.Answer RvVerdict RvFault → Answer
rv_answer (Ok (rv.NoViolation traces kept live)) = NoViolation traces kept live
rv_answer (Ok (rv.Violation spec trace tuple)) = Violation spec trace tuple
rv_answer (Err refusal) = refusal_answer rv_fault refusal

abbrev pub mc_answer : runs.Answer McVerdict McFault → Answer
mc_answer (Ok (mc.Checked checked)) = Checked checked
mc_answer (Ok mc.StrategyHolds) = StrategyHolds
mc_answer (Ok (mc.StrategyFails traces runs)) = StrategyFails traces runs
mc_answer (Err refusal) = refusal_answer mc_fault refusal

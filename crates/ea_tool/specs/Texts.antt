-- The text and the status of each verdict, and the line and the status of what is refused by this tool alone.
use Rattle.std.specs.Prelude.{ℕ, zero, suc, Bool, false, List, [], ◌++◌, codes, decimal, if◌then◌else◌}
use Rattle.hy_lasso.specs.Printed.{printed_lassos}
use Rattle.cnf_frames.specs.ProofTexts.{worded_text}
use Rattle.cnf_frames.specs.declared.inductions.InductionProof.{InductionProof}
use Rattle.rank_proofs.specs.declared.rank_proof.RankProof.{RankProof}
use Rattle.rank_proofs.specs.ProofTexts.{proof_text}
use Rattle.ea_tool.specs.declared.verdict.CircuitVerdict.{CircuitVerdict}
use Rattle.ea_tool.specs.declared.verdict.CircuitVerdict.TheVariants as circuit
use Rattle.ea_tool.specs.declared.verdict.EaFault.{EaFault}
use Rattle.ea_tool.specs.declared.verdict.EaFault.TheVariants.{States}
use Rattle.ea_tool.specs.declared.verdict.EaVerdict.{EaVerdict}
use Rattle.ea_tool.specs.declared.verdict.EaVerdict.TheVariants.{Sat, Unsat, NoneWithin, Spent, Implied, NotImplied, Equivalent, NotEquivalent, ByCircuit, OnTrue, OnFalse}
use Rattle.ea_tool.specs.declared.verdict.Question.{Question}
use Rattle.ea_tool.specs.declared.verdict.Question.TheVariants.{Judge, Decide, Relate, Find}

-- whether a proof is shown beside the verdict
abbrev pub shows_proof : Question → Bool
shows_proof Judge = false
shows_proof (Decide engine proof) = proof
shows_proof (Relate relation engine proof) = proof
shows_proof (Find bound conflicts) = false

-- a proof, where proofs are shown
abbrev pub shown_proof : Bool → RankProof → List ℕ
shown_proof shown proof = if shown then proof_text proof else []

-- a proof about a free net, where proofs are shown
abbrev pub shown_free : Bool → InductionProof → List ℕ
shown_free shown proof = if shown then worded_text (codes "free") proof else []

-- which formula lassos satisfy alone
abbrev pub side_text : ℕ → List ℕ
side_text zero = codes "first"
side_text (suc side) = codes "second"

-- a line that ends in a number
abbrev pub number_line : List ℕ → ℕ → List ℕ
number_line front n = front ++ decimal n ++ codes "\n"

-- the text of what a free circuit says, but for lassos
abbrev pub circuit_text : Bool → CircuitVerdict → List ℕ
circuit_text shown (circuit.Unsat proof) = codes "unsat\n" ++ shown_free shown proof
circuit_text shown (circuit.Implied proof) = codes "implied\n" ++ shown_free shown proof
circuit_text shown (circuit.Equivalent first second) =
    codes "equivalent\n" ++ shown_free shown first ++ shown_free shown second
circuit_text shown (circuit.UnknownDepth depth) = number_line (codes "unknown depth ") depth
circuit_text shown (circuit.UnknownConflicts conflicts) = number_line (codes "unknown conflicts ") conflicts

-- the text of a verdict, where lassos are printed with these names
abbrev pub verdict_text : Bool → List (List ℕ) → EaVerdict → List ℕ
verdict_text shown names (Sat list) = codes "sat\n" ++ printed_lassos names list
verdict_text shown names (Unsat proof) = codes "unsat\n" ++ shown_proof shown proof
verdict_text shown names (NoneWithin log) = codes "none within the bound\n"
verdict_text shown names (Spent conflicts log) = number_line (codes "unknown conflicts ") conflicts
verdict_text shown names (Implied proof) = codes "implied\n" ++ shown_proof shown proof
verdict_text shown names (NotImplied list) = codes "not implied\n" ++ printed_lassos names list
verdict_text shown names (Equivalent first second) =
    codes "equivalent\n" ++ shown_proof shown first ++ shown_proof shown second
verdict_text shown names (NotEquivalent side list) =
    codes "not equivalent " ++ side_text side ++ codes "\n" ++ printed_lassos names list
verdict_text shown names (ByCircuit verdict) = circuit_text shown verdict
verdict_text shown names OnTrue = codes "true\n"
verdict_text shown names OnFalse = codes "false\n"

-- the text of a verdict on a question
abbrev pub text_of : Question → List (List ℕ) → EaVerdict → List ℕ
text_of question names verdict = verdict_text (shows_proof question) names verdict

-- the exit status of what a free circuit says, but for lassos
abbrev pub circuit_status : CircuitVerdict → ℕ
circuit_status (circuit.Unsat proof) = 1
circuit_status (circuit.Implied proof) = 0
circuit_status (circuit.Equivalent first second) = 0
circuit_status (circuit.UnknownDepth depth) = 4
circuit_status (circuit.UnknownConflicts conflicts) = 4

-- the exit status of a verdict
abbrev pub status_of : EaVerdict → ℕ
status_of (Sat list) = 0
status_of (Unsat proof) = 1
status_of (NoneWithin log) = 1
status_of (Spent conflicts log) = 4
status_of (Implied proof) = 0
status_of (NotImplied list) = 1
status_of (Equivalent first second) = 0
status_of (NotEquivalent side list) = 1
status_of (ByCircuit verdict) = circuit_status verdict
status_of OnTrue = 0
status_of OnFalse = 1

-- the error line of what this tool alone refuses
abbrev pub fault_line : EaFault → List ℕ
fault_line (States n) = codes "error E13: states " ++ decimal n ++ codes "\n"

-- the exit status of that
abbrev pub fault_status : EaFault → ℕ
fault_status (States n) = 5

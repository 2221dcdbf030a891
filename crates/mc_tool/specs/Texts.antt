-- What verdicts and own refusals print, and their statuses.
use Rattle.std.specs.Prelude.{ℕ, Bool, false, Option, Some, None, List, [], ◌++◌, codes, decimal, if◌then◌else◌}
use Rattle.aig_net.specs.RunTexts.{runs_text}
use Rattle.aig_net.specs.declared.run.Run.{Run}
use Rattle.cnf_frames.specs.ProofTexts.{proof_text}
use Rattle.cnf_frames.specs.declared.inductions.InductionProof.{InductionProof}
use Rattle.hy_files.specs.ErrorLines.{limit_line, name_line, name_of_file}
use Rattle.hy_lasso.specs.Printed.{printed_lassos}
use Rattle.mc_core.specs.declared.checked.Checked.{Checked}
use Rattle.mc_core.specs.declared.checked.Checked.TheVariants.{Holds, Violated, UnknownDepth, UnknownConflicts}
use Rattle.mc_tool.specs.declared.verdict.McFault.{McFault}
use Rattle.mc_tool.specs.declared.verdict.McFault.TheVariants.{Name, Strategy, CnfLimit}
use Rattle.mc_tool.specs.declared.verdict.McVerdict.{McVerdict}
use Rattle.mc_tool.specs.declared.verdict.McVerdict.TheVariants as verdicts
use Rattle.mc_tool.specs.declared.verdict.Question.{Question}
use Rattle.mc_tool.specs.declared.verdict.Question.TheVariants.{Check, CheckByStrategy}

-- whether the text of a verdict has its proof
abbrev pub shows_proof : Question → Bool
shows_proof (Check ask proof) = proof
shows_proof (CheckByStrategy ask) = false

-- a proof by induction, or else runs
abbrev pub evidence_text : List Run → Option InductionProof → List ℕ
evidence_text runs None = runs_text runs
evidence_text runs (Some proof) = proof_text proof

-- the evidence of a verdict, where proofs are shown
abbrev pub shown_evidence : Bool → List Run → Option InductionProof → List ℕ
shown_evidence shown runs proof = if shown then evidence_text runs proof else []

-- the text of what a check comes to, where lassos are printed with these names
abbrev pub checked_text : Bool → List (List ℕ) → Checked → List ℕ
checked_text shown names (Holds traces runs proof) =
    codes "holds\n" ++ printed_lassos names traces ++ shown_evidence shown runs proof
checked_text shown names (Violated traces runs proof) =
    codes "violated\n" ++ printed_lassos names traces ++ shown_evidence shown runs proof
checked_text shown names (UnknownDepth depth kept path) =
    codes "unknown depth " ++ decimal depth ++ codes "\n"
checked_text shown names (UnknownConflicts conflicts k step kept log) =
    codes "unknown conflicts " ++ decimal conflicts ++ codes "\n"

-- what `out` receives with a verdict
abbrev pub text_of : Question → List (List ℕ) → McVerdict → List ℕ
text_of question names (verdicts.Checked checked) = checked_text (shows_proof question) names checked
text_of question names verdicts.StrategyHolds = codes "holds with strategy\n"
text_of question names (verdicts.StrategyFails traces runs) = codes "strategy fails\n" ++ printed_lassos names traces

-- the exit status of what a check comes to
abbrev pub checked_status : Checked → ℕ
checked_status (Holds traces runs proof) = 0
checked_status (Violated traces runs proof) = 1
checked_status (UnknownDepth depth kept path) = 4
checked_status (UnknownConflicts conflicts k step kept log) = 4

-- the exit status of a verdict
abbrev pub status_of : McVerdict → ℕ
status_of (verdicts.Checked checked) = checked_status checked
status_of verdicts.StrategyHolds = 0
status_of (verdicts.StrategyFails traces runs) = 1

-- the line of a strategy, in the file of this name, that has not so many inputs and outputs, or has what none may have
abbrev pub shape_line : List ℕ → ℕ → ℕ → List ℕ
shape_line name inputs outputs =
    codes "error E15 " ++ name ++ codes ": inputs " ++ decimal inputs ++ codes " outputs " ++ decimal outputs ++ codes "\n"

-- the error line of an own refusal, where the command has files of these names
abbrev pub own_line : List (List ℕ) → McFault → List ℕ
own_line files (Name name twice) = name_line name twice
own_line files (Strategy inputs outputs) = shape_line (name_of_file files 2) inputs outputs
own_line files (CnfLimit kind limit kept) = limit_line kind limit

-- its exit status
abbrev pub own_status : McFault → ℕ
own_status (Name name twice) = 2
own_status (Strategy inputs outputs) = 2
own_status (CnfLimit kind limit kept) = 5

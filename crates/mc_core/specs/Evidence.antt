-- What a verdict on a circuit carries, and when two verdicts deny each other.
use Rattle.std.specs.Prelude.{◌≡◌, ◌<◌, List, [], length, Option, Some, None}
use Rattle.hy_bits.specs.Letter.{Letter}
use Rattle.hy_formula.specs.Lassos as letters
use Rattle.aig_net.specs.declared.run.Run.{Run}
use Rattle.cnf_frames.specs.declared.inductions.InductionProof.{InductionProof}
use Rattle.mc_core.specs.declared.checked.Checked.{Checked}
use Rattle.mc_core.specs.declared.checked.Checked.TheVariants.{Holds, Violated, UnknownDepth, UnknownConflicts}

-- Exactly one of runs, with a trace for each, and a proof is there.
abbrev pub IsOneOf : List (letters.Lasso Letter) → List Run → Option InductionProof → Type 0
IsOneOf traces runs None = (0 < length runs) × (length traces ≡ length runs)
IsOneOf traces runs (Some proof) = (traces ≡ []) × (runs ≡ [])

-- A verdict carries exactly one of runs and a proof; where none was found there is neither.
abbrev pub HasOneEvidence : Checked → Type 0
HasOneEvidence (Holds traces runs proof) = IsOneOf traces runs proof
HasOneEvidence (Violated traces runs proof) = IsOneOf traces runs proof
HasOneEvidence (UnknownDepth depth kept path) = Unit {0}
HasOneEvidence (UnknownConflicts conflicts k step kept log) = Unit {0}

-- One says that the formula holds, and the other that it does not.
abbrev pub Denies : Checked → Checked → Type 0
Denies (Holds traces runs proof) (Violated others walks evidence) = Unit {0}
Denies (Violated traces runs proof) (Holds others walks evidence) = Unit {0}
Denies _ _ = ⊥

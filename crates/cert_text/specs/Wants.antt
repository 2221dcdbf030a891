-- What is still wanted of a certificate text behind its first lines, and which lines fill it.
use Rattle.std.specs.Prelude.{◌≡◌, ℕ, zero, suc, ◌+◌, ◌/◌, ◌⊎◌, ◌↔◌, Bool, true, List, [], ◌∷◌, Option, Some, None}
use Rattle.hy_formula.specs.Quantifiers.{Each}
use Rattle.hy_lasso.specs.LassoLines.{SaysLasso}
use Rattle.cert_text.specs.declared.want.Want.{Want}
use Rattle.cert_text.specs.declared.want.Want.TheVariants.{Verdict, FirstLasso, Lassos, Evidence, MoreEvidence, Proofs, Branches, Reasons, Facts, Logs, LearnedClauses, Runs}
use Rattle.cert_text.specs.Lines.{Line, Speaks}
use Rattle.cert_text.specs.RankLines.{SaysRankHead, SaysBranch, SaysReason}
use Rattle.cert_text.specs.InductionLines.{SaysInductionHead, SaysFreeHead, SaysFact, SaysLogHead, SaysLearned}
use Rattle.cert_text.specs.RunLines.{SaysRunsHead, SaysRun}
use Rattle.cert_text.specs.Certificates.{Certificate, Spells}

-- no line
abbrev pub Ends : List Line → Type 0
Ends lines = lines ≡ []

-- so many lines of a kind, and behind them lines of which Then holds
abbrev pub Many : (Line → Type 0) → ℕ → (List Line → Type 0) → List Line → Type 0
Many Is zero Then lines = Then lines
Many Is (suc n) Then [] = ⊥
Many Is (suc n) Then (line ∷ lines) = Is line × Many Is n Then lines

-- the lines of so many logs, and behind them lines of which Then holds
abbrev pub FillLogs : ℕ → (List Line → Type 0) → List Line → Type 0
FillLogs zero Then lines = Then lines
FillLogs (suc n) Then [] = ⊥
FillLogs (suc n) Then (line ∷ lines) =
    (clauses : ℕ) × SaysLogHead line clauses
    × Many (Speaks SaysLearned) clauses (FillLogs n Then) lines

-- how many logs a proof of this depth with so many facts has
abbrev pub logs_of : ℕ → ℕ → ℕ
logs_of depth facts = (facts + 63) / 64 + (depth + 2)

-- what stands behind the head of a proof by induction, and lines of which Then holds
abbrev pub FillInduction : Bool → ℕ → ℕ → (List Line → Type 0) → List Line → Type 0
FillInduction clauses k f Then =
    Many (Speaks (SaysFact clauses)) f (FillLogs (logs_of k f) Then)

-- the lines of so many proofs about formulas, each by ranks or over a free net
abbrev pub FillProofs : ℕ → List Line → Type 0
FillProofs zero lines = Ends lines
FillProofs (suc n) [] = ⊥
FillProofs (suc n) (line ∷ lines) =
    ((b r : ℕ) × SaysRankHead line b r
    × Many (Speaks SaysBranch) b (Many (Speaks SaysReason) r (FillProofs n)) lines)
    ⊎ ((k f : ℕ) × SaysFreeHead line k f × FillInduction true k f (FillProofs n) lines)

-- lines that each say a lasso, maybe none
abbrev pub FillLassos : List Line → Type 0
FillLassos = Each (Speaks SaysLasso)

-- the same, and then runs
abbrev pub FillShown : List Line → Type 0
FillShown [] = ⊥
FillShown (line ∷ lines) =
    ((n : ℕ) × SaysRunsHead line n × Many (Speaks SaysRun) n Ends lines)
    ⊎ (Speaks SaysLasso line × FillShown lines)

-- a proof by induction; or lassos, one at least, and runs
abbrev pub FillEvidence : List Line → Type 0
FillEvidence [] = ⊥
FillEvidence (line ∷ lines) =
    ((clauses : Bool) × (k f : ℕ) × SaysInductionHead clauses line k f
    × FillInduction clauses k f (FillProofs 0) lines)
    ⊎ (Speaks SaysLasso line × FillShown lines)

-- lassos, one at least
abbrev pub FillSome : List Line → Type 0
FillSome [] = ⊥
FillSome (line ∷ lines) = Speaks SaysLasso line × FillLassos lines

-- The lines are what is wanted.
abbrev pub Fills : Want → List Line → Type 0
Fills (Verdict question) lines = (c : Certificate) × Spells lines question c
Fills FirstLasso lines = FillSome lines
Fills Lassos lines = FillLassos lines
Fills Evidence lines = FillEvidence lines
Fills MoreEvidence lines = FillShown lines
Fills (Proofs n) lines = FillProofs n lines
Fills (Branches b r n) lines =
    Many (Speaks SaysBranch) b (Many (Speaks SaysReason) r (FillProofs n)) lines
Fills (Reasons r n) lines = Many (Speaks SaysReason) r (FillProofs n) lines
Fills (Facts clauses f logs n) lines =
    Many (Speaks (SaysFact clauses)) f (FillLogs logs (FillProofs n)) lines
Fills (Logs logs n) lines = FillLogs logs (FillProofs n) lines
Fills (LearnedClauses c logs n) lines =
    Many (Speaks SaysLearned) c (FillLogs logs (FillProofs n)) lines
Fills (Runs n) lines = Many (Speaks SaysRun) n Ends lines

-- The line leaves this want; none where no lines that begin with it are what is wanted.
abbrev pub IsTaken : Want → Line → Option Want → Type 0
IsTaken want line None = (rest : List Line) → ¬ Fills want (line ∷ rest)
IsTaken want line (Some next) = (rest : List Line) → Fills want (line ∷ rest) ↔ Fills next rest

-- Which questions of the tools are about claims, and which of their verdicts have evidence.
use Rattle.std.specs.Prelude.{◌≡◌, ◌≤◌, true, List, []}
use Rattle.hy_bits.specs.Letter.{Letter}
use Rattle.hy_formula.specs.Lassos.{Lasso}
use Rattle.cert_text.specs.declared.question.Question.{Question}
use Rattle.cert_text.specs.declared.question.Question.TheVariants as certificates
use Rattle.ea_tool.specs.declared.verdict.CircuitVerdict.TheVariants.{UnknownDepth, UnknownConflicts}
use Rattle.ea_tool.specs.declared.verdict.EaVerdict.{EaVerdict}
use Rattle.ea_tool.specs.declared.verdict.EaVerdict.TheVariants.{Sat, NotImplied, NotEquivalent, ByCircuit}
use Rattle.ea_tool.specs.declared.verdict.Engine.{Engine}
use Rattle.ea_tool.specs.declared.verdict.Engine.TheVariants.{Branches, Circuit}
use Rattle.ea_tool.specs.declared.verdict.Question.{Question as EaQuestion}
use Rattle.ea_tool.specs.declared.verdict.Question.TheVariants.{Decide, Relate}
use Rattle.ea_tool.specs.declared.verdict.Relation.TheVariants.{Implication, Equivalence}
use Rattle.induction_judge.specs.Good.{most_depth}
use Rattle.mc_core.specs.declared.checked.Checked.{Checked}
use Rattle.mc_core.specs.declared.checked.Checked.TheVariants.{Holds, Violated}
use Rattle.mc_tool.specs.declared.verdict.McVerdict.{McVerdict}
use Rattle.mc_tool.specs.declared.verdict.McVerdict.TheVariants as verdicts
use Rattle.mc_tool.specs.declared.verdict.Question.{Question as McQuestion}
use Rattle.mc_tool.specs.declared.verdict.Question.TheVariants.{Check}

-- ---- questions

-- A proof is asked for, and with it the verdict is a certificate for this question of the checker, about the same files.
abbrev pub CertifiesEa : EaQuestion → Question → Type 0
CertifiesEa (Decide engine proof) certificates.Formula = proof ≡ true
CertifiesEa (Relate Implication engine proof) certificates.Implication = proof ≡ true
CertifiesEa (Relate Equivalence engine proof) certificates.Equivalence = proof ≡ true
CertifiesEa _ _ = ⊥

abbrev pub CertifiesMc : McQuestion → Question → Type 0
CertifiesMc (Check ask proof) certificates.Circuit = proof ≡ true
CertifiesMc _ _ = ⊥

-- A free circuit is asked for no more steps than a certificate has.
abbrev pub IsLow : Engine → Type 0
IsLow (Branches states) = Unit {0}
IsLow (Circuit ask) = ask.depth ≤ most_depth

-- The question asks none for more.
abbrev pub AsksLow : EaQuestion → Type 0
AsksLow (Decide engine proof) = IsLow engine
AsksLow (Relate relation engine proof) = IsLow engine
AsksLow _ = Unit {0}

-- ---- verdicts

-- A free circuit has not left it open.
abbrev pub IsKnown : EaVerdict → Type 0
IsKnown (ByCircuit (UnknownDepth depth)) = ⊥
IsKnown (ByCircuit (UnknownConflicts conflicts)) = ⊥
IsKnown _ = Unit {0}

-- A check found evidence, for or against its formula.
abbrev pub IsFound : McVerdict → Type 0
IsFound (verdicts.Checked (Holds traces runs proof)) = Unit {0}
IsFound (verdicts.Checked (Violated traces runs proof)) = Unit {0}
IsFound _ = ⊥

-- the lassos of a verdict
abbrev pub models_of : EaVerdict → List (Lasso Letter)
models_of (Sat list) = list
models_of (NotImplied list) = list
models_of (NotEquivalent side list) = list
models_of _ = []

-- the lassos of what a check comes to
abbrev pub traces_of : Checked → List (Lasso Letter)
traces_of (Holds traces runs proof) = traces
traces_of (Violated traces runs proof) = traces
traces_of _ = []

-- those of a verdict
abbrev pub traces_in : McVerdict → List (Lasso Letter)
traces_in (verdicts.Checked checked) = traces_of checked
traces_in _ = []

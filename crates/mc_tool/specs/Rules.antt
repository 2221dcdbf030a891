-- The rules of `mchyper`.
use Rattle.std.specs.Prelude.{◌≡◌, ℕ, zero, suc, List, [], ◌∷◌, Ok, Err}
use Rattle.hy_formula.specs.Formulas.{Plain}
use Rattle.aig_net.specs.Nets.{Net}
use Rattle.mc_core.specs.Evidence.{Denies}
use Rattle.mc_core.specs.QueryLimits.{IsQueryLimit}
use Rattle.strat_core.specs.Answers.{IsOpen}
use Rattle.hy_files.specs.Contents.{IsFormula, IsNoFormula}
use Rattle.hy_files.specs.declared.fault.FileFault.{FileFault}
use Rattle.circuit_files.specs.Circuits.{IsCircuit, IsNoCircuit}
use Rattle.hy_run.specs.Names.{Text}
use Rattle.hy_run.specs.Rules.{Rules}
use Rattle.hy_run.specs.Runs.{Answer}
use Rattle.hy_run.specs.declared.refusal.Refusal.TheVariants.{Limit, Own}
use Rattle.mc_tool.specs.Checking.{IsCheck}
use Rattle.mc_tool.specs.Driving.{IsDrive}
use Rattle.mc_tool.specs.Texts.{own_line, own_status, status_of, text_of}
use Rattle.mc_tool.specs.Words.{Asks}
use Rattle.mc_tool.specs.declared.verdict.McFault.{McFault}
use Rattle.mc_tool.specs.declared.verdict.McFault.TheVariants.{CnfLimit}
use Rattle.mc_tool.specs.declared.verdict.McVerdict.{McVerdict}
use Rattle.mc_tool.specs.declared.verdict.McVerdict.TheVariants.{Checked, StrategyHolds, StrategyFails}
use Rattle.mc_tool.specs.declared.verdict.Question.{Question}
use Rattle.mc_tool.specs.declared.verdict.Question.TheVariants.{Check, CheckByStrategy}

-- ---- files: a circuit, a formula of at most four quantifiers, and a strategy, which is a circuit, too

abbrev pub IsText : ℕ → List Text → List ℕ → List Text → Type 0
IsText (suc zero) old bytes new = (f : Plain) × IsFormula 4 old bytes f new
IsText _ old bytes new = (net : Net) × IsCircuit bytes net × (new ≡ old)

abbrev pub IsRefused : ℕ → List Text → List ℕ → FileFault → Type 0
IsRefused (suc zero) old bytes fault = IsNoFormula 4 old bytes fault
IsRefused _ old bytes fault = IsNoCircuit bytes fault

-- ---- questions

-- The bytes are a circuit, a formula and, where asked, a strategy, and the check comes to this.
abbrev pub ComesTo : Question → List (List ℕ) → List Text → Answer McVerdict McFault → Type 0
ComesTo (Check ask proof) (one ∷ two ∷ []) names answer =
    (net : Net) × (f : Plain) × IsCircuit one net × IsFormula 4 [] two f names × IsCheck net names f ask answer
ComesTo (CheckByStrategy ask) (one ∷ two ∷ three ∷ []) names answer =
    (net strategy : Net) × (f : Plain) × IsCircuit one net × IsFormula 4 [] two f names × IsCircuit three strategy
    × IsDrive net strategy names f ask answer
ComesTo _ _ names answer = ⊥

-- ---- what two answers have in common

-- What a check answers, but for what it says of the circuit.
abbrev pub IsOfCheck : Answer McVerdict McFault → Type 0
IsOfCheck (Ok (Checked checked)) = Unit {0}
IsOfCheck (Err (Limit kind limit)) = IsQueryLimit kind
IsOfCheck (Err (Own (CnfLimit kind limit kept))) = IsQueryLimit kind
IsOfCheck _ = ⊥

-- What a check by a strategy answers, but for what it says of the circuit.
abbrev pub IsOfDriving : Answer McVerdict McFault → Type 0
IsOfDriving (Ok StrategyHolds) = Unit {0}
IsOfDriving (Ok (StrategyFails traces runs)) = Unit {0}
IsOfDriving (Ok (Checked checked)) = IsOpen checked
IsOfDriving (Err (Limit kind limit)) = IsQueryLimit kind
IsOfDriving (Err (Own (CnfLimit kind limit kept))) = IsQueryLimit kind
IsOfDriving _ = ⊥

-- One says that the formula holds, or does by the strategy, and the other that it does not.
abbrev pub Deny : Answer McVerdict McFault → Answer McVerdict McFault → Type 0
Deny (Ok (Checked checked)) (Ok (Checked other)) = Denies checked other
Deny (Ok StrategyHolds) (Ok (StrategyFails traces runs)) = Unit {0}
Deny (Ok (StrategyFails traces runs)) (Ok StrategyHolds) = Unit {0}
Deny _ _ = ⊥

-- Two answers say the same. A check may give up where another goes on, and may give other evidence, but no two deny each
-- other.
pub data Agree : Answer McVerdict McFault → Answer McVerdict McFault → Type 0 where
  same : (answer : Answer McVerdict McFault) → Agree answer answer
  other_check : (a b : Answer McVerdict McFault) → IsOfCheck a → IsOfCheck b → ¬ Deny a b → Agree a b
  other_driving : (a b : Answer McVerdict McFault) → IsOfDriving a → IsOfDriving b → ¬ Deny a b → Agree a b

abbrev pub mc_rules : Rules Question McVerdict McFault
mc_rules = record {
  asks = Asks;
  is_text = λ question. IsText;
  is_refused = λ question. IsRefused;
  comes = ComesTo;
  text = text_of;
  status = status_of;
  own_line = own_line;
  own_status = own_status;
  agrees = Agree;
}

-- What a check of a circuit by a strategy answers.
use Rattle.std.specs.Prelude.{◌≡◌, ℕ, ◌<◌, List, length, Result, Ok, Err}
use Rattle.hy_base.specs.Limits.{most}
use Rattle.hy_base.specs.declared.limit.Kind.TheVariants.{Closure as ClosureKind}
use Rattle.hy_base.specs.declared.limit.Limit.{Limit as Past}
use Rattle.hy_bits.specs.Letter.{Letter}
use Rattle.hy_formula.specs.Lassos as letters
use Rattle.hy_formula.specs.Trees.{Tree}
use Rattle.hy_formula.specs.declared.prefix.Quant.{Quant}
use Rattle.aig_net.specs.declared.run.Run.{Run}
use Rattle.aig_net.specs.declared.signals.Signal.{Signal}
use Rattle.aig_net.specs.Executions.{IsLassoExecution, Lasso, Word, gone}
use Rattle.aig_net.specs.Nets.{Net}
use Rattle.aig_net.specs.Simulations.{IsRunOf}
use Rattle.wit_lasso.specs.Unfoldings.{run_at}
use Rattle.strat_compose.specs.declared.question.DriveError.TheVariants as drives
use Rattle.strat_compose.specs.Completions.{IsCompletion, Wins}
use Rattle.strat_compose.specs.Driving.{signal_of}
use Rattle.strat_compose.specs.Formulas.{driven_body}
use Rattle.strat_compose.specs.Refusals.{IsRefusal}
use Rattle.strat_compose.specs.Winning.{Succeeds}
use Rattle.formula_nets.specs.Witnesses.{AreTraces}
use Rattle.mc_core.specs.declared.ask.Ask.{Ask}
use Rattle.mc_core.specs.declared.checked.Checked.{Checked}
use Rattle.mc_core.specs.declared.checked.Checked.TheVariants.{UnknownDepth, UnknownConflicts}
use Rattle.mc_core.specs.declared.mc_error.McError.{McError}
use Rattle.mc_core.specs.declared.mc_error.McError.TheVariants as checks
use Rattle.mc_core.specs.Answers.{IsChecked, IsWorkRefusal}
use Rattle.strat_core.specs.declared.checked.StrategyChecked.{StrategyChecked}
use Rattle.strat_core.specs.declared.checked.StrategyChecked.TheVariants.{Holds, Fails, Unknown}
use Rattle.strat_core.specs.declared.refusal.StrategyError.{StrategyError}
use Rattle.strat_core.specs.declared.refusal.StrategyError.TheVariants.{Prefix, Shape, Names, Name, Closure, Facts, CnfLimit, Memory}
use Rattle.strat_core.specs.Questions.{IsAsked, IsPut, driven_by, driven_members, driven_safe, one_forall}

-- ---- answers

-- The runs are those of m lasso executions of the circuit, and the traces the normal forms of what is
-- seen of them. Their completion is not right, or fails the body.
pub record AreFailing (net strategy : Net) (m e : ℕ) (signals : List Signal) (body : Tree)
    (traces : List (letters.Lasso Letter)) (runs : List Run) : Type 0 where
  pub lassos : ℕ → Lasso
  pub executions : (c : ℕ) → c < m → IsLassoExecution net (lassos c)
  pub many : length runs ≡ m
  pub runs_are : (c : ℕ) → c < m → IsRunOf net (lassos c) (run_at runs c)
  pub traces_are : AreTraces net signals runs traces
  pub player : Word
  pub made : ℕ → Word
  pub completion : IsCompletion net strategy m e (λ c. gone (lassos c)) player made
  pub fails : ¬ Succeeds net m e (signal_of signals) body (λ c. gone (lassos c)) made

-- The check found no verdict.
abbrev pub IsOpen : Checked → Type 0
IsOpen (UnknownDepth depth kept path) = Unit {0}
IsOpen (UnknownConflicts conflicts k step kept log) = Unit {0}
IsOpen _ = ⊥

-- What is found: `own` are the signals of the driven net.
abbrev pub IsStrategyChecked : Net → Net → ℕ → ℕ → List Signal → Tree → List Signal → Ask →
    StrategyChecked → Type 0
IsStrategyChecked net strategy m e signals body own ask Holds =
    Wins net strategy m e (signal_of signals) body
IsStrategyChecked net strategy m e signals body own ask (Fails traces runs) =
    AreFailing net strategy m e signals body traces runs
IsStrategyChecked net strategy m e signals body own ask (Unknown checked) =
    IsOpen checked
    × IsChecked (driven_by net strategy m e signals body) own one_forall
    (driven_body net e body) ask checked

-- ---- refusals

-- What the check of the driven net meets, behind all that is refused before it.
abbrev pub IsDrivenRefusal : Net → Net → List Quant → Tree → List (List ℕ) → Ask → McError → Type 0
IsDrivenRefusal net strategy prefix body names ask refusal =
    (m e : ℕ) × (signals own : List Signal)
    × IsAsked net strategy prefix body names m e signals
    × IsPut net strategy m e signals body own
    × IsWorkRefusal (driven_safe net strategy m e signals body own) ask refusal

abbrev pub closure_limit : Past
closure_limit = record { kind = ClosureKind; limit = most ClosureKind }

-- Why nothing is checked: the first cause in this order, but for memory, which needs none.
abbrev pub IsStrategyRefused : Net → Net → List Quant → Tree → List (List ℕ) → Ask →
    StrategyError → Type 0
IsStrategyRefused net strategy prefix body names ask (Prefix class) =
    IsRefusal net strategy prefix body names (drives.Prefix class)
IsStrategyRefused net strategy prefix body names ask (Shape inputs outputs) =
    IsRefusal net strategy prefix body names (drives.Shape inputs outputs)
IsStrategyRefused net strategy prefix body names ask (Names limit) =
    IsRefusal net strategy prefix body names (drives.Limit limit)
IsStrategyRefused net strategy prefix body names ask (Name name twice) =
    IsRefusal net strategy prefix body names (drives.Name name twice)
IsStrategyRefused net strategy prefix body names ask (Closure limit) =
    (limit ≡ closure_limit) × (m e : ℕ) × (signals : List Signal)
    × IsAsked net strategy prefix body names m e signals
    × (most ClosureKind < driven_members net e body)
IsStrategyRefused net strategy prefix body names ask (Facts limit) =
    IsDrivenRefusal net strategy prefix body names ask (checks.Limit limit)
IsStrategyRefused net strategy prefix body names ask (CnfLimit kind limit kept) =
    IsDrivenRefusal net strategy prefix body names ask (checks.CnfLimit kind limit kept)
IsStrategyRefused net strategy prefix body names ask Memory = Unit {0}

-- ---- both

abbrev pub IsStrategyAnswer : Net → Net → List Quant → Tree → List (List ℕ) → Ask →
    Result StrategyChecked StrategyError → Type 0
IsStrategyAnswer net strategy prefix body names ask (Ok checked) =
    (m e : ℕ) × (signals own : List Signal)
    × IsAsked net strategy prefix body names m e signals
    × IsPut net strategy m e signals body own
    × IsStrategyChecked net strategy m e signals body own ask checked
IsStrategyAnswer net strategy prefix body names ask (Err e) =
    IsStrategyRefused net strategy prefix body names ask e

-- What checking a formula on a circuit by a strategy comes to.
use Rattle.std.specs.Prelude.{◌≡◌, ℕ, ◌*◌, ◌<◌, ◌≤◌, Bool, false, List, Ok, Err}
use Rattle.hy_base.specs.Limits.{most}
use Rattle.hy_base.specs.declared.limit.Kind.{Kind}
use Rattle.hy_base.specs.declared.limit.Kind.TheVariants.{Closure, StrategyNames}
use Rattle.hy_base.specs.declared.limit.Limit.{Limit as Past}
use Rattle.hy_bits.specs.Letter.{Letter}
use Rattle.hy_formula.specs.Atoms.{atoms_of}
use Rattle.hy_formula.specs.Classes.{class_of}
use Rattle.hy_formula.specs.Formulas.{Plain}
use Rattle.hy_formula.specs.Lassos.{Lasso}
use Rattle.hy_formula.specs.declared.classes.Class.{Class}
use Rattle.aig_net.specs.Nets.{Net}
use Rattle.aig_net.specs.declared.run.Run.{Run}
use Rattle.aig_net.specs.declared.signals.Signal.{Signal}
use Rattle.net_names.specs.Names.{IsFirstBad, name_at}
use Rattle.invar_find.specs.declared.kept.Kept.{Kept}
use Rattle.strat_compose.specs.Driving.{IsStrategy, name_count}
use Rattle.strat_compose.specs.Prefixes.{IsForallExists}
use Rattle.strat_compose.specs.Refusals.{AreShaped}
use Rattle.mc_core.specs.Answers.{IsWorkRefusal}
use Rattle.mc_core.specs.declared.ask.Ask.{Ask}
use Rattle.mc_core.specs.declared.checked.Checked.{Checked}
use Rattle.mc_core.specs.declared.mc_error.McError.TheVariants as errors
use Rattle.strat_core.specs.Answers.{IsStrategyChecked}
use Rattle.strat_core.specs.Questions.{IsAsked, IsPut, driven_members, driven_safe}
use Rattle.strat_core.specs.declared.checked.StrategyChecked.TheVariants as found
use Rattle.hy_run.specs.Classes.{is_forall_exists}
use Rattle.hy_run.specs.Runs.{Answer}
use Rattle.hy_run.specs.declared.refusal.Refusal.TheVariants.{Prefix, Limit, Own, Memory}
use Rattle.mc_tool.specs.declared.verdict.McVerdict.{McVerdict}
use Rattle.mc_tool.specs.declared.verdict.McVerdict.TheVariants as verdicts
use Rattle.mc_tool.specs.declared.verdict.McFault.{McFault}
use Rattle.mc_tool.specs.declared.verdict.McFault.TheVariants.{Name, Strategy, CnfLimit}
use Rattle.mc_tool.specs.Checking.{StandForOne}

-- Nothing stands before the work of a check by a strategy: it has the shape that the prefix wants for m universal and e
-- existential quantifiers, the formula that is checked has no more names and members than are taken, and each name of the
-- body stands for one literal.
pub record IsDrivable (net strategy : Net) (names : List (List ℕ)) (f : Plain) : Type 0 where
  pub m : ℕ
  pub e : ℕ
  pub shaped : AreShaped net strategy f.prefix m e
  pub few_names : name_count net e (atoms_of f.body) ≤ most StrategyNames
  pub few_members : driven_members net e f.body ≤ most Closure
  pub named : StandForOne net names f.body

-- What the work comes to, where `own` are the signals of the driven net: the strategy wins, or fails with runs that show
-- it; or neither is found, or a query is past a limit.
pub data DrivesBy (net strategy : Net) (m e : ℕ) (signals : List Signal) (f : Plain) (own : List Signal) (ask : Ask) : Answer McVerdict McFault → Type 0 where
  wins : IsStrategyChecked net strategy m e signals f.body own ask found.Holds
      → DrivesBy net strategy m e signals f own ask (Ok verdicts.StrategyHolds)
  fails : (traces : List (Lasso Letter)) (runs : List Run)
      → IsStrategyChecked net strategy m e signals f.body own ask (found.Fails traces runs)
      → DrivesBy net strategy m e signals f own ask (Ok (verdicts.StrategyFails traces runs))
  undecided : (checked : Checked) → IsStrategyChecked net strategy m e signals f.body own ask (found.Unknown checked)
      → DrivesBy net strategy m e signals f own ask (Ok (verdicts.Checked checked))
  facts_stop : (limit : Past) → IsWorkRefusal (driven_safe net strategy m e signals f.body own) ask (errors.Limit limit)
      → DrivesBy net strategy m e signals f own ask (Err (Limit limit.kind limit.limit))
  paths_stop : (kind : Kind) (limit : ℕ) (kept : Kept)
      → IsWorkRefusal (driven_safe net strategy m e signals f.body own) ask (errors.CnfLimit kind limit kept)
      → DrivesBy net strategy m e signals f own ask (Err (Own (CnfLimit kind limit kept)))

-- The question is asked and put to the driven net, and this is what the check comes to.
pub record IsDriveWork (net strategy : Net) (names : List (List ℕ)) (f : Plain) (ask : Ask) (answer : Answer McVerdict McFault) : Type 0 where
  pub m : ℕ
  pub e : ℕ
  pub signals : List Signal
  pub own : List Signal
  pub asked : IsAsked net strategy f.prefix f.body names m e signals
  pub put : IsPut net strategy m e signals f.body own
  pub comes : DrivesBy net strategy m e signals f own ask answer

-- What checking a formula on a circuit by a strategy comes to: the first of these that is met, or memory ran out.
pub data IsDrive (net strategy : Net) (names : List (List ℕ)) (f : Plain) (ask : Ask) : Answer McVerdict McFault → Type 0 where
  untaken : (class : Class) → class_of f.prefix ≡ class → is_forall_exists f.prefix ≡ false
      → IsDrive net strategy names f ask (Err (Prefix 1 class))
  misshapen : (m e : ℕ) → IsForallExists f.prefix m e → (¬ IsStrategy net strategy m e)
      → IsDrive net strategy names f ask (Err (Own (Strategy (net.inputs * m) (net.inputs * e))))
  many_names : (m e : ℕ) → AreShaped net strategy f.prefix m e → most StrategyNames < name_count net e (atoms_of f.body)
      → IsDrive net strategy names f ask (Err (Limit StrategyNames (most StrategyNames)))
  bad_name : (m e : ℕ) → AreShaped net strategy f.prefix m e → name_count net e (atoms_of f.body) ≤ most StrategyNames
      → (name : ℕ) (twice : Bool) → IsFirstBad net names f.body name twice
      → IsDrive net strategy names f ask (Err (Own (Name (name_at names name) twice)))
  large_closure : (m e : ℕ) (signals : List Signal) → IsAsked net strategy f.prefix f.body names m e signals
      → most Closure < driven_members net e f.body → IsDrive net strategy names f ask (Err (Limit Closure (most Closure)))
  done : (answer : Answer McVerdict McFault) → IsDriveWork net strategy names f ask answer → IsDrive net strategy names f ask answer
  spent : IsDrive net strategy names f ask (Err Memory)

-- What checking a formula on a circuit comes to.
use Rattle.std.specs.Prelude.{◌≡◌, ◌<◌, ◌≤◌, ℕ, Bool, true, false, IsTrue, List, Ok, Err}
use Rattle.hy_base.specs.Limits.{most}
use Rattle.hy_base.specs.declared.limit.Kind.{Kind}
use Rattle.hy_base.specs.declared.limit.Kind.TheVariants.{Closure}
use Rattle.hy_base.specs.declared.limit.Limit.{Limit as Past}
use Rattle.hy_formula.specs.Atoms.{has_name}
use Rattle.hy_formula.specs.Classes.{class_of}
use Rattle.hy_formula.specs.Formulas.{Plain}
use Rattle.hy_formula.specs.Trees.{Tree}
use Rattle.hy_formula.specs.declared.classes.Class.{Class}
use Rattle.aig_net.specs.Nets.{Net}
use Rattle.aig_net.specs.declared.signals.Signal.{Signal}
use Rattle.cnf_frames.specs.declared.queries.FrameError.TheVariants as frame
use Rattle.invar_find.specs.Kepts as kepts
use Rattle.invar_find.specs.declared.kept.Kept.{Kept}
use Rattle.k_induct.specs.Verdicts.{IsStopped}
use Rattle.net_names.specs.Names.{IsFirstBad, IsOnly, name_at}
use Rattle.formula_nets.specs.Posed.{IsPosed, checked_safe, members}
use Rattle.mc_core.specs.Answers.{IsChecked, IsKept}
use Rattle.mc_core.specs.declared.ask.Ask.{Ask}
use Rattle.mc_core.specs.declared.checked.Checked.{Checked}
use Rattle.hy_run.specs.Classes.{is_of_one_kind}
use Rattle.hy_run.specs.Runs.{Answer}
use Rattle.hy_run.specs.declared.refusal.Refusal.TheVariants.{Prefix, Limit, Own, Memory}
use Rattle.mc_tool.specs.declared.verdict.McVerdict.{McVerdict}
use Rattle.mc_tool.specs.declared.verdict.McVerdict.TheVariants as verdicts
use Rattle.mc_tool.specs.declared.verdict.McFault.{McFault}
use Rattle.mc_tool.specs.declared.verdict.McFault.TheVariants.{Name, CnfLimit}

-- Each name of the body stands for one literal of the circuit.
abbrev pub StandForOne : Net → List (List ℕ) → Tree → Type 0
StandForOne net names body = (name : ℕ) → IsTrue (has_name body name) → (l : ℕ) × IsOnly net (name_at names name) l

-- Nothing stands before the work of a check.
pub record IsCheckable (net : Net) (names : List (List ℕ)) (f : Plain) : Type 0 where
  pub taken : is_of_one_kind (class_of f.prefix) ≡ true
  pub few : members f.prefix f.body ≤ most Closure
  pub named : StandForOne net names f.body

-- What the work of a check comes to: what is found, or a query that is past a limit.
pub data ComesBy (net : Net) (signals : List Signal) (f : Plain) (ask : Ask) : Answer McVerdict McFault → Type 0 where
  found : (c : Checked) → IsChecked net signals f.prefix f.body ask c → ComesBy net signals f ask (Ok (verdicts.Checked c))
  facts_stop : (limit : Past) → ask.plain ≡ false
      → kepts.IsStopped (checked_safe net signals f.prefix f.body) (frame.Limit limit)
      → ComesBy net signals f ask (Err (Limit limit.kind limit.limit))
  paths_stop : (kind : Kind) (limit : ℕ) (kept : Kept) → IsKept ask.plain (checked_safe net signals f.prefix f.body) ask.conflicts kept
      → IsStopped (checked_safe net signals f.prefix f.body) kept.inv ask.depth (frame.Limit (record { kind = kind; limit = limit }))
      → ComesBy net signals f ask (Err (Own (CnfLimit kind limit kept)))

-- The names of the formula stand for signals, and this is what the check comes to.
abbrev pub IsWork : Net → List (List ℕ) → Plain → Ask → Answer McVerdict McFault → Type 0
IsWork net names f ask answer =
    (signals : List Signal) × IsPosed net names f.prefix f.body signals × ComesBy net signals f ask answer

-- What checking a formula on a circuit comes to: the first of these that is met, or memory ran out.
pub data IsCheck (net : Net) (names : List (List ℕ)) (f : Plain) (ask : Ask) : Answer McVerdict McFault → Type 0 where
  untaken : (class : Class) → class_of f.prefix ≡ class → is_of_one_kind class ≡ false
      → IsCheck net names f ask (Err (Prefix 1 class))
  large_closure : is_of_one_kind (class_of f.prefix) ≡ true → most Closure < members f.prefix f.body
      → IsCheck net names f ask (Err (Limit Closure (most Closure)))
  bad_name : is_of_one_kind (class_of f.prefix) ≡ true → members f.prefix f.body ≤ most Closure → (name : ℕ) (twice : Bool)
      → IsFirstBad net names f.body name twice → IsCheck net names f ask (Err (Own (Name (name_at names name) twice)))
  done : (answer : Answer McVerdict McFault) → is_of_one_kind (class_of f.prefix) ≡ true → IsWork net names f ask answer
      → IsCheck net names f ask answer
  spent : IsCheck net names f ask (Err Memory)

-- When a body has no monitor: its closure, its atoms or its table is too large.
use Rattle.std.specs.Prelude.{◌≡◌, ℕ, ◌*◌, ◌^◌, ◌<◌, ◌≤◌, List, length, true}
use Rattle.hy_base.specs.declared.limit.Kind.TheVariants.{Closure, Atoms, Table}
use Rattle.hy_formula.specs.Trees.{Tree}
use Rattle.fin_monitor.specs.declared.monitor_error.MonitorError.{MonitorError}
use Rattle.fin_monitor.specs.declared.monitor_error.MonitorError.TheVariants.{Limit, Memory}
use Rattle.hy_formula.specs.Atoms.{atoms_of}
use Rattle.fin_monitor.specs.Duties.{Duty, SomeReached, AreReached}
use Rattle.ltl_closure.specs.Bodies.{body_nodes, body_root}

abbrev pub HasLargeClosure : Tree → Type 0
HasLargeClosure body = 1024 < length (body_nodes body true)

abbrev pub HasSmallClosure : Tree → Type 0
HasSmallClosure body = length (body_nodes body true) ≤ 1024

abbrev pub HasManyAtoms : Tree → Type 0
HasManyAtoms body = 16 < length (atoms_of body)

abbrev pub HasFewAtoms : Tree → Type 0
HasFewAtoms body = length (atoms_of body) ≤ 16

-- so many residuals times joint letters
abbrev pub table_size : Tree → List (List Duty) → ℕ
table_size body list = length list * 2 ^ length (atoms_of body)

-- The residuals that are reached, times the joint letters, are more than 4,194,304.
pub record HasLargeTable (body : Tree) : Type 0 where
  pub list : List (List Duty)
  pub reached : SomeReached (body_nodes body true) (body_root body true) list
  pub many : 4194304 < table_size body list

-- They are at most so many.
pub record HasSmallTable (body : Tree) : Type 0 where
  pub list : List (List Duty)
  pub reached : AreReached (body_nodes body true) (body_root body true) list
  pub few : table_size body list ≤ 4194304

-- why there is no monitor, the closure before the atoms and these before the table
abbrev pub IsRefusal : Tree → MonitorError → Type 0
IsRefusal body (Limit Closure) = HasLargeClosure body
IsRefusal body (Limit Atoms) = HasSmallClosure body × HasManyAtoms body
IsRefusal body (Limit Table) = HasSmallClosure body × HasFewAtoms body × HasLargeTable body
IsRefusal body (Limit _) = ⊥
IsRefusal body Memory = Unit {0}

-- None is too large.
pub record IsTaken (body : Tree) : Type 0 where
  pub closure : HasSmallClosure body
  pub atoms : HasFewAtoms body
  pub table : HasSmallTable body

-- why the atoms of a body were not collected
abbrev pub IsAtomsRefusal : Tree → MonitorError → Type 0
IsAtomsRefusal body (Limit kind) = (kind ≡ Atoms) × HasManyAtoms body
IsAtomsRefusal body Memory = Unit {0}

-- why the closure of a body was not made
abbrev pub IsClosureRefusal : Tree → MonitorError → Type 0
IsClosureRefusal body (Limit kind) = (kind ≡ Closure) × HasLargeClosure body
IsClosureRefusal body Memory = Unit {0}

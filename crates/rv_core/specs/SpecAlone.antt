-- What contracts of a monitor say of the spec with a number. What the spec sees of a trace is a function of its machine.
use Rattle.std.specs.Prelude.{◌≡◌, ◌↔◌, ◌+◌, ◌≤◌, ℕ, Bool, List, slice_get, Some, Result, IfOk, IsTrue}
use Rattle.hy_base.specs.declared.memory.Memory.{Memory}
use Rattle.hy_finite.specs.Traces.{Trace}
use Rattle.fin_monitor.specs.Machines.{Machine}
use Rattle.trace_trie.specs.Numbered.{Numbered, IsHeld}
use Rattle.tuple_walk.specs.Finds.{traces_of}
use Rattle.rv_core.specs.declared.arrival.Outcome.{Outcome}
use Rattle.rv_core.specs.declared.rv.Rv.{Rv}
use Rattle.rv_core.specs.Arrivals.{IsOutcome}
use Rattle.rv_core.specs.Held.{spec_of}
use Rattle.rv_core.specs.Keeping.{kept_at}
use Rattle.rv_core.specs.Masks.{masked}
use Rattle.rv_core.specs.Seen.{watched_by}
use Rattle.rv_core.specs.StepBounds.{IsSpecBound}

-- the names alone that the spec has
abbrev pub by_names : Trace → Machine → Trace
by_names t m = masked (spec_of m) t

-- all names
abbrev pub whole : Trace → Machine → Trace
whole t m = t

module _ (rv : Rv) (spec : ℕ) where
  abbrev pub IsOf : Machine → Type 0
  IsOf m = slice_get (watched_by rv.watches) spec ≡ Some m

  -- It keeps no trace that is equal.
  abbrev pub KeepsNone : Trace → Type 0
  KeepsNone t = (version : List Numbered) → slice_get rv.kept spec ≡ Some version → ¬ IsHeld t version

  -- It is told whether it keeps one.
  abbrev pub TellsHeld : (Machine → Trace) → Bool → Type 0
  TellsHeld seen answer = (m : Machine) → IsOf m → IsTrue answer ↔ IsHeld (seen m) (kept_at rv.kept spec)

  abbrev pub HasOneVariable : Type 0
  HasOneVariable = (m : Machine) → IsOf m → m.variables ≡ 1

  -- This comes of the trace, unless memory ran out.
  abbrev pub ComesOf : (Machine → Trace) → Result Outcome Memory → Type 0
  ComesOf seen result = (m : Machine) → IsOf m → IfOk result
      (IsOutcome rv.rule rv.drop_dominated m (seen m) rv.traces (kept_at rv.kept spec))

  -- The steps grow within each bound for the spec.
  abbrev pub GrowWithin : (Machine → Trace) → ℕ → ℕ → Type 0
  GrowWithin seen old new = (m : Machine) (bound : ℕ) → IsOf m
      → IsSpecBound rv.rule m (traces_of (kept_at rv.kept spec)) (seen m) bound → new ≤ old + bound

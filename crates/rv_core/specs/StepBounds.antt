-- How many steps of the monitors a trace makes at most that arrives.
use Rattle.std.specs.Prelude.{◌≡◌, ◌⊎◌, ℕ, ◌*◌, List, [], ◌∷◌, ◌++◌, length, slice_get, slice_index_or, Some}
use Rattle.std.specs.List.{Contains}
use Rattle.hy_finite.specs.declared.event.Event.{Event}
use Rattle.hy_finite.specs.declared.event.Event.TheVariants as event
use Rattle.hy_finite.specs.declared.lengths.Lengths.{Lengths}
use Rattle.hy_finite.specs.Traces.{Trace}
use Rattle.fin_monitor.specs.Machines.{Machine}
use Rattle.dominance.specs.Dominance.{IsSymmetric}
use Rattle.tuple_walk.specs.Finds.{traces_of}
use Rattle.tuple_walk.specs.JointPrefixes.{Row, IsJointPrefix, IsFirstPrefix}
use Rattle.rv_core.specs.Held.{Held, spec_of}
use Rattle.rv_core.specs.Keeping.{kept_at}
use Rattle.rv_core.specs.Masks.{masked}
use Rattle.rv_core.specs.Opened.{letters_in}

-- The trace arrives by the event.
abbrev pub Brings : Held → Event → Trace → Type 0
Brings m (event.Whole t) u = u ≡ t
Brings m (event.End n) u = letters_in n m.sessions ≡ Some u
Brings m (event.Letter n a) u = ⊥
Brings m event.Save u = ⊥
Brings m event.Back u = ⊥

-- A bound for a walk over the tuples of members of a list that have the trace: for each variable of
-- the body as many as a list has that has each joint prefix of these tuples; or, where the order of
-- two traces does not matter, as many as one has that has each of those with the trace first.
pub data IsBound (rule : Lengths) (m : Machine) (list : List Trace) (t : Trace) : ℕ → Type 0 where
  by_joint : (prefixes : List (List Row))
      → ((rows : List Row) → IsJointPrefix rule list t m.variables rows → Contains prefixes rows)
      → IsBound rule m list t (m.variables * length prefixes)
  by_first : (prefixes : List (List Row)) → IsSymmetric rule m.variables m.body
      → ((rows : List Row) → IsFirstPrefix rule list t m.variables rows → Contains prefixes rows)
      → IsBound rule m list t (length prefixes)

-- A bound for a spec for which these are kept: none where the trace equals one of them; else one
-- for a walk over them and the trace.
abbrev pub IsSpecBound : Lengths → Machine → List Trace → Trace → ℕ → Type 0
IsSpecBound rule m kept t bound =
    (Contains kept t × (bound ≡ 0)) ⊎ IsBound rule m (kept ++ t ∷ []) t bound

-- Each spec has its bound, for the trace with the names alone that it has.
pub record AreBounds (m : Held) (t : Trace) (bounds : List ℕ) : Type 0 where
  pub long : length bounds ≡ length m.machines
  pub right : (s : ℕ) (q : Machine) → slice_get m.machines s ≡ Some q
      → IsSpecBound m.rule q (traces_of (kept_at m.kept s)) (masked (spec_of q) t)
      (slice_index_or bounds s 0)

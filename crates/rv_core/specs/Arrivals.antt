-- What comes of a trace that arrives, for one spec and for all.
use Rattle.std.specs.Prelude.{◌≡◌, ◌⊎◌, ℕ, ◌+◌, ◌<◌, Bool, false, List, [], ◌∷◌, ◌++◌, length, slice_get, Option, Some, None}
use Rattle.std.specs.List.{Contains}
use Rattle.hy_formula.specs.Quantifiers.{Each}
use Rattle.hy_finite.specs.declared.lengths.Lengths.{Lengths}
use Rattle.hy_finite.specs.Traces.{Trace}
use Rattle.fin_monitor.specs.Machines.{Machine}
use Rattle.trace_trie.specs.Numbered.{Numbered, IsHeld}
use Rattle.tuple_walk.specs.Finds.{AreViolating, AllMeet, traces_of}
use Rattle.rv_core.specs.declared.arrival.Outcome.{Outcome}
use Rattle.rv_core.specs.declared.arrival.Outcome.TheVariants.{Stays, Passes, Violates}
use Rattle.rv_core.specs.declared.arrival.Arrival.{Arrival}
use Rattle.rv_core.specs.declared.arrival.Arrival.TheVariants.{Same, Clean, Violation}
use Rattle.rv_core.specs.Held.{Held, spec_of}
use Rattle.rv_core.specs.Keeping.{Covers, AreBelow, kept_at}
use Rattle.rv_core.specs.Masks.{masked}

-- ---- one spec

-- Nothing is violated with the trace that was not before: an equal one is kept, or all tuples with
-- it of those that are kept meet the body.
abbrev pub IsPassed : Lengths → Machine → Trace → List Numbered → Type 0
IsPassed rule m t kept = IsHeld t kept ⊎ AllMeet m rule (traces_of kept ++ t ∷ []) t

module _ (rule : Lengths) (drop : Bool) (m : Machine) (t : Trace) where
  -- The kept one covers the trace.
  abbrev pub IsOver : Numbered → Type 0
  IsOver p = Covers rule drop (spec_of m) p.1 t

  -- The trace covers the kept one.
  abbrev pub IsUnder : Numbered → Type 0
  IsUnder p = Covers rule drop (spec_of m) t p.1

  -- Those that the trace covers are dropped, and the others are left in their order.
  pub data AreLeft : List Numbered → List Numbered → Type 0 where
    none : AreLeft [] []
    dropped : (p : Numbered) (kept left : List Numbered) → IsUnder p → AreLeft kept left
        → AreLeft (p ∷ kept) left
    stays : (p : Numbered) (kept left : List Numbered) → (¬ IsUnder p) → AreLeft kept left
        → AreLeft (p ∷ kept) (p ∷ left)

  -- What is kept with the trace: what was kept, where one of these covers it; else what it does not
  -- cover of these, and the trace last.
  pub data IsNext (n : ℕ) (old new : List Numbered) : Type 0 where
    over : (p : Numbered) → Contains old p → IsOver p → new ≡ old → IsNext n old new
    last : (left : List Numbered) → Each (λ (p : Numbered). ¬ IsOver p) old → AreLeft old left
        → new ≡ left ++ (n, t) ∷ [] → IsNext n old new

  -- What comes of it: what is kept then, or a tuple that violates the body.
  abbrev pub IsOutcome : ℕ → List Numbered → Outcome → Type 0
  IsOutcome n old Stays = IsPassed rule m t old × IsNext n old old
  IsOutcome n old (Passes new) = IsPassed rule m t old × IsNext n old new
  IsOutcome n old (Violates tuple) = AreViolating m rule (old ++ (n, t) ∷ []) tuple

-- ---- all specs, for each of which the trace has the names alone that the spec has

-- Each spec keeps an equal one.
abbrev pub AreHeld : List Machine → Trace → List (List Numbered) → Type 0
AreHeld machines t kept = (s : ℕ) (m : Machine) → slice_get machines s ≡ Some m
    → IsHeld (masked (spec_of m) t) (kept_at kept s)

-- Each spec is passed, and this is kept then.
pub record AreNext (rule : Lengths) (drop : Bool) (machines : List Machine) (n : ℕ) (t : Trace)
    (old new : List (List Numbered)) : Type 0 where
  pub long : length new ≡ length machines
  pub passed : (s : ℕ) (m : Machine) → slice_get machines s ≡ Some m
      → IsPassed rule m (masked (spec_of m) t) (kept_at old s)
  pub right : (s : ℕ) (m : Machine) → slice_get machines s ≡ Some m
      → IsNext rule drop m (masked (spec_of m) t) n (kept_at old s) (kept_at new s)

-- The spec with this number is violated by this tuple, and those before it are passed.
pub record FirstFound (rule : Lengths) (machines : List Machine) (n : ℕ) (t : Trace)
    (old : List (List Numbered)) (k : ℕ) (tuple : List ℕ) : Type 0 where
  pub machine : Machine
  pub there : slice_get machines k ≡ Some machine
  pub violating :
      AreViolating machine rule (kept_at old k ++ (n, masked (spec_of machine) t) ∷ []) tuple
  pub before : (s : ℕ) (m : Machine) → s < k → slice_get machines s ≡ Some m
      → IsPassed rule m (masked (spec_of m) t) (kept_at old s)

-- what is kept then, where it changes, or else now
abbrev pub kept_or : List (List Numbered) → Option (List (List Numbered)) → List (List Numbered)
kept_or kept None = kept
kept_or kept (Some next) = next

abbrev pub IsArrival : Held → Trace → Arrival → Type 0
IsArrival m t Same = AreNext m.rule m.drop m.machines m.arrived t m.kept m.kept
IsArrival m t (Clean kept) = AreNext m.rule m.drop m.machines m.arrived t m.kept kept
IsArrival m t (Violation spec tuple) =
    FirstFound m.rule m.machines m.arrived t m.kept spec tuple

-- What is kept then, where it changes, has numbers below n, for so many specs.
abbrev pub FitsIn : ℕ → ℕ → Arrival → Type 0
FitsIn specs n Same = Unit {0}
FitsIn specs n (Clean kept) = AreBelow specs n kept
FitsIn specs n (Violation spec tuple) = Unit {0}

-- what a monitor holds with a trace more, where this is kept then
abbrev pub with_kept : Held → List (List Numbered) → Bool → Held
with_kept m kept clean = record m { arrived = m.arrived + 1; kept = kept; clean = clean }

-- What was kept stays where nothing more is, and after a violation.
abbrev pub after_arrival : Held → Arrival → Held
after_arrival m Same = with_kept m m.kept m.clean
after_arrival m (Clean kept) = with_kept m kept m.clean
after_arrival m (Violation spec tuple) = with_kept m m.kept false

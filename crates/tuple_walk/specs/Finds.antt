-- What is found among the tuples of numbered traces.
use Rattle.std.specs.Prelude.{◌≡◌, ℕ, List, ◌∷◌, map}
use Rattle.std.specs.List.{Contains}
use Rattle.hy_formula.specs.Quantifiers.{IsTuple}
use Rattle.hy_finite.specs.declared.lengths.Lengths.{Lengths}
use Rattle.hy_finite.specs.Traces.{Trace, Meets}
use Rattle.fin_monitor.specs.Machines.{Machine}
use Rattle.trace_trie.specs.Numbered.{Numbered}

abbrev pub numbers_of : List Numbered → List ℕ
numbers_of pairs = map (λ (p : Numbered). p.0) pairs

abbrev pub traces_of : List Numbered → List Trace
traces_of pairs = map (λ (p : Numbered). p.1) pairs

-- The numbers are those of members of the list, one for each variable; and these violate the body.
pub record AreViolating (m : Machine) (lengths : Lengths) (list : List Numbered)
    (numbers : List ℕ) : Type 0 where
  pub pairs : List Numbered
  pub members : IsTuple (Contains list) m.variables pairs
  pub same : numbers_of pairs ≡ numbers
  pub violates : ¬ Meets lengths m.body (traces_of pairs)

-- Each tuple of members that has the trace somewhere meets the body.
abbrev pub AllMeet : Machine → Lengths → List Trace → Trace → Type 0
AllMeet m lengths list t = (tuple : List Trace)
    → IsTuple (Contains list) m.variables tuple → Contains tuple t → Meets lengths m.body tuple

-- Each tuple of members that has the trace first meets the body.
abbrev pub FirstMeet : Machine → Lengths → List Trace → Trace → Type 0
FirstMeet m lengths list t = (others : List Trace)
    → IsTuple (Contains list) m.variables (t ∷ others) → Meets lengths m.body (t ∷ others)

-- The number stands first.
abbrev pub IsFirst : ℕ → List ℕ → Type 0
IsFirst number numbers = (others : List ℕ) × (numbers ≡ number ∷ others)

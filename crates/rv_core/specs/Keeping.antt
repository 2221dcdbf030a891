-- What is kept of the traces that arrived, for a spec, each of them masked: those that no other one
-- covers, of equal ones the first.
use Rattle.std.specs.Prelude.{◌≡◌, ℕ, ◌<◌, Bool, true, false, ◌||◌, nat_eq, List, [], ◌∷◌, length, map, slice_index_or}
use Rattle.std.specs.Coded.{×_prop, Unit-prop, le_prop, Coded-set, coded_ℕ}
use Rattle.hy_formula.specs.Quantifiers.{Each}
use Rattle.hy_finite.specs.declared.lengths.Lengths.{Lengths}
use Rattle.hy_finite.specs.Traces.{Trace}
use Rattle.trace_trie.specs.Numbered.{Numbered}
use Rattle.dominance.specs.Dominance.{Dominates}
use Rattle.dominance.specs.Leaders.{AreLeaders, numbered}
use Rattle.dominance.specs.Leaders as leaders
use Rattle.rv_core.specs.Endings.{Spec, spec_at}
use Rattle.rv_core.specs.Masks.{masked_list}

-- Dominated traces of the spec are dropped: where that is asked for, and where there is one variable.
-- Then each trace is judged by itself, and one that satisfies the body dominates each other one.
abbrev pub is_dropping : Bool → Spec → Bool
is_dropping drop spec = drop || nat_eq spec.variables 1

-- The first trace covers the other: it dominates it, where dominated ones are dropped; else they
-- are equal.
abbrev pub CoversIf : Bool → Lengths → Spec → Trace → Trace → Type 0
CoversIf false rule spec t u = t ≡ u
CoversIf true rule spec t u = Dominates rule spec.variables spec.body t u

abbrev pub Covers : Lengths → Bool → Spec → Trace → Trace → Type 0
Covers rule drop spec t u = CoversIf (is_dropping drop spec) rule spec t u

-- numbered traces as members that arrived
abbrev pub members_of : List Numbered → List (leaders.Numbered Trace)
members_of kept = map (λ (p : Numbered). numbered p.0 p.1) kept

-- What is kept are the leaders.
abbrev pub IsKept : Lengths → Bool → Spec → List Trace → List Numbered → Type 0
IsKept rule drop spec list kept = AreLeaders (Covers rule drop spec) list (members_of kept)

-- It is said that so many traces are kept for a spec: where dominated ones are dropped, as there
-- are leaders; else all that arrived, equal ones too.
abbrev pub IsKeptCount : Lengths → Bool → Spec → List Trace → ℕ → Type 0
IsKeptCount rule false spec list n = n ≡ length list
IsKeptCount rule true spec list n =
    (kept : List (leaders.Numbered Trace))
    × AreLeaders (Dominates rule spec.variables spec.body) list kept × (n ≡ length kept)

-- what is kept for a spec, by its number
abbrev pub kept_at : List (List Numbered) → ℕ → List Numbered
kept_at kept s = slice_index_or kept s []

-- It is what is kept of a list for each spec, with the names alone that the spec has.
pub record AreKept (rule : Lengths) (drop : Bool) (specs : List Spec) (list : List Trace)
    (kept : List (List Numbered)) : Type 0 where
  pub long : length kept ≡ length specs
  pub right : (s : ℕ) → s < length specs
      → IsKept rule drop (spec_at specs s) (masked_list (spec_at specs s) list) (kept_at kept s)

-- For each of so many specs traces are kept, by numbers below n.
abbrev pub AreBelow : ℕ → ℕ → List (List Numbered) → Type 0
AreBelow specs n kept =
    (length kept ≡ specs)
    × Each (λ (list : List Numbered). Each (λ (p : Numbered). p.0 < n) list) kept

numbers-prop : (n : ℕ) (list : List Numbered) → IsProp (Each (λ (p : Numbered). p.0 < n) list)
numbers-prop n [] = Unit-prop
numbers-prop n (p ∷ ps) = ×_prop le_prop (numbers-prop n ps)

each-prop : (n : ℕ) (kept : List (List Numbered))
    → IsProp (Each (λ (list : List Numbered). Each (λ (p : Numbered). p.0 < n) list) kept)
each-prop n [] = Unit-prop
each-prop n (list ∷ lists) = ×_prop (numbers-prop n list) (each-prop n lists)

pub AreBelow-prop : (specs n : ℕ) (kept : List (List Numbered)) → IsProp (AreBelow specs n kept)
AreBelow-prop specs n kept = ×_prop (Coded-set coded_ℕ (length kept) specs) (each-prop n kept)

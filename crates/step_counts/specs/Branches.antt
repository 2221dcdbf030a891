-- How many steps an arrival makes at most, by where the other traces branch off from the new one.
use Rattle.std.specs.Prelude.{◌≡◌, ℕ, zero, suc, ◌+◌, ◌*◌, ◌^◌, ◌<◌, ◌≤◌, ◌⊎◌, List, [], ◌∷◌, length, map, take, slice_index_or}
use Rattle.std.specs.List.{Contains}
use Rattle.hy_formula.specs.Quantifiers.{Each}
use Rattle.hy_finite.specs.declared.lengths.Lengths.{Lengths}
use Rattle.hy_finite.specs.Traces.{Trace}
use Rattle.dominance.specs.Dominance.{IsSymmetric}
use Rattle.rv_core.specs.Endings.{Spec}

-- The words stand in lists, one for each length from 1 on. Each trace of the list begins as the new
-- one does or with one of the words, for each length that both have.
pub record Branches (list : List Trace) (t : Trace) (words : List (List Trace)) : Type 0 where
  pub long : length t ≤ length words
  pub right : (u : Trace) (k : ℕ) → Contains list u → k < length t → k < length u
      → (take (suc k) u ≡ take (suc k) t) ⊎ Contains (slice_index_or words k []) (take (suc k) u)

-- how many words there are of each length
abbrev pub counts_of : List (List Trace) → List ℕ
counts_of words = map (λ (some : List Trace). length some) words

-- how many tuples of n words have a given word first, where there are so many others
abbrev pub firsts_with : ℕ → ℕ → ℕ
firsts_with zero others = 0
firsts_with (suc n) others = suc others ^ n

-- how many have it somewhere
abbrev pub tuples_with : ℕ → ℕ → ℕ
tuples_with zero others = 0
tuples_with (suc n) others = firsts_with (suc n) others + others * tuples_with n others

-- the sum over all lengths
abbrev pub over_lengths : (ℕ → ℕ) → List ℕ → ℕ
over_lengths f [] = 0
over_lengths f (others ∷ more) = f others + over_lengths f more

-- for each variable as many steps as there are joint prefixes, where for each length so many words
-- branch off from the new trace
abbrev pub steps_of : List ℕ → Spec → ℕ
steps_of counts spec = spec.variables * over_lengths (tuples_with spec.variables) counts

-- as many as there are joint prefixes with the new trace first
abbrev pub first_steps_of : List ℕ → Spec → ℕ
first_steps_of counts spec = over_lengths (firsts_with spec.variables) counts

-- The order of two traces does not matter to any spec.
abbrev pub AreSymmetric : Lengths → List Spec → Type 0
AreSymmetric rule specs = Each (λ (spec : Spec). IsSymmetric rule spec.variables spec.body) specs

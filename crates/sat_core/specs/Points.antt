-- The one place of the level through which all of a conflict goes, and what is learned there.
use Rattle.std.specs.Prelude.{◌≡◌, ℕ, suc, ◌<◌, ◌≤◌, ◌⊎◌, true, false, ℤ, pos, neg_ℤ, List, [], length, map, reverse, Contains, slice_index_or}
use Rattle.sat_core.specs.declared.analysis.Analysis.{Analysis}
use Rattle.chain_check.specs.Clauses.{Clause}
use Rattle.chain_check.specs.Chains.{Refutes}
use Rattle.sat_core.specs.Analyses.{IsAnalysis, IsRefuting}

pub record IsPoint (clauses : List Clause) (trail : List ℤ) (start p : ℕ)
    (a : Analysis) : Type 0 where
  pub level : start ≤ p
  pub inside : p < length trail
  pub seen : slice_index_or a.seen p false ≡ true
  pub only : a.unsettled ≡ 1
  pub is : IsAnalysis trail start (suc p) a.seen (length a.lower.items) a.unsettled
  pub refuting : IsRefuting clauses trail (suc p) [] a.seen a.chain.items

-- The clause has the opposite of the literal at p. The others are opposites of literals before `start`,
-- and `highest` is one more than the highest place of those.
pub record IsTopped (trail : List ℤ) (start p : ℕ) (c : Clause) (highest : ℕ) : Type 0 where
  pub level : start ≤ p
  pub inside : p < length trail
  pub top : Contains c (neg_ℤ (slice_index_or trail p (pos 0)))
  pub others : (m : ℤ) → Contains c m → (m ≡ neg_ℤ (slice_index_or trail p (pos 0))) ⊎
      ((i : ℕ) × (i < start) × (i < highest) × (slice_index_or trail i (pos 0) ≡ neg_ℤ m))
  pub reached : 0 < highest → (i : ℕ) × (suc i ≡ highest) × (i < start) ×
      Contains c (neg_ℤ (slice_index_or trail i (pos 0)))

pub record IsAsserting (clauses : List Clause) (trail : List ℤ) (start p : ℕ) (c : Clause)
    (highest : ℕ) (chain : List ℕ) : Type 0 where
  pub topped : IsTopped trail start p c highest
  pub refuted : Refutes clauses (map neg_ℤ c) (reverse chain)

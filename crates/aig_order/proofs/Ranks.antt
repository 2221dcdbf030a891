-- An and above all that it uses does not depend on itself, where no and uses one of a higher rank.
use Rattle.std.proofs.Common.{◌≡◌, ℕ, ◌≤◌, List, refl, ap, arith}
use Rattle.std.specs.Prelude.{slice_index}
use Rattle.aig_order.specs.declared.gate.Gate.{Gate}
use Rattle.aig_order.specs.Gates.{Depends, at_once, through}
use Rattle.aig_order.specs.Reaching.{AreRanks, IsAbove}

module _ (gates : List Gate) (ranks : List ℕ) (are : AreRanks gates ranks) where
  -- what is used has no higher rank, by any number of steps
  lower : (k j : ℕ) → Depends gates k j → slice_index ranks j ≤ slice_index ranks k
  lower _ _ (at_once k j lt less used) = are k j lt less used
  lower _ _ (through k i j lt less used more) = omega (arith, are k i lt less used, lower i j more)

  pub above_free : (k n : ℕ) → IsAbove gates ranks k n → n ≤ slice_index ranks k → ¬ Depends gates k k
  above_free k n is le round = step k k round refl is le
    where
      step : (a b : ℕ) → Depends gates a b → b ≡ a → IsAbove gates ranks a n → n ≤ slice_index ranks a → ⊥
      step _ _ (at_once a b lt less used) e above low = omega (arith, above b less used, low, ap (slice_index ranks) e)
      step _ _ (through a i b lt less used more) e above low = omega (arith, above i less used, lower i b more, low, ap (slice_index ranks) e)

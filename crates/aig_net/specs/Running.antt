-- Words that go as a net says, whatever their start and the constraints, and the run of a net on inputs.
use Rattle.std.specs.Prelude.{◌≡◌, ℕ, suc, ◌<◌, ◌≤◌, Bool, false, length}
use Rattle.aig_net.specs.Nets.{Net, latch_variable, variables, IsRight, IsStep}
use Rattle.aig_net.specs.Executions.{Word}

-- The word has right gates at each position, and right steps.
pub record Obeys (net : Net) (word : Word) : Type 0 where
  pub right : (i : ℕ) → IsRight net (word i)
  pub goes : (i : ℕ) → IsStep net (word i) (word (suc i))

-- Two words have equal inputs at each position, and equal latches at the first.
pub record AreGivenAlike (net : Net) (v w : Word) : Type 0 where
  pub inputs : (i j : ℕ) → j < net.inputs → v i (suc j) ≡ w i (suc j)
  pub first : (j : ℕ) → j < length net.latches →
      v 0 (latch_variable net j) ≡ w 0 (latch_variable net j)

-- The word obeys the net, its inputs are these by position and place, its first latches these by
-- place, and it is false at numbers that are no variables.
pub record IsRunOn (net : Net) (inputs : ℕ → ℕ → Bool) (latches : ℕ → Bool)
    (word : Word) : Type 0 where
  pub obeys : Obeys net word
  pub given : (i j : ℕ) → j < net.inputs → word i (suc j) ≡ inputs i j
  pub first : (j : ℕ) → j < length net.latches → word 0 (latch_variable net j) ≡ latches j
  pub rest : (i u : ℕ) → variables net ≤ u → word i u ≡ false

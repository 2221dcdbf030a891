use Rattle.std.proofs.Common.{◌≡◌, ℕ, ◌<◌, ◌≤◌, false}
use Rattle.std.specs.FinSet.{contains}
use Rattle.ltl_tableau.proofs.steps.last_to_do.Given as goal

abbrev pub invariant-loop-last : goal.invariant-loop-last
invariant-loop-last g l =
    record {
      lower : l.last ≤ l.below;
      none : (k : ℕ) → l.last ≤ k → k < l.below → contains l.held k ≡ false;
    }

abbrev pub decreases-loop-last : goal.decreases-loop-last
decreases-loop-last g l = l.last

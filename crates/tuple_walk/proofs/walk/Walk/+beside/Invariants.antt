use Rattle.std.proofs.Common.{◌+◌, ◌*◌, ◌-◌, ◌≤◌, ℕ, cond, take}
use Rattle.trace_trie.specs.Cursors.{letters_of, rests_at}
use Rattle.tuple_walk.specs.Pairs.{beside, sought_beside}
use Rattle.tuple_walk.specs.Searches.{AreAcceptedBy, AreStepsBy}
use Rattle.tuple_walk.specs.Walks.{machine_in}
use Rattle.tuple_walk.proofs.Longest.{longest_in}
use Rattle.tuple_walk.proofs.walk.Walk.+beside.Given as goal

abbrev pub decreases-search_beside : goal.decreases-search_beside
decreases-search_beside g l = 3 * longest_in (rests_at l.node.now) + 2

abbrev pub decreases-search_letters : goal.decreases-search_letters
decreases-search_letters g l = 3 * longest_in (rests_at l.node.now)

abbrev pub decreases-search_node : goal.decreases-search_node
decreases-search_node g l = 3 * longest_in (rests_at l.node.now) + 1

abbrev pub invariant-search_letters-loop-k : goal.invariant-search_letters-loop-k
invariant-search_letters-loop-k g l =
    record {
      accepted : (number : ℕ) → AreAcceptedBy (sought_beside l.first (number, l.given))
          (machine_in l.self) l.self.lengths l.q (cond l.first 1 0) (take l.k (letters_of l.node))
          (beside l.first (number, l.given) (rests_at l.node));
      steps : l.fn.steps ≤ l.steps;
      counted : (number : ℕ) → AreStepsBy (sought_beside l.first (number, l.given))
          l.self.lengths (cond l.first 1 0) (take l.k (letters_of l.node)) (beside l.first (number, l.given) (rests_at l.node))
          (l.steps - l.fn.steps);
    }

use Rattle.std.proofs.Common.{◌+◌, ◌≤◌, ℕ, List, sum, take}
use Rattle.rv_core.specs.Arrivals.{kept_or}
use Rattle.rv_core.specs.Seen.{watched_by, held}
use Rattle.rv_core.specs.StepBounds.{AreBounds}
use Rattle.rv_core.proofs.Making.{AreMade}
use Rattle.rv_core.proofs.rv.Rv.arrival.Given as goal

abbrev pub invariant-loop-i : goal.invariant-loop-i
invariant-loop-i g l = record {
  made : AreMade l.self.rule l.self.drop_dominated (watched_by l.self.watches) l.self.traces l.trace
      l.self.kept l.i (kept_or l.self.kept l.next);
  grown : l.fn.steps ≤ l.steps;
  bounded : (bounds : List ℕ) → AreBounds (held l.self) l.trace bounds
      → l.steps ≤ l.fn.steps + sum (take l.i bounds);
}

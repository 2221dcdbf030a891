use Rattle.std.proofs.Common.{◌≡◌, ◌≢◌, ◌+◌, ◌<◌, ℕ, true, false, get_or}
use Rattle.rank_check.specs.Graphs.{members_of}
use Rattle.fair_search.specs.Paths.{IsSpread, Grows}
use Rattle.fair_search.proofs.path.Spread.expand.Given as goal

abbrev pub invariant-loop-i : goal.invariant-loop-i
invariant-loop-i g l = record {
  spread : IsSpread l.g l.self.seen l.self.reached;
  grows : Grows l.initial.self.seen l.initial.self.reached l.self.seen l.self.reached;
  done : (k : ℕ) → k < l.i → (get_or (members_of l.g l.group) k 0 ≢ l.to) ×
      (get_or l.self.seen (get_or (members_of l.g l.group) k 0) false ≡ true);
  counted : l.steps ≡ l.initial.steps + l.i;
}

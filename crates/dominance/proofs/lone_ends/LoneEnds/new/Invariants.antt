use Rattle.std.proofs.Common.{◌≡◌, ℕ, ◌≤◌, List, length}
use Rattle.fin_monitor.specs.Machines.{Machine, states_of}
use Rattle.dominance.specs.LoneEnds.{AreLoneEnds}
use Rattle.dominance.proofs.lone_ends.LoneEnds.new.Given as goal

abbrev pub invariant-loop-q : goal.invariant-loop-q
invariant-loop-q l = record {
  long : length l.ends ≡ l.q;
  kept : (m : Machine) (column : List ℕ) → l.states ≤ states_of m → length column ≡ l.positions
      → AreLoneEnds m column l.ends;
}

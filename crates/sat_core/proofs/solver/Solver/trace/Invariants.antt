use Rattle.std.proofs.Common.{◌≡◌, ◌+◌, ◌≤◌, length}
use Rattle.std.specs.Prelude.{ℤ}
use Rattle.sat_core.specs.Sessions.{IsTraced}
use Rattle.sat_core.proofs.solver.Solver.trace.Given as goal

abbrev pub invariant-loop-p : goal.invariant-loop-p
invariant-loop-p l = record {
  long : length l.seen ≡ length l.initial.seen;
  inside : l.p ≤ l.place + 1;
  traced : (x : ℤ) → IsTraced l.self l.initial.seen (l.place + 1) x →
      IsTraced l.self l.seen l.p x;
}

abbrev pub decreases-loop-p : goal.decreases-loop-p
decreases-loop-p l = l.p

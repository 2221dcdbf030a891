use Rattle.std.proofs.Common.{ℕ, ◌<◌}
use Rattle.fin_monitor.specs.Seen.{machine_of}
use Rattle.dominance.specs.Telling.{MustAgreeFrom}
use Rattle.dominance.proofs.telling.must_agree.Given as goal

abbrev pub invariant-loop-q : goal.invariant-loop-q
invariant-loop-q g l = (q : ℕ) → q < l.q → MustAgreeFrom (machine_of l.m) l.i l.j q

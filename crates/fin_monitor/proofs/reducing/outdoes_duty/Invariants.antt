use Rattle.std.proofs.Common.{◌≡◌, ◌<◌, ◌||◌, ℕ, true}
use Rattle.std.specs.FinSet.{contains}
use Rattle.fin_monitor.specs.Reductions.{OutdoesSome}
use Rattle.fin_monitor.proofs.reducing.outdoes_duty.Given as goal

abbrev pub invariant-loop-k : goal.invariant-loop-k
invariant-loop-k g l =
    (k : ℕ) → k < l.k → (contains l.e.strong k || contains l.e.weak k) ≡ true → OutdoesSome l.closure.nodes k l.d

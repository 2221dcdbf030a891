use Rattle.std.proofs.Common.{◌≡◌, ℕ, ◌<◌}
use Rattle.hy_bits.specs.Binary.{has_one}
use Rattle.fin_monitor.specs.Machines.{next_state, settled_state}
use Rattle.fin_monitor.specs.Seen.{machine_of}
use Rattle.dominance.proofs.telling.must_agree_from.Given as goal

abbrev pub invariant-loop-code : goal.invariant-loop-code
invariant-loop-code g l =
    (code : ℕ) → code < l.code → ¬ (has_one code l.i ≡ has_one code l.j)
    → next_state (machine_of l.m) l.q code ≡ settled_state (machine_of l.m)

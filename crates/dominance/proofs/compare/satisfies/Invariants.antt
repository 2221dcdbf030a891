use Rattle.std.proofs.Common.{◌≡◌, ◌∷◌, [], ◌<◌}
use Rattle.hy_finite.specs.Traces.{trace_words}
use Rattle.fin_monitor.specs.Machines.{states_of, state_after}
use Rattle.fin_monitor.specs.Seen.{machine_of}
use Rattle.dominance.proofs.compare.satisfies.Given as goal

abbrev pub invariant-loop-letter : goal.invariant-loop-letter
invariant-loop-letter g l = record {
  within : l.q < states_of (machine_of l.m);
  state : l.q ≡ state_after (machine_of l.m) (trace_words (l.t ∷ [])) l.letter-index;
}

use Rattle.std.proofs.Common.{◌≡◌, ℕ, ◌<◌, ◌≤◌, length, slice_index}
use Rattle.fin_monitor.specs.Machines.{states_of}
use Rattle.fin_monitor.specs.Seen.{machine_of}
use Rattle.dominance.specs.Runs.{state_on}
use Rattle.dominance.proofs.pairing.Pairing.alone.Given as goal

abbrev pub invariant-loop-i : goal.invariant-loop-i
invariant-loop-i g l = record {
  within : l.q < states_of (machine_of l.self.monitor.now);
  past : length l.column ≤ l.at → l.q ≡ l.fn.q;
  state : (code : ℕ → ℕ) → l.at ≤ length l.column
      → l.fn.q ≡ state_on (machine_of l.self.monitor.now) code l.at
      → ((i : ℕ) → l.at ≤ i → i < length l.column → code i ≡ slice_index l.column i)
      → l.q ≡ state_on (machine_of l.self.monitor.now) code l.i;
}

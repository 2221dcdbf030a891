use Rattle.std.proofs.Common.{ℕ, ◌<◌, ◌≤◌, length, get_or}
use Rattle.fair_search.proofs.pass.keep_upto.Given as goal

abbrev pub invariant-loop-len : goal.invariant-loop-len
invariant-loop-len l = (l.len ≤ length l.numbers) ×
    ((k : ℕ) → l.len ≤ k → k < length l.numbers → l.most < get_or l.numbers k 0)

abbrev pub decreases-loop-len : goal.decreases-loop-len
decreases-loop-len l = l.len

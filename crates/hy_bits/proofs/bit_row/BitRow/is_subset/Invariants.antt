use Rattle.std.proofs.Common.{◌≡◌, ◌<◌, ℕ, get_or, bit_and}
use Rattle.hy_bits.proofs.bit_row.BitRow.is_subset.Given as goal

abbrev pub invariant-loop-j : goal.invariant-loop-j
invariant-loop-j g l =
    (k : ℕ) → k < l.j → bit_and (get_or l.self-inside.words k 0) (get_or l.other-inside.words k 0) ≡
    get_or l.self-inside.words k 0

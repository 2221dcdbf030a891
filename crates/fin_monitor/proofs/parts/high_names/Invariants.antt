use Rattle.std.proofs.Common.{◌≡◌, ◌+◌, take}
use Rattle.hy_bits.specs.Letter.{Letter as NameSet}
use Rattle.fin_monitor.specs.Parts.{bits_of, bits_below}
use Rattle.fin_monitor.proofs.parts.high_names.Given as goal

abbrev pub invariant-loop-n : goal.invariant-loop-n
invariant-loop-n l =
    (letter : NameSet) → bits_below 8 (take l.n-index l.names) letter + bits_of l.high letter ≡ bits_of (take l.n-index l.names) letter

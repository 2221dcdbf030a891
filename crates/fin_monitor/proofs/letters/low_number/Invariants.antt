use Rattle.std.proofs.Common.{◌≡◌}
use Rattle.fin_monitor.specs.Parts.{low_number}
use Rattle.fin_monitor.proofs.letters.low_number.Given as goal

abbrev pub invariant-loop-k : goal.invariant-loop-k
invariant-loop-k l = l.number ≡ low_number l.k l.letter

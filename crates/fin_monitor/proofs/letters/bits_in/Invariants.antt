use Rattle.std.proofs.Common.{◌≡◌, take}
use Rattle.fin_monitor.specs.Parts.{bits_of}
use Rattle.fin_monitor.proofs.letters.bits_in.Given as goal

abbrev pub invariant-loop-n : goal.invariant-loop-n
invariant-loop-n l = l.bits ≡ bits_of (take l.n-index l.names) l.letter

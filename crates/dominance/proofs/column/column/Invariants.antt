use Rattle.std.proofs.Common.{◌≡◌, map, take}
use Rattle.fin_monitor.specs.Codes.{part_of}
use Rattle.fin_monitor.specs.Seen.{machine_of}
use Rattle.dominance.proofs.column.column.Given as goal

abbrev pub invariant-loop-letter : goal.invariant-loop-letter
invariant-loop-letter l =
    l.parts ≡ map (part_of (machine_of l.m).atoms l.place) (take l.letter-index l.t)

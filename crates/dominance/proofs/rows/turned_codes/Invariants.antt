use Rattle.std.proofs.Common.{◌≡◌, map, take}
use Rattle.fin_monitor.specs.Seen.{machine_of}
use Rattle.dominance.specs.Choices.{turned_code}
use Rattle.dominance.proofs.rows.turned_codes.Given as goal

abbrev pub invariant-loop-row : goal.invariant-loop-row
invariant-loop-row l = l.made ≡ map (turned_code (machine_of l.m)) (take l.row-index l.rows)

use Rattle.std.proofs.Common.{◌≡◌, ◌++◌, flat_map}
use Rattle.std.specs.List.{range_with_len}
use Rattle.aiger_print.specs.Printed.{deltas_of}
use Rattle.aiger_print.proofs.binary.push_deltas.Given as goal

abbrev pub invariant-loop-j : goal.invariant-loop-j
invariant-loop-j l = l.text ≡ l.fn.text ++ flat_map (deltas_of l.net) (range_with_len 0 l.j)

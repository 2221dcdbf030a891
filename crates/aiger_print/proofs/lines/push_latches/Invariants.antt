use Rattle.std.proofs.Common.{◌≡◌, ◌++◌}
use Rattle.aiger_print.specs.Printed.{lines_of, latch_row}
use Rattle.aiger_print.proofs.lines.push_latches.Given as goal

abbrev pub invariant-loop-j : goal.invariant-loop-j
invariant-loop-j l = l.text ≡ l.fn.text ++ lines_of (latch_row l.binary l.net) l.j

use Rattle.std.proofs.Common.{◌≡◌, ◌++◌}
use Rattle.aiger_print.specs.Printed.{lines_of, and_row}
use Rattle.aiger_print.proofs.lines.push_ands.Given as goal

abbrev pub invariant-loop-j : goal.invariant-loop-j
invariant-loop-j l = l.text ≡ l.fn.text ++ lines_of (and_row l.net) l.j

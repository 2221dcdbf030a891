use Rattle.std.proofs.Common.{◌≡◌, ◌++◌}
use Rattle.aiger_print.specs.Printed.{lines_of, input_row}
use Rattle.aiger_print.proofs.lines.push_inputs.Given as goal

abbrev pub invariant-loop-j : goal.invariant-loop-j
invariant-loop-j l = l.text ≡ l.fn.text ++ lines_of input_row l.j

use Rattle.std.proofs.Common.{◌≡◌, ◌*◌, ◌^◌, ◌≤◌, sum, take}
use Rattle.aiger_body.specs.Symbols.{symbol_counts}
use Rattle.aiger_read.proofs.symbol.start.Given as goal

abbrev pub invariant-loop-i : goal.invariant-loop-i
invariant-loop-i l = (l.before ≡ sum (take l.i (symbol_counts l.header))) × (l.before ≤ 10 ^ 10 * l.i)

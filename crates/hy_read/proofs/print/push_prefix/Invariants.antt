use Rattle.std.proofs.Common.{◌≡◌, ◌++◌, drop}
use Rattle.hy_read.specs.Printing.{printed_quantifiers}
use Rattle.hy_read.proofs.print.push_prefix.Given as goal

-- what is printed so far, and what is left
abbrev pub invariant-loop-i : goal.invariant-loop-i
invariant-loop-i l = l.out ++ printed_quantifiers l.i (drop l.i l.prefix) ≡ l.initial.out ++ printed_quantifiers 0 l.prefix

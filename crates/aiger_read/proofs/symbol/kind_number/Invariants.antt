use Rattle.std.proofs.Common.{◌≡◌, ◌+◌, drop, nat_eq, not}
use Rattle.std.specs.List.{prefix_len}
use Rattle.aiger_body.specs.Symbols.{letters, kind_number}
use Rattle.aiger_read.proofs.symbol.kind_number.Given as goal

-- what has passed, and what is left before the letter
abbrev pub invariant-loop-i : goal.invariant-loop-i
invariant-loop-i l = l.i + prefix_len (λ b. not (nat_eq l.letter b)) (drop l.i letters) ≡ kind_number l.letter

use Rattle.std.proofs.Common.{◌≡◌, ◌++◌, take}
use Rattle.chain_check.proofs.clauses.push_numbers.Given as goal

abbrev pub invariant-loop-number : goal.invariant-loop-number
invariant-loop-number l = l.literals.items ≡ l.fn.literals.items ++ take l.number-index l.numbers

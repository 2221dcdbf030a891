use Rattle.std.proofs.Common.{take}
use Rattle.chain_check.specs.Clauses.{AreLiterals}
use Rattle.chain_check.proofs.clauses.Cnf.takes.Given as goal

abbrev pub invariant-loop-number : goal.invariant-loop-number
invariant-loop-number l = AreLiterals l.self.variables (take l.number-index l.clause)

use Rattle.std.proofs.Common.{take}
use Rattle.chain_check.specs.Clauses.{AreLiterals}
use Rattle.invar_find.proofs.asking.are_literals.Given as goal

abbrev pub invariant-loop-literal : goal.invariant-loop-literal
invariant-loop-literal l = AreLiterals l.variables (take l.literal-index l.literals)

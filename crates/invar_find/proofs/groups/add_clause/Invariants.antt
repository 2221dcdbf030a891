use Rattle.std.proofs.Common.{◌≡◌, take}
use Rattle.invar_find.proofs.groups.add_clause.Given as goal

abbrev pub invariant-loop-literal : goal.invariant-loop-literal
invariant-loop-literal l = l.numbers.items ≡ take l.literal-index l.clause

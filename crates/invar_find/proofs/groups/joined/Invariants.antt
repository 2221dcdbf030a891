use Rattle.std.proofs.Common.{◌≡◌, ◌++◌, take}
use Rattle.invar_find.proofs.groups.joined.Given as goal

abbrev pub invariant-loop-i : goal.invariant-loop-i
invariant-loop-i l = l.clauses ≡ l.first.clauses ++ take l.i l.then.clauses

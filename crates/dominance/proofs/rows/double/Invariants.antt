use Rattle.std.proofs.Common.{◌≡◌, ◌++◌, map, take}
use Rattle.dominance.specs.Choices.{with_name}
use Rattle.dominance.proofs.rows.double.Given as goal

abbrev pub invariant-loop-k : goal.invariant-loop-k
invariant-loop-k l = l.rows ≡ l.fn.rows ++ map (with_name l.a.name l.a.var) (take l.k l.fn.rows)

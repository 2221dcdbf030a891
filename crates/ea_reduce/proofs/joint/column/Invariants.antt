use Rattle.std.proofs.Common.{◌≡◌, take}
use Rattle.ea_reduce.specs.Joints.{column}
use Rattle.ea_reduce.proofs.joint.column.Given as goal

abbrev pub invariant-loop-row : goal.invariant-loop-row
invariant-loop-row l = l.letters ≡ column l.v (take l.row-index l.rows)

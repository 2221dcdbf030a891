use Rattle.ea_reduce.specs.Joints.{lassos_from, AreShortened}
use Rattle.ea_reduce.proofs.joint.back.Given as goal

abbrev pub invariant-loop-v : goal.invariant-loop-v
invariant-loop-v l = AreShortened (lassos_from l.joint 0 l.v) l.list

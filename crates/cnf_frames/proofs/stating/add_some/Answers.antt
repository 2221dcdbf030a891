use Rattle.std.proofs.Common.{arith}
use Rattle.cnf_frames.proofs.Ranges.{some-literals}
use Rattle.cnf_frames.proofs.stating.add_some.Goals as goal

pub add-requires : goal.add-requires
add-requires c = some-literals c.args.cnf.now.variables c.args.d c.args.n c.loop-i.i _ _
    c.as_slice.ensures c.loop-i.invariant (omega arith) c.requires

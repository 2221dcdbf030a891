use Rattle.cnf_frames.proofs.Ranges.{any-literals}
use Rattle.cnf_frames.proofs.stating.add_any.Goals as goal

pub add-requires : goal.add-requires
add-requires c = any-literals c.args.cnf.now.variables c.args.net.now c.args.frame
    c.args.literals.now c.loop-l.l-index _ _ c.variables.ensures.net c.as_slice.ensures
    c.loop-l.invariant c.requires.room c.requires.inside

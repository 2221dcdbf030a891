use Rattle.std.proofs.Common.{◌+◌, false}
use Rattle.std.specs.Prelude.{slice_index_or}
use Rattle.cnf_frames.proofs.Rows.{row_more}
use Rattle.cnf_frames.proofs.reading.row_of.Goals as goal

pub loop-v-preserved : goal.loop-v-preserved
loop-v-preserved c = row_more (λ v. slice_index_or c.args.values.now (c.args.start + v) false)
    c.loop-v.v _ _ c.value_at.result c.loop-v.invariant c.value_at.ensures
    c.in_ok-push.ensures.added

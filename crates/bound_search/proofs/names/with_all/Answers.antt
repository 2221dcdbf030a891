use Rattle.std.proofs.Common.{refl}
use Rattle.bound_search.proofs.MadeSheets.{with-more}
use Rattle.bound_search.proofs.names.with_all.Goals as goal

pub loop-v-preserved : goal.loop-v-preserved
loop-v-preserved c =
    with-more _ _ _ _ c.loop-v.v-index _ _ c.loop-v-test.true refl c.loop-v.invariant
    c.in_ok-add_name.ensures.names

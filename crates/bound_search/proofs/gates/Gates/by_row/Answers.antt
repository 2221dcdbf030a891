use Rattle.std.proofs.Common.{◌∙◌, [], get_or}
use Rattle.bound_search.specs.Rows.{row_by_one}
use Rattle.bound_search.proofs.Listing.{listing-drawn}
use Rattle.bound_search.proofs.MadeSheets.{long-more, many-more, row-long, row-drawn}
use Rattle.bound_search.proofs.gates.Gates.by_row.Goals as goal

pub loop-row-preserved : goal.loop-row-preserved
loop-row-preserved c = record {
  many = many-more _ _ _ _ c.loop-row.invariant.many c.in_ok-push.ensures.added;
  long = long-more _ _ _ _ c.loop-row.invariant.long
      (c.in_ok-row_by_one.ensures.long
      ∙ row-long _ _ _ c.loop-row.row-index _ _ c.as_slice-row-items.ensures
      c.requires.right.long c.loop-row-test.true c.row-item.is) c.in_ok-push.ensures.added;
  drawn = listing-drawn (λ place. row_by_one c.args.op c.args.frame.stem
      (get_or c.as_slice-row-items.result.now place [])) c.loop-row.row-index _ _ _ _ _ _ c.loop-row.invariant.drawn
      (row-drawn (row_by_one c.args.op c.args.frame.stem)
      c.as_slice-row-items.result.now c.loop-row.row-index _ _ _ _ _ c.loop-row-test.true c.row-item.is
      c.in_ok-row_by_one.ensures.drawn) c.in_ok-push.ensures.added;
}

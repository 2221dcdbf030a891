use Rattle.bound_search.proofs.MadeSheets.{long-more, firsts-more}
use Rattle.bound_search.proofs.sheets.Sheet.first_places.Goals as goal

pub loop-row-preserved : goal.loop-row-preserved
loop-row-preserved c = record {
  rows = firsts-more _ _ _ c.loop-row.row-index _ _ _ c.loop-row-test.true c.row-item.is
      c.loop-row.invariant.rows c.in_ok-first_place.ensures.values c.in_ok-push.ensures.added;
  long = long-more _ _ _ _ c.loop-row.invariant.long c.in_ok-first_place.ensures.long
      c.in_ok-push.ensures.added;
}

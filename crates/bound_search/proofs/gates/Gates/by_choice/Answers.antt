use Rattle.std.proofs.Common.{◌∙◌}
use Rattle.bound_search.specs.Rows.{row_by_two}
use Rattle.bound_search.specs.Sheets.{row_of, tuple_at}
use Rattle.bound_search.proofs.Listing.{listing-drawn}
use Rattle.bound_search.proofs.MadeSheets.{long-more, many-more, choice-drawn}
use Rattle.bound_search.proofs.gates.Gates.by_choice.Goals as goal

pub loop-place-preserved : goal.loop-place-preserved
loop-place-preserved c = record {
  many = many-more _ _ _ _ c.loop-place.invariant.many c.in_ok-push.ensures.added;
  long = long-more _ _ _ _ c.loop-place.invariant.long
      (c.in_ok-row_by_two.ensures.long ∙ c.row-l.ensures.long) c.in_ok-push.ensures.added;
  drawn = listing-drawn (λ place. row_by_two c.args.op c.args.frame.stem
      (row_of c.args.frame c.args.left.now (tuple_at c.args.frame c.in_ok-variables.variables place))
      (row_of c.args.frame c.args.right.now (tuple_at c.args.frame c.in_ok-variables.variables place)))
      c.loop-place.place _ _ _ _ _ _ c.loop-place.invariant.drawn
      (choice-drawn c.args.frame (row_by_two c.args.op c.args.frame.stem) c.args.left.now
      c.args.right.now c.in_ok-variables.variables c.loop-place.place c.in_ok-tuple.tuple
      _ _ _ _ _ c.in_ok-tuple.ensures.tuple c.row-l.ensures.row c.row-r.ensures.row
      c.in_ok-row_by_two.ensures.drawn) c.in_ok-push.ensures.added;
}

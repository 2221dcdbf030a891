use Rattle.std.proofs.Common.{◌≡◌, ◌^◌, ◌∙◌, length, ap, arith}
use Rattle.hy_base.proofs.Listed.{length-listed, listed_next}
use Rattle.bound_search.proofs.MadeSheets.{long-more}
use Rattle.bound_search.proofs.Picking.{pow-one}
use Rattle.bound_search.proofs.asked.Asked.atom.Goals as goal

pub loop-t-preserved : goal.loop-t-preserved
loop-t-preserved c = record {
  rows = listed_next _ c.loop-t.t _ _ _ c.loop-t.invariant.rows c.in_ok-push.ensures.added
      c.in_ok-letters_row.ensures.values;
  long = long-more _ _ _ _ c.loop-t.invariant.long c.in_ok-letters_row.ensures.long
      c.in_ok-push.ensures.added;
}

pub returns-clause-right : goal.returns-clause-right
returns-clause-right c =
    let many = ap length c.loop-t.invariant.rows ∙ length-listed 0 c.loop-t.t _ in
    let one : length c.in_ok-filled.field-0 ≡ 1 = ap length c.in_ok-filled.ensures in
    let all = ap (λ k. c.args.self.now.bound.traces ^ k) one
    ∙ pow-one c.args.self.now.bound.traces in
    record {
      many = omega (arith, many, all);
      few = omega (arith, many, c.requires.bound.few_traces);
      long = c.loop-t.invariant.long;
    }

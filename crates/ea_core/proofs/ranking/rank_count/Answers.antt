use Rattle.std.proofs.Common.{◌≤◌, ◌<◌, arith}
use Rattle.std.proofs.lemmas.Grind.{common_steps}
use Rattle.ea_core.proofs.Entering.{ranks-more, ranks-all, rank-below}
use Rattle.ea_core.proofs.ranking.rank_count.Goals as goal

pub loop-entry-preserved : goal.loop-entry-preserved
loop-entry-preserved c =
    let more : c.loop-entry.count ≤ c.max-count.result = grind (arith, common_steps) in
    let here : c.entry-item.result.rank < c.max-count.result = grind (arith, common_steps) in
    record {
      below =
          ranks-more c.args.entries.now c.loop-entry.entry-index c.loop-entry.count c.max-count.result c.entry-item.result c.loop-entry-test.true c.entry-item.is
          c.loop-entry.invariant.below more here;
      least = λ n all.
          let before : c.loop-entry.count ≤ n = c.loop-entry.invariant.least n all in
          let now = rank-below c.args.entries.now c.loop-entry.entry-index n c.entry-item.result c.loop-entry-test.true c.entry-item.is all in
          grind (arith, common_steps);
      few = grind (arith, common_steps);
    }

pub returns-clause-below : goal.returns-clause-below
returns-clause-below c = ranks-all c.args.entries.now c.loop-entry.entry-index c.loop-entry.count c.loop-entry-test.false c.loop-entry.invariant.below

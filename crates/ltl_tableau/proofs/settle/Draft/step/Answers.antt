use Rattle.std.proofs.Common.{arith}
use Rattle.ltl_tableau.proofs.WaysLemmas.{within-itself}
use Rattle.ltl_tableau.proofs.Skipping.{skipped-plain}
use Rattle.ltl_tableau.proofs.settle.Draft.step.Goals as goal

pub returns-then-below-self : goal.returns-then-below-self
returns-then-below-self g c =
    record {
      below = omega arith;
      same = skipped-plain c.args.c.now.nodes c.args.skips.now.held c.below-below.result c.args.self.now.work.below c.below-below.ensures
          c.args.self.now.work.held c.args.self.now.work.next c.requires.base;
      dead = c.requires.dead;
      more = within-itself c.args.self.now.work.held;
    }

use Rattle.std.proofs.Common.{◌≡◌, ◌≤◌}
use Rattle.ltl_tableau.specs.Ways.{AreDead, Within}
use Rattle.ltl_tableau.specs.Drafts.{ways_of}
use Rattle.ltl_tableau.proofs.settle.Draft.run.Given as goal

-- the same branches come from the draft as before
abbrev pub invariant-loop-self : goal.invariant-loop-self
invariant-loop-self g l =
    record {
      below : l.self.work.below ≤ l.initial.self.work.below;
      dead : AreDead l.c.nodes l.self.work.held l.self.dead;
      same : ways_of l.c.nodes l.initial.self.work ≡ ways_of l.c.nodes l.self.work;
      base : Within l.skips.held l.self.work.held;
      more : Within l.initial.self.work.held l.self.work.held;
    }

abbrev pub decreases-loop-self : goal.decreases-loop-self
decreases-loop-self g l = l.self.work.below

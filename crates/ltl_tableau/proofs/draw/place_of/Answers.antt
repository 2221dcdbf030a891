use Rattle.std.proofs.Common.{ap, ◌∙◌}
use Rattle.ltl_tableau.specs.Branches.{Branch}
use Rattle.ltl_tableau.proofs.Drawing.{set-at_place}
use Rattle.ltl_tableau.proofs.draw.place_of.Goals as goal

pub returns-in-Some-clause-at : goal.returns-in-Some-clause-at
returns-in-Some-clause-at g c =
    set-at_place c.args.sets.now.keys c.branch.inside.next c.in-Some.place c.in-Some.ensures.index c.in-Some.ensures.within
    ∙ ap (λ (b : Branch). b.later) c.branch.view_is

use Rattle.std.proofs.Common.{sym, subst, List}
use Rattle.ltl_tableau.specs.Branches.{Branch}
use Rattle.ltl_tableau.specs.Collected.{Collects}
use Rattle.ltl_tableau.specs.Drafts.{some_ways}
use Rattle.ltl_tableau.proofs.Collecting.{collects-as}
use Rattle.ltl_tableau.proofs.collect.collect.Goals as goal

pub returns : goal.returns
returns g c =
    let P : List Branch → Type 0 =
    λ old. Collects c.args.most old (some_ways c.args.c.now.nodes c.in_ok-start.start) c.expand.new.found.branches.keys in
    collects-as c.args.most _ _ _ c.expand.new.found.branches.keys (sym c.in_ok-start.ensures.same)
    (subst P c.new.ensures.empty c.in_ok-expand.ensures.collects)

use Rattle.std.proofs.Common.{[], ap, subst, arith}
use Rattle.ltl_tableau.specs.Branches.{Members, Branch}
use Rattle.ltl_tableau.specs.Reached.{PutsSet}
use Rattle.ltl_tableau.proofs.Exploring.{more-than, explores-on}
use Rattle.ltl_tableau.proofs.explored.Explored.add.Goals as goal

pub returns-then-len-states-clause-states : goal.returns-then-len-states-clause-states
returns-then-len-states-clause-states g c is nodes explores reach =
    more-than nodes c.args.self.now.sets.keys [] _ _ c.args.branch c.in_ok-number.number c.in_ok-number.ensures explores reach c.args.states (omega (arith, c.len.ensures.len, c.if-len-states.true))

pub returns-clause-explores : goal.returns-clause-explores
returns-clause-explores g c nodes explores reach =
    let P : Members → Type 0 = λ s. PutsSet c.args.self.now.sets.keys s c.insert_set.new.sets.keys in
    explores-on nodes c.args.self.now.sets.keys c.insert_set.new.sets.keys c.args.self.now.branches.keys c.insert_branch.new.branches.keys c.args.branch c.in_ok-number.number c.in_ok-number.ensures explores reach
    (subst P (ap (λ (b : Branch). b.later) c.branch.view_is) c.in_ok-insert_set.ensures)

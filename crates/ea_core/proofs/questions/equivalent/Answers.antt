use Rattle.std.proofs.Common.{rules}
use Rattle.hy_formula.specs.Trees.{tree_of}
use Rattle.ea_core.proofs.Solving.{plain-below}
use Rattle.ea_core.proofs.Searching.{both-decided, both-within, both-refused}
use Rattle.ea_core.proofs.questions.equivalent.Goals as goal

pub solve_both-requires-clause-below : goal.solve_both-requires-clause-below
solve_both-requires-clause-below c =
    plain-below c.in_ok-plan.plan c.in_ok-plan.ensures.below

pub solve_both-requires-clause-also_below : goal.solve_both-requires-clause-also_below
solve_both-requires-clause-also_below c =
    plain-below c.in_ok-converse.converse c.in_ok-converse.ensures.below

pub returns-clause-decision : goal.returns-clause-decision
returns-clause-decision c =
    both-decided c.args.a.now.prefix (tree_of c.args.a.now.body) c.args.b.now.prefix (tree_of c.args.b.now.body) (search rules) (search rules)
    c.in_ok-plan.ensures.first c.in_ok-plan.ensures.second _ _ c.in_ok-plan.ensures.plan c.in_ok-converse.ensures.plan c.solve_both.result c.solve_both.ensures.solves

pub returns-clause-within : goal.returns-clause-within
returns-clause-within c =
    both-within c.args.a.now.prefix (tree_of c.args.a.now.body) c.args.b.now.prefix (tree_of c.args.b.now.body) (search rules) (search rules)
    c.in_ok-plan.ensures.first c.in_ok-plan.ensures.second _ _ c.in_ok-plan.ensures.plan c.in_ok-converse.ensures.plan c.args.states
    c.in_ok-plan.ensures.few c.in_ok-converse.ensures.few c.in_ok-closures.ensures.few c.in_ok-closures.ensures.also_few c.solve_both.result c.solve_both.ensures.searched

pub returns-clause-refused : goal.returns-clause-refused
returns-clause-refused c =
    both-refused c.args.a.now.prefix (tree_of c.args.a.now.body) c.args.b.now.prefix (tree_of c.args.b.now.body) (search rules) (search rules)
    c.in_ok-plan.ensures.first c.in_ok-plan.ensures.second _ _ c.in_ok-plan.ensures.plan c.in_ok-converse.ensures.plan c.args.states
    c.in_ok-plan.ensures.few c.in_ok-converse.ensures.few c.in_ok-closures.ensures.few c.in_ok-closures.ensures.also_few c.solve_both.result c.solve_both.ensures.refused

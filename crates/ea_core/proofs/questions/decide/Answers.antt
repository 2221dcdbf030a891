use Rattle.std.proofs.Common.{rules}
use Rattle.hy_formula.specs.Trees.{tree_of}
use Rattle.ea_core.proofs.Solving.{plain-below}
use Rattle.ea_core.proofs.Refusing.{within-formula, refused-formula}
use Rattle.ea_core.proofs.Searching.{formula-result}
use Rattle.ea_core.proofs.questions.decide.Goals as goal

pub solve-requires-clause-below : goal.solve-requires-clause-below
solve-requires-clause-below c =
    plain-below c.in_ok-plan.plan c.in_ok-plan.ensures.below

pub returns-clause-decision : goal.returns-clause-decision
returns-clause-decision c =
    formula-result c.args.f.now.prefix (tree_of c.args.f.now.body) (search rules) c.in_ok-plan.ensures.taken _ c.in_ok-plan.ensures.plan c.solve.result c.solve.ensures.solves

pub returns-clause-within : goal.returns-clause-within
returns-clause-within c =
    within-formula c.args.f.now.prefix (tree_of c.args.f.now.body) c.args.states _ c.in_ok-plan.ensures.plan c.in_ok-plan.ensures.taken c.in_ok-plan.ensures.few
    c.in_ok-closure.ensures.few c.solve.result c.solve.ensures.few

pub returns-clause-refused : goal.returns-clause-refused
returns-clause-refused c =
    refused-formula c.args.f.now.prefix (tree_of c.args.f.now.body) c.args.states _ c.in_ok-plan.ensures.plan c.in_ok-plan.ensures.taken c.in_ok-plan.ensures.few
    c.in_ok-closure.ensures.few c.solve.result c.solve.ensures.refused

use Rattle.std.proofs.Common.{inr, rules}
use Rattle.hy_formula.specs.Trees.{tree_of}
use Rattle.ea_circuit.proofs.Answering.{implication-answer}
use Rattle.ea_circuit.proofs.Refusing.{counted, implication-refused}
use Rattle.ea_circuit.proofs.questions.implies.Goals as goal

pub decide_plan-requires-clause-formulas : goal.decide_plan-requires-clause-formulas
decide_plan-requires-clause-formulas c = inr (
  c.args.a.now.prefix,
  tree_of c.args.a.now.body,
  c.args.b.now.prefix,
  tree_of c.args.b.now.body,
  c.in_ok-plan.ensures.plan,
)

pub returns-clause-decision : goal.returns-clause-decision
returns-clause-decision c =
    implication-answer c.args.a.now.prefix (tree_of c.args.a.now.body) c.args.b.now.prefix
    (tree_of c.args.b.now.body) (search rules) (search rules) c.in_ok-plan.ensures.first c.in_ok-plan.ensures.second
    c.args.ask.now _ c.in_ok-plan.ensures.plan c.decide_plan.result c.decide_plan.ensures.found

pub returns-clause-refused : goal.returns-clause-refused
returns-clause-refused c =
    implication-refused c.args.a.now.prefix (tree_of c.args.a.now.body) c.args.b.now.prefix
    (tree_of c.args.b.now.body) c.args.ask.now c.in_ok-plan.ensures.first
    c.in_ok-plan.ensures.second _ c.in_ok-plan.ensures.plan
    (counted _ _ c.in_ok-plan.ensures.plan c.in_ok-plan.ensures.few c.in_ok-closure.ensures.few)
    c.decide_plan.result c.decide_plan.ensures.refused

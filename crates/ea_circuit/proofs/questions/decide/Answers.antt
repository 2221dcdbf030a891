use Rattle.std.proofs.Common.{inl, rules}
use Rattle.hy_formula.specs.Trees.{tree_of}
use Rattle.ea_circuit.proofs.Answering.{formula-answer}
use Rattle.ea_circuit.proofs.Refusing.{counted, formula-refused}
use Rattle.ea_circuit.proofs.questions.decide.Goals as goal

pub decide_plan-requires-clause-formulas : goal.decide_plan-requires-clause-formulas
decide_plan-requires-clause-formulas c =
    inl (c.args.f.now.prefix, tree_of c.args.f.now.body, c.in_ok-plan.ensures.plan)

pub returns-clause-decision : goal.returns-clause-decision
returns-clause-decision c =
    formula-answer c.args.f.now.prefix (tree_of c.args.f.now.body) (search rules) c.in_ok-plan.ensures.taken
    c.args.ask.now _ c.in_ok-plan.ensures.plan c.decide_plan.result c.decide_plan.ensures.found

pub returns-clause-refused : goal.returns-clause-refused
returns-clause-refused c =
    formula-refused c.args.f.now.prefix (tree_of c.args.f.now.body) c.args.ask.now _
    c.in_ok-plan.ensures.plan c.in_ok-plan.ensures.taken
    (counted _ _ c.in_ok-plan.ensures.plan c.in_ok-plan.ensures.few c.in_ok-closure.ensures.few)
    c.decide_plan.result c.decide_plan.ensures.refused

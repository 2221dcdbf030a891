use Rattle.std.proofs.Common.{inr, rules}
use Rattle.hy_formula.specs.Trees.{tree_of}
use Rattle.ea_circuit.specs.Refused.{of_closure}
use Rattle.ea_core.proofs.Searching.{nothing-implied}
use Rattle.ea_circuit.proofs.Answering.{equivalence-answer}
use Rattle.ea_circuit.proofs.Refusing.{back-closure-refused, closure-refused, counted, each-ok, equivalence-refused, err-refused}
use Rattle.ea_circuit.proofs.questions.equivalent.Goals as goal

pub decide_both-requires-clause-formulas : goal.decide_both-requires-clause-formulas
decide_both-requires-clause-formulas c = (
  inr (
    c.args.a.now.prefix,
    tree_of c.args.a.now.body,
    c.args.b.now.prefix,
    tree_of c.args.b.now.body,
    c.in_ok-plan.ensures.plan,
  ),
  inr (
    c.args.b.now.prefix,
    tree_of c.args.b.now.body,
    c.args.a.now.prefix,
    tree_of c.args.a.now.body,
    c.in_ok-converse.ensures.plan,
  ),
)

pub returns-clause-decision : goal.returns-clause-decision
returns-clause-decision c =
    equivalence-answer c.args.a.now.prefix (tree_of c.args.a.now.body) c.args.b.now.prefix
    (tree_of c.args.b.now.body) (search rules) (search rules) c.in_ok-plan.ensures.first c.in_ok-plan.ensures.second
    c.args.ask.now _ _ c.in_ok-plan.ensures.plan c.in_ok-converse.ensures.plan c.decide_both.result
    c.decide_both.ensures.found

pub returns-clause-counted : goal.returns-clause-counted
returns-clause-counted c =
    each-ok c.decide_both.result
    (counted _ _ c.in_ok-plan.ensures.plan c.in_ok-plan.ensures.few c.in_ok-closure.ensures.few)

pub returns-clause-refused : goal.returns-clause-refused
returns-clause-refused c =
    equivalence-refused c.args.a.now.prefix (tree_of c.args.a.now.body) c.args.b.now.prefix
    (tree_of c.args.b.now.body) c.args.ask.now c.in_ok-plan.ensures.first
    c.in_ok-plan.ensures.second _ _ c.in_ok-plan.ensures.plan c.in_ok-converse.ensures.plan
    (counted _ _ c.in_ok-plan.ensures.plan c.in_ok-plan.ensures.few c.in_ok-closure.ensures.few)
    (counted _ _ c.in_ok-converse.ensures.plan c.in_ok-converse.ensures.few c.in_ok-back.ensures.few)
    (nothing-implied c.args.a.now.prefix (tree_of c.args.a.now.body) c.args.b.now.prefix
    (tree_of c.args.b.now.body) (search rules) (search rules) c.in_ok-plan.ensures.first c.in_ok-plan.ensures.second)
    c.decide_both.result c.decide_both.ensures.refused

pub returns-in_err-closure-clause-refused : goal.returns-in_err-closure-clause-refused
returns-in_err-closure-clause-refused c =
    err-refused c.from_residual-in_err-closure.result (of_closure c.in_err-closure.field-0.0) _
    c.from_residual-in_err-closure.ensures.1
    (closure-refused c.args.a.now.prefix (tree_of c.args.a.now.body) c.args.b.now.prefix
    (tree_of c.args.b.now.body) c.args.ask.now c.in_ok-plan.ensures.first
    c.in_ok-plan.ensures.second _ c.in_ok-plan.ensures.few c.in_ok-converse.ensures.few
    c.in_ok-plan.ensures.plan c.in_err-closure.field-0.0 c.in_err-closure.ensures.refused)

pub returns-in_err-back-clause-refused : goal.returns-in_err-back-clause-refused
returns-in_err-back-clause-refused c =
    err-refused c.from_residual-in_err-back.result (of_closure c.in_err-back.field-0.0) _
    c.from_residual-in_err-back.ensures.1
    (back-closure-refused c.args.a.now.prefix (tree_of c.args.a.now.body) c.args.b.now.prefix
    (tree_of c.args.b.now.body) c.args.ask.now c.in_ok-plan.ensures.first
    c.in_ok-plan.ensures.second _ c.in_ok-plan.ensures.few c.in_ok-converse.ensures.few
    c.in_ok-converse.ensures.plan c.in_err-back.field-0.0 c.in_err-back.ensures.refused)

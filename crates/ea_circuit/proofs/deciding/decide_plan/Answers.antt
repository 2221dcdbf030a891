use Rattle.ea_reduce.specs.Plans.{plain_plan}
use Rattle.ea_circuit.proofs.deciding.decide_plan.Goals as goal

pub plan_nets-requires-clause-reduced : goal.plan_nets-requires-clause-reduced
plan_nets-requires-clause-reduced c =
    c.formulas_are_reduced.ensures (plain_plan c.args.plan.now) c.requires.formulas

pub decide_nets-requires-clause-reduced : goal.decide_nets-requires-clause-reduced
decide_nets-requires-clause-reduced c =
    c.formulas_are_reduced.ensures (plain_plan c.args.plan.now) c.requires.formulas

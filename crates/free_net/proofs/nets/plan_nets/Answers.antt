use Rattle.std.proofs.Common.{◌≤◌, length, subst, ◌∙◌, arith}
use Rattle.ltl_closure.specs.Jobs.{Rooted}
use Rattle.ea_reduce.specs.Plans.{plain_plan}
use Rattle.free_net.proofs.Posing.{has-room, inputs-are, inputs-few, own-are, safe-same, signals-are}
use Rattle.free_net.proofs.nets.plan_nets.Goals as goal

pub safe_over-requires-clause-some : goal.safe_over-requires-clause-some
safe_over-requires-clause-some c = c.requires.reduced.some

pub safe_over-requires-clause-own : goal.safe_over-requires-clause-own
safe_over-requires-clause-own c =
    own-are (plain_plan c.args.plan.now) c.args.closure.now c.requires.closure c.in_ok-signals.signals
    c.in_ok-signals.ensures c.in_ok-inputs.inputs c.len-names-2.result c.in_ok-inputs.ensures
    c.len-names-2.ensures.len

pub safe_over-requires-clause-room : goal.safe_over-requires-clause-room
safe_over-requires-clause-room c =
    let M : Rooted → Type 0 = λ r. length r.nodes ≤ 1024 in
    has-room (plain_plan c.args.plan.now) c.args.closure.now c.requires.closure
    c.in_ok-signals.signals c.in_ok-signals.ensures c.in_ok-inputs.inputs c.len-names-2.result
    c.in_ok-inputs.ensures c.len-names-2.ensures.len
    (c.plans_have_room.ensures (plain_plan c.args.plan.now) c.requires.reduced (omega arith)
    c.requires.few (subst M c.requires.closure (let a = c.len-names.ensures.few in omega (arith, a))))

pub overflow_cast-names : goal.overflow_cast-names
overflow_cast-names c =
    let f = inputs-few (plain_plan c.args.plan.now) c.args.closure.now c.requires.closure
    c.in_ok-signals.signals c.in_ok-signals.ensures
    (let a = c.len-names.ensures.few in omega (arith, a)) in
    let l = c.len-names-2.ensures.len in
    omega (arith, f, l)

pub free_net-requires : goal.free_net-requires
free_net-requires c =
    let f = inputs-few (plain_plan c.args.plan.now) c.args.closure.now c.requires.closure
    c.in_ok-signals.signals c.in_ok-signals.ensures
    (let a = c.len-names.ensures.few in omega (arith, a)) in
    let l = c.len-names-2.ensures.len in
    omega (arith, f, l)

pub returns : goal.returns
returns c = record {
  inputs = inputs-are (plain_plan c.args.plan.now) c.args.closure.now c.requires.closure
      c.in_ok-signals.signals c.in_ok-signals.ensures c.in_ok-inputs.inputs c.len-names-2.result
      c.in_ok-inputs.ensures c.len-names-2.ensures.len;
  signals = signals-are (plain_plan c.args.plan.now) c.args.closure.now c.requires.closure
      c.in_ok-signals.signals c.in_ok-signals.ensures;
  safe = c.in_ok-safe.ensures.made
      ∙ safe-same (plain_plan c.args.plan.now) c.args.closure.now c.requires.closure
      c.in_ok-signals.signals c.in_ok-signals.ensures c.in_ok-inputs.inputs c.len-names-2.result
      c.in_ok-inputs.ensures c.len-names-2.ensures.len;
  good = c.in_ok-safe.ensures.safe;
}

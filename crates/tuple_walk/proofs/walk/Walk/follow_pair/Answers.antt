use Rattle.std.proofs.Common.{◌-◌, ap, subst, arith}
use Rattle.std.proofs.lemmas.Bool.{OnTrue_at, OnFalse_at}
use Rattle.hy_finite.specs.Traces.{judged}
use Rattle.tuple_walk.specs.Searches.{IsAccepted, IsRejected}
use Rattle.tuple_walk.specs.Walks.{machine_in}
use Rattle.tuple_walk.proofs.Pairs.{pair-rejected, pair-accepted, pair-steps}
use Rattle.tuple_walk.proofs.walk.Walk.follow_pair.Goals as goal

pub returns-then-rejects_rests-clause-searched : goal.returns-then-rejects_rests-clause-searched
returns-then-rejects_rests-clause-searched g c = λ number.
    let w = c.args.self.now in
    pair-rejected (machine_in w) w.lengths c.args.q number c.args.given.now c.args.only.0
    c.args.only.1.now c.args.first
    (subst (IsRejected (machine_in w) w.lengths c.args.q) c.in_order-rests.ensures.pair
    (OnTrue_at c.if-rejects_rests.true c.rejects_rests.ensures.rejected))

pub returns-then-rejects_rests-clause-counted : goal.returns-then-rejects_rests-clause-counted
returns-then-rejects_rests-clause-counted g c = λ number.
    let w = c.args.self.now in
    pair-steps (machine_in w) w.lengths c.args.q number c.args.given.now c.args.only.0
    c.args.only.1.now c.args.first (c.rejects_rests.new.steps - c.args.steps.now)
    (omega (
      arith,
      c.rejects_rests.ensures.counted,
      ap (judged w.lengths) c.in_order-rests.ensures.pair,
    ))

pub returns-else-rejects_rests-clause-searched : goal.returns-else-rejects_rests-clause-searched
returns-else-rejects_rests-clause-searched g c = λ number.
    let w = c.args.self.now in
    pair-accepted (machine_in w) w.lengths c.args.q number c.args.given.now c.args.only.0
    c.args.only.1.now c.args.first
    (subst (IsAccepted (machine_in w) w.lengths c.args.q) c.in_order-rests.ensures.pair
    (OnFalse_at c.if-rejects_rests.false c.rejects_rests.ensures.accepted))

pub returns-else-rejects_rests-clause-counted : goal.returns-else-rejects_rests-clause-counted
returns-else-rejects_rests-clause-counted g c = λ number.
    let w = c.args.self.now in
    pair-steps (machine_in w) w.lengths c.args.q number c.args.given.now c.args.only.0
    c.args.only.1.now c.args.first (c.rejects_rests.new.steps - c.args.steps.now)
    (omega (
      arith,
      c.rejects_rests.ensures.counted,
      ap (judged w.lengths) c.in_order-rests.ensures.pair,
    ))

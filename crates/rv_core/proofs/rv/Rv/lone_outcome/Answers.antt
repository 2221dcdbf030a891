use Rattle.std.proofs.Common.{[], ◌∷◌, subst}
use Rattle.hy_finite.specs.Traces.{Trace}
use Rattle.tuple_walk.specs.Finds.{AreViolating, AllMeet}
use Rattle.rv_core.specs.declared.arrival.Outcome.TheVariants.{Stays, Passes, Violates}
use Rattle.rv_core.specs.Seen.{watched}
use Rattle.rv_core.proofs.Lone.{one-at, lone-at, lone-violates, lone-stays, lone-first}
use Rattle.rv_core.proofs.Outcomes.{numbers-below, outcome-at}
use Rattle.rv_core.proofs.rv.Rv.lone_outcome.Goals as goal

pub find_alone-requires-clause-one : goal.find_alone-requires-clause-one
find_alone-requires-clause-one g c =
    one-at c.args.self.now c.args.trace.now c.args.spec _ _ c.at-watch.ensures c.at-kept.ensures c.requires.one

pub insert-requires : goal.insert-requires
insert-requires g c = numbers-below c.args.self.now c.args.spec _ c.at-kept.ensures

pub returns-in-Some-clause-outcome : goal.returns-in-Some-clause-outcome
returns-in-Some-clause-outcome g c m there =
    let rv = c.args.self.now in
    let w = c.at-watch.result.now in
    let P : Trace → Type 0 =
    λ u. AreViolating (watched w) rv.rule ((rv.traces, u) ∷ []) c.in-Some.tuple in
    outcome-at c.args.self.now c.args.trace.now c.args.spec _ _ c.at-watch.ensures c.at-kept.ensures
    m there (Violates c.in-Some.tuple)
    (lone-violates rv.rule (watched w) c.args.trace.now
    (one-at c.args.self.now c.args.trace.now c.args.spec _ _ c.at-watch.ensures c.at-kept.ensures c.requires.one)
    rv.drop_dominated rv.traces c.at-kept.result.now c.in-Some.tuple
    (subst P c.as_slice.ensures c.in-Some.ensures.found))

pub returns-in-Some-next-clause-outcome : goal.returns-in-Some-next-clause-outcome
returns-in-Some-next-clause-outcome g c m there =
    let rv = c.args.self.now in
    let w = c.at-watch.result.now in
    let one = one-at c.args.self.now c.args.trace.now c.args.spec _ _ c.at-watch.ensures c.at-kept.ensures c.requires.one in
    let P : Trace → Type 0 = λ u. AllMeet (watched w) rv.rule (u ∷ []) u in
    let (more, e) = c.in-Some-next.ensures.some in
    outcome-at c.args.self.now c.args.trace.now c.args.spec _ _ c.at-watch.ensures c.at-kept.ensures
    m there Stays
    (lone-stays rv.rule (watched w) c.args.trace.now one rv.drop_dominated rv.traces
    c.at-kept.result.now (subst P c.as_slice.ensures c.in-None.ensures.none) _ more e)

pub returns-in_ok-insert-in-None-next-clause-outcome :
    goal.returns-in_ok-insert-in-None-next-clause-outcome
returns-in_ok-insert-in-None-next-clause-outcome g c m there =
    let rv = c.args.self.now in
    let w = c.at-watch.result.now in
    let made = c.in_ok-insert-in-None-next.field-0 in
    let one = one-at c.args.self.now c.args.trace.now c.args.spec _ _ c.at-watch.ensures c.at-kept.ensures c.requires.one in
    let P : Trace → Type 0 = λ u. AllMeet (watched w) rv.rule (u ∷ []) u in
    outcome-at c.args.self.now c.args.trace.now c.args.spec _ _ c.at-watch.ensures c.at-kept.ensures
    m there (Passes made)
    (lone-first rv.rule (watched w) c.args.trace.now one rv.drop_dominated rv.traces
    c.at-kept.result.now (subst P c.as_slice.ensures c.in-None.ensures.none)
    c.in-None-next.ensures.none made c.in_ok-insert-in-None-next.ensures)

pub returns-in-Some-clause-bounded : goal.returns-in-Some-clause-bounded
returns-in-Some-clause-bounded g c =
    lone-at c.args.self.now c.args.trace.now c.args.spec _ _ c.at-watch.ensures c.at-kept.ensures c.requires.one
    c.requires.absent _ c.args.steps.now c.find_alone.new.steps c.as_slice.ensures
    c.find_alone.ensures.bounded

pub returns-in-Some-next-clause-bounded : goal.returns-in-Some-next-clause-bounded
returns-in-Some-next-clause-bounded g c =
    lone-at c.args.self.now c.args.trace.now c.args.spec _ _ c.at-watch.ensures c.at-kept.ensures c.requires.one
    c.requires.absent _ c.args.steps.now c.find_alone.new.steps c.as_slice.ensures
    c.find_alone.ensures.bounded

pub returns-in_err-insert-in-None-next-clause-bounded : goal.returns-in_err-insert-in-None-next-clause-bounded
returns-in_err-insert-in-None-next-clause-bounded g c =
    lone-at c.args.self.now c.args.trace.now c.args.spec _ _ c.at-watch.ensures c.at-kept.ensures c.requires.one
    c.requires.absent _ c.args.steps.now c.find_alone.new.steps c.as_slice.ensures
    c.find_alone.ensures.bounded

pub returns-in_ok-insert-in-None-next-clause-bounded : goal.returns-in_ok-insert-in-None-next-clause-bounded
returns-in_ok-insert-in-None-next-clause-bounded g c =
    lone-at c.args.self.now c.args.trace.now c.args.spec _ _ c.at-watch.ensures c.at-kept.ensures c.requires.one
    c.requires.absent _ c.args.steps.now c.find_alone.new.steps c.as_slice.ensures
    c.find_alone.ensures.bounded

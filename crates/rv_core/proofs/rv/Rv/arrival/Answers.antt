use Rattle.std.proofs.Common.{◌≡◌, ◌∙◌, ◌+◌, ◌<◌, length, List, slice_set, Option, sym, subst, ap, arith}
use Rattle.std.proofs.lemmas.List.{length-map}
use Rattle.trace_trie.specs.Numbered.{Numbered}
use Rattle.rv_core.specs.declared.arrival.Outcome.{Outcome}
use Rattle.rv_core.specs.Arrivals.{IsOutcome, kept_or}
use Rattle.rv_core.specs.Held.{spec_of}
use Rattle.rv_core.specs.Keeping.{kept_at}
use Rattle.rv_core.specs.Masks.{masked}
use Rattle.rv_core.specs.Seen.{watched, watched_by, held}
use Rattle.rv_core.proofs.Below.{machine-some, next-below}
use Rattle.rv_core.proofs.Bounding.{bounds-more, bounds-end}
use Rattle.rv_core.proofs.Making.{AreMade, made-none, made-stays, made-passes, made-whole}
use Rattle.rv_core.proofs.rv.Rv.arrival.Goals.{in-Stays, in-Passes+in_ok-kept-in-Passes}
use Rattle.rv_core.proofs.rv.Rv.arrival.Goals as goal

pub loop-i-init : goal.loop-i-init
loop-i-init g c =
    let rv = c.args.self.now in
    record {
      made = made-none rv.rule rv.drop_dominated (watched_by rv.watches) rv.traces c.args.trace.now
          rv.kept;
      grown = omega arith;
      bounded = λ bounds are. omega arith;
    }

pub loop-i-preserved : goal.loop-i-preserved
loop-i-preserved g c =
    let rv = c.args.self.now in
    let t = c.args.trace.now in
    let i = c.loop-i.i in
    let ms = watched_by rv.watches in
    let before = c.loop-i.invariant in
    let made = kept_or rv.kept c.loop-i.next in
    let long = length-map rv.watches watched in
    let lt : i < length ms = omega (arith, long, c.loop-i-test.true) in
    let within : i < length rv.kept = omega (arith, rv.below.0, c.loop-i-test.true) in
    let (m, there) = machine-some ms i lt in
    let P : Outcome → Type 0 =
    IsOutcome rv.rule rv.drop_dominated m (masked (spec_of m) t) rv.traces (kept_at rv.kept i) in
    let R : List (List Numbered) → Type 0 =
    AreMade rv.rule rv.drop_dominated ms rv.traces t rv.kept (i + 1) in
    let Q : Option (List (List Numbered)) → Type 0 = λ next. R (kept_or rv.kept next) in
    record {
      made = elim c.match-branch-2.branch [
        | in-Stays w ↦
            let (passed, next) =
            subst P w.in-Stays.is (c.in_ok-outcome.ensures.outcome m there) in
            subst Q (sym w.next-is)
            (made-stays rv.rule rv.drop_dominated ms rv.traces t rv.kept i made before.made m there
            passed next)
        | in-Passes+in_ok-kept-in-Passes w ↦
            let x = w.in-Passes.version in
            let (passed, next) =
            subst P w.in-Passes.is (c.in_ok-outcome.ensures.outcome m there) in
            let set : w.set.new.self ≡ slice_set made i x =
            w.set.ensures ∙ ap (λ kept. slice_set kept i x) w.in_ok-kept-in-Passes.ensures in
            subst Q (sym w.next-is) (subst R (sym set)
            (made-passes rv.rule rv.drop_dominated ms rv.traces t rv.kept i made before.made m there
            passed x within next))
      ];
      grown = omega (arith, before.grown, c.outcome.ensures.counted);
      bounded = λ bounds are.
          bounds-more (held rv) t bounds are c.args.steps.now i lt c.loop-i.steps
          c.outcome.new.steps (before.bounded bounds are) c.outcome.ensures.bounded;
    }

pub returns-in-Violates-clause-arrival : goal.returns-in-Violates-clause-arrival
returns-in-Violates-clause-arrival g c =
    let rv = c.args.self.now in
    let t = c.args.trace.now in
    let i = c.loop-i.i in
    let (m, there) =
    machine-some (watched_by rv.watches) i
    (omega (arith, length-map rv.watches watched, c.loop-i-test.true)) in
    let P : Outcome → Type 0 =
    IsOutcome rv.rule rv.drop_dominated m (masked (spec_of m) t) rv.traces (kept_at rv.kept i) in
    record {
      machine = m;
      there = there;
      violating = subst P c.in-Violates.is (c.in_ok-outcome.ensures.outcome m there);
      before = c.loop-i.invariant.made.passed;
    }

pub returns-in-Some-clause-arrival : goal.returns-in-Some-clause-arrival
returns-in-Some-clause-arrival g c =
    made-whole c.args.self.now c.args.trace.now c.loop-i.i _ _ c.in-Some.is c.loop-i.invariant.made
    (omega (arith, c.loop-i-test.false))

pub returns-in-None-clause-arrival : goal.returns-in-None-clause-arrival
returns-in-None-clause-arrival g c =
    made-whole c.args.self.now c.args.trace.now c.loop-i.i _ _ c.in-None.is c.loop-i.invariant.made
    (omega (arith, c.loop-i-test.false))

pub returns-in-Some-clause-below : goal.returns-in-Some-clause-below
returns-in-Some-clause-below g c =
    let rv = c.args.self.now in
    let next = returns-in-Some-clause-arrival g c in (
      next.long ∙ length-map rv.watches watched,
      next-below rv.rule rv.drop_dominated (watched_by rv.watches) rv.traces c.args.trace.now rv.kept
          c.in-Some.kept next rv.below.1,
    )

pub returns-in_err-outcome-clause-bounded : goal.returns-in_err-outcome-clause-bounded
returns-in_err-outcome-clause-bounded g c bounds are =
    bounds-end c.args.self.now c.args.trace.now bounds are c.args.steps.now c.loop-i.i c.loop-i.steps
    c.outcome.new.steps (omega (arith, c.loop-i-test.true)) (c.loop-i.invariant.bounded bounds are)
    c.outcome.ensures.bounded

pub returns-in_err-kept-in-Passes-clause-bounded : goal.returns-in_err-kept-in-Passes-clause-bounded
returns-in_err-kept-in-Passes-clause-bounded g c bounds are =
    bounds-end c.args.self.now c.args.trace.now bounds are c.args.steps.now c.loop-i.i c.loop-i.steps
    c.outcome.new.steps (omega (arith, c.loop-i-test.true)) (c.loop-i.invariant.bounded bounds are)
    c.outcome.ensures.bounded

pub returns-in-Violates-clause-bounded : goal.returns-in-Violates-clause-bounded
returns-in-Violates-clause-bounded g c bounds are =
    bounds-end c.args.self.now c.args.trace.now bounds are c.args.steps.now c.loop-i.i c.loop-i.steps
    c.outcome.new.steps (omega (arith, c.loop-i-test.true)) (c.loop-i.invariant.bounded bounds are)
    c.outcome.ensures.bounded

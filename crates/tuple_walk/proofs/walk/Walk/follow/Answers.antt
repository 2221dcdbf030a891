use Rattle.std.proofs.Common.{◌≡◌, ◌+◌, ◌-◌, ◌<◌, ◌≤◌, ℕ, suc, List, [], ◌∷◌, ◌++◌, length, set, take, refl, sym, ap, ◌∙◌, subst, arith, length-set}
use Rattle.std.specs.Borrow.{Bor}
use Rattle.std.proofs.Math.Seq.{take-suc-set}
use Rattle.std.proofs.lemmas.Bool.{OnTrue_at, OnFalse_at}
use Rattle.std.proofs.lemmas.List.{map_push}
use Rattle.hy_finite.specs.Traces.{Trace}
use Rattle.trace_trie.specs.Numbered.{Numbered}
use Rattle.tuple_walk.specs.Alone.{IsAlone, left_of}
use Rattle.tuple_walk.specs.Finds.{traces_of}
use Rattle.tuple_walk.specs.Four.{four}
use Rattle.tuple_walk.specs.Serving.{sought_of}
use Rattle.tuple_walk.specs.Walks.{machine_in, rests_in}
use Rattle.tuple_walk.proofs.Following.{ones, ones-more, left-counted, left-accepted, left-rejected}
use Rattle.tuple_walk.proofs.Lists.{take-more, each-get}
use Rattle.tuple_walk.proofs.Scanning.{get-map}
use Rattle.tuple_walk.proofs.Stepping.{left_at}
use Rattle.tuple_walk.proofs.walk.Walk.follow.Goals as goal

pub loop-i-init : goal.loop-i-init
loop-i-init g c = (refl, ([], refl, refl))

pub rest-requires : goal.rest-requires
rest-requires g c =
    each-get IsAlone (machine_in c.args.self.now).variables c.loop-i.i (four c.args.places.now)
    c.at.result (omega (arith, c.vars-count.ensures.vars)) c.at.ensures c.requires.alone

pub loop-i-preserved : goal.loop-i-preserved
loop-i-preserved g c =
    let w = c.args.self.now in
    let n = (machine_in w).variables in
    let i = c.loop-i.i in
    let rests = rests_in w c.args.places.now in
    let few : n ≤ 4 = w.monitor.monitor.now.right.few in
    let (long, (ps, same, traces)) = c.loop-i.invariant in
    let (number, is) = c.rest.ensures in
    let x : Numbered = (number, c.rest.result.now) in
    let lt : i < length c.loop-i.rests = omega (arith, long, few, c.vars-count.ensures.vars) in
    let one : suc i ≡ i + 1 = omega arith in
    let there = get-map left_at n (four c.args.places.now) i c.at.result
    (omega (arith, c.vars-count.ensures.vars)) c.at.ensures in
    let P : ℕ → Type 0 = λ k. (take k rests ≡ ones (ps ++ x ∷ []))
    × (traces_of (ps ++ x ∷ []) ≡ left_of (take k (set c.loop-i.rests i c.rest.result))) in
    let (lists, lefts) = subst P one (
      take-more rests i (left_at c.at.result) there
          ∙ (λ j. same j ++ is j ∷ [])
          ∙ sym (ones-more ps x),
      map_push (λ (p : Numbered). p.1) ps x
          ∙ ap (λ (l : List Trace). l ++ x.1 ∷ []) traces
          ∙ sym (map_push (λ (r : Bor Trace). r.now) (take i c.loop-i.rests) c.rest.result)
          ∙ ap left_of (sym (take-suc-set c.loop-i.rests i c.rest.result lt)),
    ) in
    (length-set c.loop-i.rests i c.rest.result ∙ long, (ps ++ x ∷ [], lists, lefts))

pub returns-then-rejects_rests-clause-searched : goal.returns-then-rejects_rests-clause-searched
returns-then-rejects_rests-clause-searched g c =
    let w = c.args.self.now in
    left-rejected (machine_in w).variables (four c.args.places.now) w.monitor.monitor.now.right.few
    c.loop-i.rests c.loop-i.i c.vars-count.result (omega (arith, c.vars-count.ensures.vars))
    (omega arith) c.loop-i.invariant.1 (sought_of c.args.given.now) c.requires.ready (machine_in w) w.lengths c.args.q
    (OnTrue_at c.if-rejects_rests.true c.rejects_rests.ensures.rejected) c.tuple_of.result
    c.tuple_of.ensures.some c.tuple_of.ensures.none

pub returns-then-rejects_rests-clause-counted : goal.returns-then-rejects_rests-clause-counted
returns-then-rejects_rests-clause-counted g c =
    let w = c.args.self.now in
    left-counted (machine_in w).variables (four c.args.places.now) w.monitor.monitor.now.right.few
    c.loop-i.rests c.loop-i.i c.vars-count.result (omega (arith, c.vars-count.ensures.vars))
    (omega arith) c.loop-i.invariant.1 (sought_of c.args.given.now) c.requires.ready w.lengths (c.rejects_rests.new.steps - c.args.steps.now)
    c.rejects_rests.ensures.counted

pub returns-else-rejects_rests-clause-searched : goal.returns-else-rejects_rests-clause-searched
returns-else-rejects_rests-clause-searched g c =
    let w = c.args.self.now in
    left-accepted (machine_in w).variables (four c.args.places.now) w.monitor.monitor.now.right.few
    c.loop-i.rests c.loop-i.i c.vars-count.result (omega (arith, c.vars-count.ensures.vars))
    (omega arith) c.loop-i.invariant.1 (sought_of c.args.given.now) c.requires.ready (machine_in w) w.lengths c.args.q
    (OnFalse_at c.if-rejects_rests.false c.rejects_rests.ensures.accepted)

pub returns-else-rejects_rests-clause-counted : goal.returns-else-rejects_rests-clause-counted
returns-else-rejects_rests-clause-counted g c =
    let w = c.args.self.now in
    left-counted (machine_in w).variables (four c.args.places.now) w.monitor.monitor.now.right.few
    c.loop-i.rests c.loop-i.i c.vars-count.result (omega (arith, c.vars-count.ensures.vars))
    (omega arith) c.loop-i.invariant.1 (sought_of c.args.given.now) c.requires.ready w.lengths (c.rejects_rests.new.steps - c.args.steps.now)
    c.rejects_rests.ensures.counted

use Rattle.std.proofs.Common.{ℕ, ◌<◌, length, sym, ap, ◌∙◌, subst, arith}
use Rattle.std.proofs.lemmas.Bool.{OnTrue_at, OnFalse_at}
use Rattle.std.specs.Result.{IfOk}
use Rattle.rank_check.specs.Graphs.{IsEdge}
use Rattle.fair_search.specs.declared.path.Reached.{Reached}
use Rattle.fair_search.specs.Paths.{IsPathFrom}
use Rattle.fair_search.proofs.Spreading.{searched_step, searched_out, search_within, grown_at}
use Rattle.fair_search.proofs.path.path.Goals as goal

pub loop-head-init : goal.loop-head-init
loop-head-init g c = record {
  spread = c.in_ok-spread.ensures.0;
  first = c.in_ok-spread.ensures.1;
  within = omega arith;
  done = λ j lt. absurd (omega (arith, lt));
  counted = omega arith;
}

pub unreachable-requires : goal.unreachable-requires
unreachable-requires g c =
    searched_out c.args.g.now c.args.from c.args.to c.args.steps.now c.loop-head.spread
    c.loop-head.head c.loop-head.steps c.loop-head.invariant
    (omega (arith, c.loop-head-test.false, c.len.ensures)) c.requires.leads

pub returns-in_err-found-clause-most : goal.returns-in_err-found-clause-most
returns-in_err-found-clause-most g c =
    search_within c.args.g.now c.args.from c.args.to c.args.steps.now c.loop-head.spread
    c.loop-head.head c.loop-head.steps c.loop-head.invariant
    (omega (arith, c.loop-head-test.true, c.len.ensures)) c.expand.new.steps
    c.expand.ensures.most

pub returns-then-found-clause-most : goal.returns-then-found-clause-most
returns-then-found-clause-most g c =
    search_within c.args.g.now c.args.from c.args.to c.args.steps.now c.loop-head.spread
    c.loop-head.head c.loop-head.steps c.loop-head.invariant
    (omega (arith, c.loop-head-test.true, c.len.ensures)) c.expand.new.steps
    c.expand.ensures.most

pub loop-head-preserved : goal.loop-head-preserved
loop-head-preserved g c =
    let p = c.loop-head.spread in
    let lt : c.loop-head.head < length p.reached = omega
    (arith, c.loop-head-test.true, c.len.ensures) in
    let found = c.in_ok-found.ensures in
    searched_step c.args.g.now c.args.from c.args.to c.args.steps.now p c.loop-head.head
    c.loop-head.steps c.loop-head.invariant lt c.expand.new.steps found.most c.expand.new.self
    found.spread found.grows (OnFalse_at c.if-found.false found.spent)

pub returns-then-found-clause-path : goal.returns-then-found-clause-path
returns-then-found-clause-path g c =
    let p = c.loop-head.spread in
    let q = c.expand.new.self in
    let lt : c.loop-head.head < length p.reached = omega
    (arith, c.loop-head-test.true, c.len.ensures) in
    let found = c.in_ok-found.ensures in
    let at = grown_at p.seen q.seen p.reached q.reached found.grows in
    let E : Reached → Type 0 = λ r. IsEdge c.args.g.now r.node c.args.to in
    let edge = subst E (sym (at c.loop-head.head lt)) (OnTrue_at c.if-found.true found.found) in
    let first = ap (λ r. r.node) (at 0 c.loop-head.invariant.spread.some)
    ∙ c.loop-head.invariant.first in
    let P : ℕ → Type 0 = λ v. IfOk c.trace.result (IsPathFrom c.args.g.now v c.args.to) in
    subst P first (c.trace.ensures c.args.g.now c.args.to found.spread edge)

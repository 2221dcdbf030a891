use Rattle.std.proofs.Common.{◌≤◌, [], not, get_or, sym, ap, ◌∙◌, subst, arith, below_more}
use Rattle.hy_formula.proofs.Each.{each-at}
use Rattle.tuple_walk.specs.Four.{four}
use Rattle.tuple_walk.specs.Places.{HasEnded}
use Rattle.tuple_walk.specs.Walks.{machine_in, rests_in}
use Rattle.tuple_walk.proofs.Nexts.{long-places}
use Rattle.tuple_walk.proofs.Placing.{at-left}
use Rattle.tuple_walk.proofs.Scanning.{at-member, has-ended, none-ended, each-from}
use Rattle.tuple_walk.proofs.Stepping.{left_at}
use Rattle.tuple_walk.proofs.walk.Walk.all_ended.Goals as goal

pub loop-i-init : goal.loop-i-init
loop-i-init g c = λ k lt. absurd (omega arith)

pub returns-then-is_none-clause-no : goal.returns-then-is_none-clause-no
returns-then-is_none-clause-no g c = λ all.
    let w = c.args.self.now in
    none-ended c.ended.result (left_at c.at.result)
    (c.is_none.ensures ∙ ap not c.if-is_none.true) c.ended.ensures.none
    (each-at HasEnded (rests_in w c.args.places.now) (left_at c.at.result) all
    (at-member (machine_in w).variables c.loop-i.i (four c.args.places.now) c.at.result
    (omega (arith, c.vars-i-end.ensures.vars)) c.at.ensures))

pub loop-i-preserved : goal.loop-i-preserved
loop-i-preserved g c =
    let n = (machine_in c.args.self.now).variables in
    below_more (λ k. HasEnded (get_or (rests_in c.args.self.now c.args.places.now) k [])) _
    c.loop-i.invariant
    (subst HasEnded (sym (at-left n c.loop-i.i (four c.args.places.now) c.at.result
    (omega (arith, c.vars-i-end.ensures.vars)) c.at.ensures))
    (has-ended c.ended.result (left_at c.at.result) (c.is_none.ensures ∙ ap not c.if-is_none.false)
    c.ended.ensures.some))

pub returns-clause-yes : goal.returns-clause-yes
returns-clause-yes g c =
    let w = c.args.self.now in
    let few : (machine_in w).variables ≤ 4 = w.monitor.monitor.now.right.few in
    let long = long-places (machine_in w).variables left_at (four c.args.places.now) few in
    each-from HasEnded (rests_in w c.args.places.now) []
    (λ k lt. c.loop-i.invariant k (omega (arith, c.vars-i-end.ensures.vars, long)))

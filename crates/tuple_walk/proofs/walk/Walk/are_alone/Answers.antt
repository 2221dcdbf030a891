use Rattle.std.proofs.Common.{◌≡◌, ◌+◌, ◌≤◌, ℕ, suc, take, subst, arith}
use Rattle.std.proofs.lemmas.Bool.{OnTrue_at}
use Rattle.std.proofs.lemmas.List.{length-take-le, take_all}
use Rattle.hy_formula.specs.Quantifiers.{Each}
use Rattle.tuple_walk.specs.Alone.{IsAlone}
use Rattle.tuple_walk.specs.Four.{four}
use Rattle.tuple_walk.specs.Walks.{machine_in}
use Rattle.tuple_walk.proofs.Lists.{each-more}
use Rattle.tuple_walk.proofs.walk.Walk.are_alone.Goals as goal

pub loop-i-init : goal.loop-i-init
loop-i-init g c = tt

pub loop-i-preserved : goal.loop-i-preserved
loop-i-preserved g c =
    let n = (machine_in c.args.self.now).variables in
    let ps = four c.args.places.now in
    let P : ℕ → Type 0 = λ k. Each IsAlone (take k (take n ps)) in
    let one : suc c.loop-i.i ≡ c.loop-i.i + 1 = omega arith in
    subst P one (each-more IsAlone n c.loop-i.i ps c.at.result
    (omega (arith, c.vars-i-end.ensures.vars)) c.at.ensures
    (OnTrue_at c.if-not-is_alone.false c.is_alone.ensures) c.loop-i.invariant)

pub returns : goal.returns
returns g c =
    let n = (machine_in c.args.self.now).variables in
    let ps = four c.args.places.now in
    let few : n ≤ 4 = c.args.self.now.monitor.monitor.now.right.few in
    let long = length-take-le n ps few in
    subst (Each IsAlone) (take_all c.loop-i.i (take n ps)
    (omega (arith, c.vars-i-end.ensures.vars, long))) c.loop-i.invariant

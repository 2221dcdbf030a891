use Rattle.std.proofs.Common.{◌≡◌, ℕ, List, Option, inl, inr, sym, ◌∙◌, subst, arith}
use Rattle.std.proofs.lemmas.Bool.{cases_lt}
use Rattle.hy_finite.specs.Traces.{Trace}
use Rattle.fin_monitor.specs.Machines.{Machine}
use Rattle.fin_monitor.specs.Seen.{machine_of}
use Rattle.dominance.specs.Answers.{IsComparison, IsAnswerAt}
use Rattle.dominance.specs.Dominance.{DominatesAt}
use Rattle.dominance.proofs.Refuting.{everywhere}
use Rattle.dominance.proofs.compare.compare_on.Goals as goal

pub returns-then-vars-eq1 : goal.returns-then-vars-eq1
returns-then-vars-eq1 g c =
    let P : ℕ → Trace → Trace → Type 0 = λ n t u.
    IsComparison c.args.lengths n (machine_of c.args.m.now).body t u c.alone.result in
    let Q : Trace → Type 0 = λ t. P 1 t c.as_slice-under.result.now in
    let R : Trace → Type 0 = λ u. P 1 c.args.t.now u in
    let S : ℕ → Type 0 = λ n. P n c.args.t.now c.args.u.now in
    subst S (sym (sym c.vars.ensures.vars ∙ c.if-vars-eq1.true))
    (subst R c.as_slice-under.ensures
    (subst Q c.as_slice-over.ensures (c.alone.ensures c.args.lengths)))

pub loop-place-preserved : goal.loop-place-preserved
loop-place-preserved g c =
    let m : Machine = machine_of c.args.m.now in
    let P : Option (List Trace) → Type 0 = IsAnswerAt c.args.lengths m.variables m.body
    c.loop-place.place c.as_slice-over.result.now c.as_slice-under.result.now in
    let D : ℕ → Trace → Trace → Type 0 = DominatesAt c.args.lengths m.variables m.body in
    let Q : Trace → Type 0 = λ t. D c.loop-place.place t c.as_slice-under.result.now in
    let R : Trace → Type 0 = D c.loop-place.place c.args.t.now in
    let S : ℕ → Type 0 = λ p. D p c.args.t.now c.args.u.now in
    let there = subst R c.as_slice-under.ensures
    (subst Q c.as_slice-over.ensures (subst P c.in_default.is c.in_ok-others.ensures)) in
    λ p lt. elim (cases_lt p c.loop-place.place) [
      | inl less ↦ c.loop-place.invariant p less
      | inr ge ↦ let e : c.loop-place.place ≡ p = omega arith in subst S e there
    ]

pub returns : goal.returns
returns g c =
    let m : Machine = machine_of c.args.m.now in
    everywhere c.args.lengths m.variables m.body c.args.t.now c.args.u.now (λ p lt.
    c.loop-place.invariant p
    (omega (arith, lt, c.loop-place-test.false, c.vars-place-end.ensures.vars)))

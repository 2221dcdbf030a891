use Rattle.std.proofs.Common.{ℕ, refl, sym, ◌∙◌, subst, arith}
use Rattle.fin_monitor.specs.Machines.{Machine}
use Rattle.fin_monitor.specs.Seen.{machine_of}
use Rattle.dominance.specs.Answers.{IsOrder}
use Rattle.dominance.proofs.Refuting.{over-more, over-all}
use Rattle.dominance.proofs.order.Compared.order.Goals as goal

pub returns-then-vars-eq1 : goal.returns-then-vars-eq1
returns-then-vars-eq1 g c =
    let m : Machine = machine_of c.args.self.now.monitor.now in
    let P : ℕ → Type 0 = λ n. IsOrder c.args.self.now.lengths n m.body c.args.self.now.first.now
    c.args.self.now.second.now c.alone.result in
    subst P (sym (sym c.vars.ensures.vars ∙ c.if-vars-eq1.true))
    (c.alone.ensures c.args.self.now.lengths)

pub loop-place-init : goal.loop-place-init
loop-place-init g c = record {
  over = (λ e p lt. absurd (omega arith), λ all. refl);
  under = (λ e p lt. absurd (omega arith), λ all. refl);
}

pub loop-place-preserved : goal.loop-place-preserved
loop-place-preserved g c =
    let m : Machine = machine_of c.args.self.now.monitor.now in
    let inv = c.loop-place.invariant in
    let there = c.in_ok-order.ensures in
    record {
      over = over-more c.args.self.now.lengths m.variables m.body c.args.self.now.first.now
          c.args.self.now.second.now c.loop-place.place _ _ inv.over there.over;
      under = over-more c.args.self.now.lengths m.variables m.body c.args.self.now.second.now
          c.args.self.now.first.now c.loop-place.place _ _ inv.under there.under;
    }

pub returns : goal.returns
returns g c =
    let m : Machine = machine_of c.args.self.now.monitor.now in
    let inv = c.loop-place.invariant in
    record {
      over = over-all c.args.self.now.lengths m.variables m.body c.args.self.now.first.now
          c.args.self.now.second.now c.loop-place.place _
          (omega (arith, c.loop-place-test.false, c.vars-place-end.ensures.vars)) inv.over;
      under = over-all c.args.self.now.lengths m.variables m.body c.args.self.now.second.now
          c.args.self.now.first.now c.loop-place.place _
          (omega (arith, c.loop-place-test.false, c.vars-place-end.ensures.vars)) inv.under;
    }

use Rattle.std.proofs.Common.{◌≡◌, ◌||◌, true, false, inl, inr, sym, ap, ◌∙◌, subst, ℕ, arith}
use Rattle.std.specs.FinSet.{contains}
use Rattle.std.proofs.lemmas.Bool.{cases_eq}
use Rattle.fin_monitor.specs.Reductions.{OutdoesSome}
use Rattle.fin_monitor.proofs.Outdoing.{outdoes-duty}
use Rattle.fin_monitor.proofs.reducing.outdoes_duty.Goals as goal
use Rattle.fin_monitor.proofs.reducing.outdoes_duty.Goals.{else-has-via-then-has+else-not-outdoes_some, else-has-via-else-has}

pub loop-k-preserved : goal.loop-k-preserved
loop-k-preserved g c k lt has =
    elim (cases_eq k c.loop-k.k) [
      | inl same ↦
          let P : ℕ → Type 0 = λ j. OutdoesSome c.args.closure.now.nodes j c.args.d.now in
          subst P (sym same)
          (elim c.else-has.branch [
            | else-has-via-then-has+else-not-outdoes_some w ↦ w.outdoes_some.ensures w.if-not-outdoes_some.false
            | else-has-via-else-has w ↦
                let no : true ≡ false = sym has ∙ ap (λ j. contains c.args.e.now.strong j || contains c.args.e.now.weak j) same ∙ sym c.has.ensures ∙ w.if-has.false in
                absurd (cc)
          ])
      | inr apart ↦ c.loop-k.invariant k (omega arith) has
    ]

pub returns : goal.returns
returns g c is =
    outdoes-duty c.args.closure.now.nodes c.args.e.now c.args.d.now (λ k lt has. c.loop-k.invariant k (omega (arith, c.len-k-end.ensures.len, c.loop-k-test.false, c.loop-k.auto.k-end)) has)

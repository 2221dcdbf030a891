use Rattle.std.proofs.Common.{◌≡◌, ℕ, inl, inr, sym, ◌∙◌, subst, arith}
use Rattle.std.specs.Prelude.{slice_index}
use Rattle.std.proofs.lemmas.Bool.{cases_lt}
use Rattle.std.proofs.lemmas.List.{get_or_default}
use Rattle.fin_monitor.specs.Seen.{machine_of}
use Rattle.dominance.specs.Telling.{MayStayBy}
use Rattle.dominance.proofs.rejecting.Moves.may_stay.Goals as goal

pub loop-part-preserved : goal.loop-part-preserved
loop-part-preserved g c =
    let m = machine_of c.args.self.now.monitor.now in
    λ k lt. elim (cases_lt k c.loop-part.part-index) [
      | inl less ↦ c.loop-part.invariant k less
      | inr ge ↦
          let same : c.loop-part.part-index ≡ k = omega arith in
          let P : ℕ → Type 0 = λ j. MayStayBy m c.args.self.now.codes.now c.args.among.now c.args.q
          (slice_index c.args.self.now.parts.now j) in
          subst P same (c.may_stay_by.ensures c.if-not-may_stay_by.false)
    ]

pub returns : goal.returns
returns g c = λ _ part (k, lt, e).
    let m = machine_of c.args.self.now.monitor.now in
    let P : ℕ → Type 0 = λ p. MayStayBy m c.args.self.now.codes.now c.args.among.now c.args.q p in
    subst P (sym (get_or_default c.args.self.now.parts.now k part 0 lt) ∙ e)
    (c.loop-part.invariant k (omega (arith, lt, c.loop-part-test.false)))

use Rattle.std.proofs.Common.{◌≡◌, ℕ, ◌+◌, ◌-◌, sym, subst, arith}
use Rattle.hy_formula.specs.Temporal.{Repeats}
use Rattle.hy_lasso.specs.Words.{picked, lasso_words}
use Rattle.hy_lasso.proofs.LassoWords.{tuple-repeats}
use Rattle.hy_lasso.proofs.meaning.holds_body.Goals as goal

pub invariant_of-tuple : goal.invariant_of-tuple
invariant_of-tuple c =
    let e : c.in-Some.period.stem + c.in-Some.period.cycle - c.in-Some.period.stem ≡ c.in-Some.period.cycle = omega arith in
    let P : ℕ → Type 0 = Repeats (lasso_words (picked c.args.list.now c.args.pick.now)) c.in-Some.period.stem in
    record {
      members = c.requires.members;
      some = omega (arith, c.in-Some.period.some);
      repeats = subst P (sym e) (tuple-repeats _ _ _ c.in-Some.ensures.period);
    }

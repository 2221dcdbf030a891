use Rattle.std.proofs.Common.{◌≡◌, ◌-◌, ◌+◌, ◌++◌, ◌∷◌, [], arith, subst}
use Rattle.std.specs.Option.{option_map}
use Rattle.std.proofs.lemmas.Result.{err_from_is_err_and}
use Rattle.hy_read.proofs.BuildingFormulas.{Progress, next_of, progress_more, progress_refused, progress_all}
use Rattle.hy_read.proofs.formulas.build_formulas.Goals as goal

pub returns-in_err-built : goal.returns-in_err-built
returns-in_err-built c = λ many fs tokens left are long few opens.
    let o = option_map (λ n. n.now) c.args.names in
    let p = err_from_is_err_and c.from_residual.result c.from_residual.ensures.1 in
    let before = c.loop-i.invariant.built many fs tokens left are long few opens in
    let (n, count) = next_of o many c.args.text.now c.loop-i.at c.loop-i.formulas (c.args.count - c.loop-i.i) fs (omega arith) before in
    rw (p.1, p.2) (progress_refused o many c.args.text.now c.loop-i.at c.loop-i.formulas fs n c.in_err-built.field-0.0
    (c.in_err-built.ensures.built n.f n.tokens n.rest n.left n.is n.few n.opens n.stops))

pub loop-i-preserved : goal.loop-i-preserved
loop-i-preserved c = record {
  built = λ many fs tokens left are long few opens.
      let o = option_map (λ n. n.now) c.args.names in
      let before = c.loop-i.invariant.built many fs tokens left are long few opens in
      let (n, count) = next_of o many c.args.text.now c.loop-i.at c.loop-i.formulas (c.args.count - c.loop-i.i) fs (omega arith) before in
      let more = progress_more o many c.args.text.now c.loop-i.at c.past-at.result c.loop-i.formulas (c.args.count - c.loop-i.i) fs n c.in_ok-built.built count
      (c.in_ok-built.ensures.built n.f n.tokens n.rest n.left n.is n.few n.opens n.stops) (c.past-at.ensures.past c.args.text.now) in
      let fewer : c.args.count - c.loop-i.i - 1 ≡ c.args.count - (c.loop-i.i + 1) = omega arith in
      rw c.in_ok-push.ensures.added (subst (λ x. Progress o many c.args.text.now c.past-at.result (c.loop-i.formulas ++ c.in_ok-built.built.formula ∷ []) x fs) fewer more);
  within = c.past-at.ensures.within _ c.loop-i.invariant.within c.in_ok-built.ensures.within;
}

pub returns : goal.returns
returns c = λ many fs tokens left are long few opens.
    progress_all _ many c.args.text.now c.loop-i.at c.loop-i.formulas _ fs (omega arith) (c.loop-i.invariant.built many fs tokens left are long few opens)

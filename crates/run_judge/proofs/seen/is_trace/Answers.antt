use Rattle.std.proofs.Common.{◌≡◌, ◌<◌, true, false, List, length, subst}
use Rattle.hy_bits.specs.Letter.{Letter}
use Rattle.aig_net.specs.declared.run.ValueLasso.{ValueLasso}
use Rattle.aig_net.specs.Simulations.{IsExecutionOf}
use Rattle.run_judge.proofs.Seeing.{seen_trace, no_trace}
use Rattle.run_judge.proofs.seen.is_trace.Goals as goal

pub visible_in-requires : goal.visible_in-requires
visible_in-requires c =
    let is : IsExecutionOf c.args.net.now c.args.run.now c.in-Some.values =
    rw c.in-Some.is at c.in_ok-values.ensures.some in
    (c.args.net.now, c.args.run.now, is, c.requires)

-- The run is that of no lasso execution.
pub returns-in_default : goal.returns-in_default
returns-in_default c =
    let none : (values : ValueLasso) → ¬ IsExecutionOf c.args.net.now c.args.run.now values =
    rw c.in_default.is at c.in_ok-values.ensures.none in (
      λ (yes : false ≡ true). absurd (cc),
      λ of. absurd
          (no_trace c.args.net.now c.args.signals.now c.args.run.now c.args.trace.now none of),
    )

pub returns : goal.returns
returns c =
    let is : IsExecutionOf c.args.net.now c.args.run.now c.in-Some.values =
    rw c.in-Some.is at c.in_ok-values.ensures.some in
    let P : List Letter → Type 0 = λ l. 0 < length l in
    seen_trace c.args.net.now c.args.signals.now c.args.run.now c.args.trace.now
    c.in-Some.values c.in_ok-seen.seen c.eq.result
    (λ a b. c.one_execution.ensures c.args.net.now c.args.run.now a b c.variables.ensures.net) is
    (subst P c.cycle.ensures.letters c.cycle.ensures.some)
    (subst P c.cycle-2.ensures.letters c.cycle-2.ensures.some) c.in_ok-seen.ensures.normal
    c.in_ok-seen.ensures.shows c.eq.ensures.equal

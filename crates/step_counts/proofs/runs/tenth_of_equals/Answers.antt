use Rattle.std.proofs.Common.{ℕ, ◌*◌, List, [], ◌∷◌, length, ap, subst, arith}
use Rattle.std.specs.List.{Contains}
use Rattle.hy_finite.specs.Traces.{Trace}
use Rattle.rv_core.specs.Held.{specs_of}
use Rattle.rv_core.specs.Seen.{held}
use Rattle.step_counts.specs.Branches.{tuples_with, over_lengths, steps_of}
use Rattle.step_counts.proofs.Examples.{equal-branches, within}
use Rattle.step_counts.proofs.runs.tenth_of_equals.Goals as goal

pub returns : goal.returns
returns g c =
    let seen = c.as_slice-2.result.now in
    let same = λ (t : Trace) (has : Contains seen t). c.in_ok-seen.ensures.same t
    (subst (λ (list : List Trace). Contains list t) c.as_slice-2.ensures has) in
    let branches = equal-branches c.in_ok-trace.trace seen same
    (omega (arith, ap length c.in_ok-trace.ensures)) in
    within c.args.formula (specs_of (held c.in_ok-rv.rv)) c.in_ok-rv.ensures.specs
    (steps_of (0 ∷ 0 ∷ [])) 4 c.args.steps.now c.arrive.new.steps
    (ap (λ (n : ℕ). n * over_lengths (tuples_with n) (0 ∷ 0 ∷ [])) c.requires)
    (c.arrive.ensures.joint ([] ∷ [] ∷ []) branches c.in_ok-rv.ensures.rule)

use Rattle.std.proofs.Common.{◌*◌, ℕ, sym, ap, subst}
use Rattle.hy_finite.specs.declared.lengths.Lengths.{Lengths}
use Rattle.rv_core.specs.Held.{specs_of}
use Rattle.rv_core.specs.Seen.{held}
use Rattle.step_counts.specs.Branches.{counts_of, tuples_with, firsts_with, over_lengths, steps_of, first_steps_of, AreSymmetric}
use Rattle.step_counts.proofs.Examples.{second, third-is, within, symmetric}
use Rattle.step_counts.proofs.runs.third_of_three.Goals as goal

pub returns-clause-joint : goal.returns-clause-joint
returns-clause-joint g c =
    let words = second c.args.a c.args.b c.args.c in
    let branches = third-is c.args.a c.args.b c.args.c c.in_ok-single.field-0
    c.in_ok-pair.field-0 c.in_ok-pair-2.field-0 c.in_ok-single.ensures c.in_ok-pair.ensures
    c.in_ok-pair-2.ensures in
    within c.args.formula (specs_of (held c.in_ok-rv.rv)) c.in_ok-rv.ensures.specs
    (steps_of (counts_of words)) 8 c.args.steps.now c.arrive.new.steps
    (ap (λ (n : ℕ). n * over_lengths (tuples_with n) (counts_of words)) c.requires)
    (c.arrive.ensures.joint words branches c.in_ok-rv.ensures.rule)

pub returns-clause-first : goal.returns-clause-first
returns-clause-first g c same =
    let words = second c.args.a c.args.b c.args.c in
    let branches = third-is c.args.a c.args.b c.args.c c.in_ok-single.field-0
    c.in_ok-pair.field-0 c.in_ok-pair-2.field-0 c.in_ok-single.ensures c.in_ok-pair.ensures
    c.in_ok-pair-2.ensures in
    let specs = specs_of (held c.in_ok-rv.rv) in
    let rule = c.in_ok-rv.ensures.rule in
    let P : Lengths → Type 0 = λ l. AreSymmetric l specs in
    within c.args.formula specs c.in_ok-rv.ensures.specs (first_steps_of (counts_of words)) 3
    c.args.steps.now c.arrive.new.steps
    (ap (λ (n : ℕ). over_lengths (firsts_with n) (counts_of words)) c.requires)
    (c.arrive.ensures.first words branches rule
    (subst P (sym rule)
    (symmetric c.args.formula specs c.in_ok-rv.ensures.specs _ 2 c.requires same)))

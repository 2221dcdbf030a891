use Rattle.std.proofs.Common.{◌+◌, ◌≤◌, ℕ, List, [], ◌∷◌, ◌++◌, sym, ap, ◌∙◌, subst, arith, ◌*◌, sum, map}
use Rattle.rv_core.specs.Held.{specs_of}
use Rattle.rv_core.specs.Seen.{held}
use Rattle.step_counts.specs.Branches.{tuples_with, over_lengths, steps_of}
use Rattle.step_counts.proofs.Examples.{made-branches, within}
use Rattle.step_counts.proofs.Making.{made-before}
use Rattle.step_counts.proofs.runs.made_behind.Goals as goal

pub seen_by-requires-clause-few : goal.seen_by-requires-clause-few
seen_by-requires-clause-few g c =
    let trace = c.in-Some.trace in
    let same = ap (λ list. list ++ trace ∷ []) c.as_slice.ensures
    ∙ sym c.in-Some.ensures.taken ∙ c.in_ok-seen.ensures in
    omega (
      arith,
      made-before c.args.names.now (c.args.n + 1) c.as_slice.result.now trace same,
      c.requires.few,
    )

pub arrive-requires-clause-few : goal.arrive-requires-clause-few
arrive-requires-clause-few g c =
    let trace = c.in-Some.trace in
    let same = ap (λ list. list ++ trace ∷ []) c.as_slice-2.ensures
    ∙ sym c.in-Some.ensures.taken ∙ c.in_ok-seen.ensures in
    omega (
      arith,
      made-before c.args.names.now (c.args.n + 1) c.as_slice-2.result.now trace same,
      c.requires.few,
    )

pub returns : goal.returns
returns g c =
    let trace = c.in-Some.trace in
    let same = ap (λ list. list ++ trace ∷ []) c.as_slice-2.ensures
    ∙ sym c.in-Some.ensures.taken ∙ c.in_ok-seen.ensures in
    let (words, branches, counts) =
    made-branches c.args.names.now (c.args.n + 1) c.as_slice-2.result.now trace same in
    let specs = specs_of (held c.in_ok-rv.rv) in
    let P : List ℕ → Type 0 =
    λ some. c.arrive.new.steps ≤ c.args.steps.now + sum (map (steps_of some) specs) in
    let all = 1 ∷ 3 ∷ 7 ∷ 15 ∷ [] in
    within c.args.formula specs c.in_ok-rv.ensures.specs (steps_of all) 2802 c.args.steps.now
    c.arrive.new.steps
    (ap (λ (n : ℕ). n * over_lengths (tuples_with n) all) c.requires.three)
    (subst P counts (c.arrive.ensures.joint words branches c.in_ok-rv.ensures.rule))

use Rattle.std.proofs.Common.{◌≡◌, get_or, sym, ◌∙◌, subst}
use Rattle.std.specs.Prelude.{ℤ, pos}
use Rattle.std.specs.List.{Contains}
use Rattle.std.proofs.lemmas.Bool.{both_ways}
use Rattle.std.proofs.lemmas.List.{get_or_default}
use Rattle.sat_core.proofs.Assuming.{first-all, if-ok}
use Rattle.sat_core.proofs.solving.Search.step.Goals as goal

pub returns-then-assumptions-passed : goal.returns-then-assumptions-passed
returns-then-assumptions-passed c =
    if-ok c.decide_open.result _ _
    (λ step of. of c.args.assumptions.now (first-all c.args.self.now.solver.partial.literals
    c.args.assumptions.now c.args.passed c.if-assumptions-passed.true c.requires.first))
    c.decide_open.ensures

pub assume-requires-clause-open_yet : goal.assume-requires-clause-open_yet
assume-requires-clause-open_yet c =
    let at : get_or c.args.assumptions.now c.args.passed (pos 0)
    ≡ c.index-assumptions-passed.result =
    get_or_default c.args.assumptions.now c.args.passed (pos 0) c.index-assumptions-passed.result
    c.if-assumptions-passed.false ∙ sym c.index-assumptions-passed.is in
    let P : ℤ → Type 0 = λ z. ¬ Contains c.args.self.now.solver.partial.literals z in (
      subst P at (c.requires.next c.if-assumptions-passed.false),
      λ h. both_ways c.is_false.result c.if-is_false.false (c.is_false.ensures.1 h),
    )

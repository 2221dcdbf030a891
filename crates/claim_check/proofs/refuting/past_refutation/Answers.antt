use Rattle.std.proofs.Common.{◌≡◌, true, false, sym, ◌∙◌}
use Rattle.ea_reduce.specs.Plans.{plain_plan}
use Rattle.claim_check.proofs.Refuted.{either_passed, ranks_alone}
use Rattle.claim_check.proofs.refuting.past_refutation.Goals as goal

pub returns-then-starts_free-clause-passed : goal.returns-then-starts_free-clause-passed
returns-then-starts_free-clause-passed c =
    either_passed c.args.text.now (plain_plan c.args.planned.now.plan) c.past_free.result
    (c.starts_free.ensures.0 c.if-starts_free.true) c.past_free.ensures.passed

pub returns-in_ok-left-clause-passed : goal.returns-in_ok-left-clause-passed
returns-in_ok-left-clause-passed c =
    ranks_alone c.args.text.now (plain_plan c.args.planned.now.plan) c.in_ok-left.left
    (λ starts.
    let clash : false ≡ true = sym c.if-starts_free.false ∙ c.starts_free.ensures.1 starts in
    absurd (cc))
    c.in_ok-left.ensures.judged

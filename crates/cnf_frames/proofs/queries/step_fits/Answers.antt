use Rattle.std.proofs.Common.{ap, ◌∙◌}
use Rattle.std.proofs.lemmas.Result.{MatchResult-weaker}
use Rattle.cnf_frames.specs.declared.queries.Asked.TheVariants.{Step}
use Rattle.cnf_frames.specs.declared.queries.FrameError.TheVariants.{Limit}
use Rattle.cnf_frames.specs.Counts.{step_literals}
use Rattle.cnf_frames.specs.Queries.{clauses_of, variables_of}
use Rattle.chain_check.specs.FewClauses.{literals_in}
use Rattle.cnf_frames.proofs.Counting.{step-counted}
use Rattle.cnf_frames.proofs.Querying.{like-after, refused-as, within-as, step-variables}
use Rattle.cnf_frames.proofs.queries.step_fits.Goals as goal

pub returns-clause-within : goal.returns-clause-within
returns-clause-within c =
    MatchResult-weaker c.within_limits.result c.within_limits.ensures.within
    (λ _ p. within-as c.args.safe.now (Step c.args.inv.now c.args.k) c.step_variables.result
    c.step_literals.result
    (step-variables c.args.safe.now c.args.inv.now c.args.k _ c.step_variables.ensures)
    (like-after _ _ _ (c.step_literals.ensures
    ∙ ap (λ f. step_literals c.args.safe.now.net f c.args.k) c.as_slice.ensures)
    (step-counted c.args.safe.now c.args.inv.now c.args.k)) p)
    (λ _ p. p)

pub returns-clause-past : goal.returns-clause-past
returns-clause-past c =
    MatchResult-weaker c.within_limits.result c.within_limits.ensures.past (λ _ p. p)
    (λ limit p. refused-as c.step_variables.result c.step_literals.result
    (variables_of c.args.safe.now (Step c.args.inv.now c.args.k))
    (literals_in (clauses_of c.args.safe.now (Step c.args.inv.now c.args.k))) (Limit limit)
    (step-variables c.args.safe.now c.args.inv.now c.args.k _ c.step_variables.ensures)
    (like-after _ _ _ (c.step_literals.ensures
    ∙ ap (λ f. step_literals c.args.safe.now.net f c.args.k) c.as_slice.ensures)
    (step-counted c.args.safe.now c.args.inv.now c.args.k)) p)

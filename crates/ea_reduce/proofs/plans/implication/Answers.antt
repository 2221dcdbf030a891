use Rattle.std.proofs.Common.{arith, ap, ◌∙◌, ◌∷◌, ◌++◌, []}
use Rattle.std.proofs.lemmas.Result.{err_from_is_err_and}
use Rattle.hy_formula.specs.Trees.{tree_of}
use Rattle.ea_reduce.proofs.Jobs.{below-two}
use Rattle.ea_reduce.proofs.Refusing.{refused-first, refused-second}
use Rattle.ea_reduce.proofs.plans.implication.Goals as goal

pub returns-in_err-job-clause-refused : goal.returns-in_err-job-clause-refused
returns-in_err-job-clause-refused c =
    let p = err_from_is_err_and c.from_residual-in_err-job.result c.from_residual-in_err-job.ensures.1 in
    rw (p.1, p.2) (refused-first c.args.a.now.prefix (tree_of c.args.a.now.body) c.args.b.now.prefix (tree_of c.args.b.now.body) _
    c.in_ok-is_taken.ensures.taken c.in_ok-is_taken-2.ensures.taken _ _ _ _ _ _ c.quantifiers-first.ensures.quants c.in_ok-turned.ensures
    c.quantifiers-second.ensures.quants c.existentials-next.ensures.count c.existentials.ensures.count c.lassos_for-vars.ensures.count c.in_err-job.ensures.refused)

pub returns-in_err-job-2-clause-refused : goal.returns-in_err-job-2-clause-refused
returns-in_err-job-2-clause-refused c =
    let p = err_from_is_err_and c.from_residual-in_err-job-2.result c.from_residual-in_err-job-2.ensures.1 in
    rw (p.1, p.2) (refused-second c.args.a.now.prefix (tree_of c.args.a.now.body) c.args.b.now.prefix (tree_of c.args.b.now.body) _
    c.in_ok-is_taken.ensures.taken c.in_ok-is_taken-2.ensures.taken _ _ _ _ _ _ c.quantifiers-first.ensures.quants c.in_ok-turned.ensures
    c.quantifiers-second.ensures.quants c.existentials-next.ensures.count c.existentials.ensures.count c.lassos_for-vars.ensures.count c.in_err-job-2.ensures.refused)

pub returns-clause-below : goal.returns-clause-below
returns-clause-below c =
    below-two c.lassos_for-vars.result c.in_ok-job.field-0 c.in_ok-job-2.field-0 c.push-2.new.self
    (c.in_ok-push-2.ensures.added ∙ ap (λ js. js ++ c.in_ok-job-2.field-0 ∷ []) (c.in_ok-push.ensures.added ∙ ap (λ js. js ++ c.in_ok-job.field-0 ∷ []) c.new-jobs.ensures))
    (c.in_ok-job.ensures.below (omega (arith, c.lassos_for-vars.ensures.most, c.existentials-next.ensures.count)))
    (c.in_ok-job-2.ensures.below (omega (arith, c.lassos_for-vars.ensures.most, c.existentials.ensures.count)))

use Rattle.std.proofs.Common.{◌≢◌, rules}
use Rattle.std.proofs.lemmas.Result.{err_from_is_err_and}
use Rattle.hy_formula.specs.Trees.{tree_of}
use Rattle.hy_formula.specs.Classes.{class_of}
use Rattle.hy_formula.specs.declared.classes.Class.TheVariants.{Other}
use Rattle.ea_reduce.proofs.Refusing.{refused-formula}
use Rattle.ea_reduce.proofs.plans.reduce.Goals as goal

pub returns-in_err-job-clause-refused : goal.returns-in_err-job-clause-refused
returns-in_err-job-clause-refused c =
    let p = err_from_is_err_and c.from_residual.result c.from_residual.ensures.1 in
    let taken : class_of c.args.f.now.prefix ≢ Other = search rules in
    rw (p.1, p.2) (refused-formula c.args.f.now.prefix (tree_of c.args.f.now.body) _ _ taken (cc) c.in_err-job.ensures.refused)

use Rattle.std.proofs.Common.{◌∙◌, ap, replicate}
use Rattle.std.proofs.lemmas.Result.{IfOk-weaker}
use Rattle.bound_search.proofs.MadeSheets.{first-of}
use Rattle.bound_search.proofs.rows.first_place.Goals as goal

pub returns-clause-values : goal.returns-clause-values
returns-clause-values c =
    IfOk-weaker c.filled.result _ _ (λ made e.
    e ∙ ap (replicate 1) c.first.ensures ∙ first-of c.args.row.now c.requires) c.filled.ensures

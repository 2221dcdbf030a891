use Rattle.std.proofs.Common.{◌++◌, suc, ◌∙◌, ap}
use Rattle.std.proofs.lemmas.Result.{err_from_is_err_and}
use Rattle.cnf_frames.specs.declared.queries.Asked.TheVariants.{Step}
use Rattle.cnf_frames.specs.Counts.{step_literals}
use Rattle.cnf_frames.specs.Queries.{clauses_of, variables_of, good_clauses}
use Rattle.chain_check.specs.FewClauses.{literals_in, for_each}
use Rattle.cnf_frames.proofs.Counting.{step-counted}
use Rattle.cnf_frames.proofs.Querying.{like-after, refused-as, within-as, step-made, step-variables, step-start}
use Rattle.cnf_frames.proofs.queries.step_query.Goals as goal

pub returns-in_err-variables-clause-refused : goal.returns-in_err-variables-clause-refused
returns-in_err-variables-clause-refused c =
    let p = err_from_is_err_and c.from_residual.result c.from_residual.ensures.1 in
    rw (p.1, p.2)
    (refused-as c.step_variables.result c.step_literals.result
    (variables_of c.args.safe.now (Step c.args.inv.now c.args.k))
    (literals_in (clauses_of c.args.safe.now (Step c.args.inv.now c.args.k)))
    c.in_err-variables.field-0.0
    (step-variables c.args.safe.now c.args.inv.now c.args.k _ c.step_variables.ensures)
    (like-after _ _ _ (c.step_literals.ensures
    ∙ ap (λ f. step_literals c.args.safe.now.net f c.args.k) c.as_slice-facts.ensures)
    (step-counted c.args.safe.now c.args.inv.now c.args.k))
    c.in_err-variables.ensures.refused)

pub add_all_apart-requires : goal.add_all_apart-requires
add_all_apart-requires c =
    step-start c.args.safe.now c.args.k c.add_alone.new.cnf.variables
    (c.add_alone.ensures.variables ∙ c.add_goods.ensures.variables
    ∙ c.add_frames.ensures.variables ∙ c.in_ok-cnf.ensures.variables
    ∙ c.in_ok-variables.ensures.variables ∙ c.step_variables.ensures)

pub returns-clause-query : goal.returns-clause-query
returns-clause-query c =
    let variables = step-variables c.args.safe.now c.args.inv.now c.args.k
    c.step_variables.result c.step_variables.ensures in
    let literals = like-after _ _ _ (c.step_literals.ensures
    ∙ ap (λ f. step_literals c.args.safe.now.net f c.args.k) c.as_slice-facts.ensures)
    (step-counted c.args.safe.now c.args.inv.now c.args.k) in
    let goods = c.in_ok-add_goods.ensures.added
    ∙ ap (λ f. c.add_frames.new.cnf.clauses
    ++ for_each (good_clauses c.args.safe.now f) (suc c.args.k)) c.as_slice-facts.ensures in
    record {
      same = ap (λ inv. Step inv c.args.k) c.in_ok-copy.ensures;
      clauses = step-made c.args.safe.now c.args.inv.now c.args.k c.in_ok-cnf.cnf.clauses
          c.add_frames.new.cnf.clauses c.add_goods.new.cnf.clauses c.add_alone.new.cnf.clauses
          c.add_all_apart.new.cnf.clauses c.number_of.result c.in_ok-cnf.ensures.none
          c.in_ok-add_frames.ensures.added goods c.number_of.ensures.number
          c.in_ok-add_alone.ensures.added c.in_ok-add_all_apart.ensures.added;
      variables = c.add_all_apart.ensures.variables ∙ c.add_alone.ensures.variables
          ∙ c.add_goods.ensures.variables ∙ c.add_frames.ensures.variables
          ∙ c.in_ok-cnf.ensures.variables ∙ c.in_ok-variables.ensures.variables ∙ variables;
      within = within-as c.args.safe.now (Step c.args.inv.now c.args.k) c.step_variables.result
          c.step_literals.result variables literals c.in_ok-variables.ensures.within;
    }

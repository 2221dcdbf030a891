use Rattle.std.proofs.Common.{refl, ◌∙◌}
use Rattle.std.proofs.lemmas.Result.{err_from_is_err_and}
use Rattle.cnf_frames.specs.declared.queries.Asked.TheVariants.{Base}
use Rattle.cnf_frames.specs.Queries.{clauses_of, variables_of}
use Rattle.chain_check.specs.FewClauses.{literals_in}
use Rattle.cnf_frames.proofs.Counting.{base-counted}
use Rattle.cnf_frames.proofs.Querying.{like-same, refused-as, within-as, base-made}
use Rattle.cnf_frames.proofs.queries.base_query.Goals as goal

pub returns-in_err-variables-clause-refused : goal.returns-in_err-variables-clause-refused
returns-in_err-variables-clause-refused c =
    let p = err_from_is_err_and c.from_residual.result c.from_residual.ensures.1 in
    rw (p.1, p.2)
    (refused-as c.base_variables.result c.base_literals.result
    (variables_of c.args.safe.now (Base c.args.k))
    (literals_in (clauses_of c.args.safe.now (Base c.args.k))) c.in_err-variables.field-0.0
    c.base_variables.ensures
    (like-same _ _ (c.base_literals.ensures ∙ base-counted c.args.safe.now c.args.k))
    c.in_err-variables.ensures.refused)

pub returns-clause-query : goal.returns-clause-query
returns-clause-query c = record {
  same = refl;
  clauses = base-made c.args.safe.now c.args.k c.in_ok-cnf.cnf.clauses c.add_frames.new.cnf.clauses
      c.add_start.new.cnf.clauses c.add_alone.new.cnf.clauses c.number_of.result
      c.in_ok-cnf.ensures.none c.in_ok-add_frames.ensures.added c.in_ok-add_start.ensures.added
      c.number_of.ensures.number c.in_ok-add_alone.ensures.added;
  variables = c.add_alone.ensures.variables ∙ c.add_start.ensures.variables
      ∙ c.add_frames.ensures.variables ∙ c.in_ok-cnf.ensures.variables
      ∙ c.in_ok-variables.ensures.variables ∙ c.base_variables.ensures;
  within = within-as c.args.safe.now (Base c.args.k) c.base_variables.result
      c.base_literals.result c.base_variables.ensures
      (like-same _ _ (c.base_literals.ensures ∙ base-counted c.args.safe.now c.args.k))
      c.in_ok-variables.ensures.within;
}

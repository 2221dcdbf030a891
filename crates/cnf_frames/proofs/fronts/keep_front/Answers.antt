use Rattle.std.proofs.Common.{◌+◌, ◌*◌, ◌++◌, length, ◌∙◌, ap, arith}
use Rattle.std.proofs.lemmas.Result.{err_from_is_err_and}
use Rattle.aig_net.specs.Nets.{variables}
use Rattle.cnf_frames.specs.declared.queries.Asked.TheVariants.{Keep}
use Rattle.cnf_frames.specs.Counts.{front_literals, rest_literals}
use Rattle.cnf_frames.specs.Queries.{clauses_of, variables_of, facts_clauses, group_of}
use Rattle.chain_check.specs.FewClauses.{literals_in}
use Rattle.cnf_frames.proofs.Querying.{front-made, keep-like, refused-as}
use Rattle.cnf_frames.proofs.fronts.keep_front.Goals as goal

pub returns-in_err-admit-clause-refused : goal.returns-in_err-admit-clause-refused
returns-in_err-admit-clause-refused c =
    let p = err_from_is_err_and c.from_residual.result c.from_residual.ensures.1 in
    let some = c.group_slice-first.ensures ∙ ap (λ f. group_of f 0) c.as_slice-facts.ensures in
    rw (p.1, p.2)
    (refused-as c.keep_variables.result (c.front_literals-literals.result + c.rest_literals.result)
    (variables_of c.args.safe.now (Keep c.args.inv.now 0))
    (literals_in (clauses_of c.args.safe.now (Keep c.args.inv.now 0)))
    c.in_err-admit.field-0.0
    (c.keep_variables.ensures ∙ ap (λ g. 2 * variables c.args.safe.now.net + length g) some)
    (keep-like c.args.safe.now c.args.inv.now 0 c.front_literals-literals.result
    c.rest_literals.result
    (c.front_literals-literals.ensures.count
    ∙ ap (front_literals c.args.safe.now.net) c.as_slice-facts.ensures)
    (c.rest_literals.ensures.count ∙ ap rest_literals some))
    c.in_err-admit.ensures.refused)

pub returns-clause-front : goal.returns-clause-front
returns-clause-front c = record {
  clauses = front-made c.args.safe.now c.args.inv.now c.in_ok-cnf.cnf.clauses
      c.add_frames.new.cnf.clauses c.add_facts.new.cnf.clauses c.in_ok-cnf.ensures.none
      c.in_ok-add_frames.ensures.added
      (c.in_ok-add_facts.ensures.added ∙ ap (λ f. c.add_frames.new.cnf.clauses
      ++ facts_clauses c.args.safe.now.net 0 f) c.as_slice-facts.ensures);
  variables = omega (
    arith,
    c.add_facts.ensures.variables,
    c.add_frames.ensures.variables,
    c.in_ok-cnf.ensures.variables,
    c.variables.ensures.count,
  );
  literals = c.front_literals-literals.ensures.count
      ∙ ap (front_literals c.args.safe.now.net) c.as_slice-facts.ensures;
}

use Rattle.std.proofs.Common.{◌+◌, ◌*◌, ◌++◌, length, List, ◌∙◌, ap, sym, subst, arith, length-append}
use Rattle.std.proofs.lemmas.Result.{err_from_is_err_and}
use Rattle.aig_net.specs.Nets.{variables}
use Rattle.cnf_frames.specs.declared.facts.Fact.{Fact}
use Rattle.cnf_frames.specs.declared.queries.Asked.TheVariants.{Keep}
use Rattle.cnf_frames.specs.Counts.{rest_literals}
use Rattle.cnf_frames.specs.Facts.{AllIn}
use Rattle.cnf_frames.specs.Queries.{clauses_of, variables_of, fails_clauses, group_of}
use Rattle.chain_check.specs.FewClauses.{literals_in, for_each, some_further}
use Rattle.cnf_frames.proofs.Groups.{group-in}
use Rattle.cnf_frames.proofs.Querying.{keep-like, refused-as, rest-made, within-as}
use Rattle.cnf_frames.proofs.fronts.keep_rest.Goals as goal

pub returns-in_err-variables-clause-refused : goal.returns-in_err-variables-clause-refused
returns-in_err-variables-clause-refused c =
    let p = err_from_is_err_and c.from_residual.result c.from_residual.ensures.1 in
    let some = c.group_slice-some.ensures
    ∙ ap (λ f. group_of f c.args.group) c.as_slice.ensures in
    rw (p.1, p.2)
    (refused-as c.keep_variables.result (c.args.front.now.literals + c.rest_literals.result)
    (variables_of c.args.safe.now (Keep c.args.inv.now c.args.group))
    (literals_in (clauses_of c.args.safe.now (Keep c.args.inv.now c.args.group)))
    c.in_err-variables.field-0.0
    (c.keep_variables.ensures ∙ ap (λ g. 2 * variables c.args.safe.now.net + length g) some)
    (keep-like c.args.safe.now c.args.inv.now c.args.group c.args.front.now.literals
    c.rest_literals.result c.requires.front.literals
    (c.rest_literals.ensures.count ∙ ap rest_literals some))
    c.in_err-variables.ensures.refused)

pub add_failings-requires-clause-inside : goal.add_failings-requires-clause-inside
add_failings-requires-clause-inside c =
    let P : List Fact → Type 0 = AllIn (length c.args.safe.now.net.latches) in
    subst P (sym (c.group_slice-some.ensures
    ∙ ap (λ f. group_of f c.args.group) c.as_slice.ensures))
    (group-in (length c.args.safe.now.net.latches) c.args.inv.now c.args.group c.requires.inside)

pub returns-clause-rest : goal.returns-clause-rest
returns-clause-rest c =
    let some = c.group_slice-some.ensures
    ∙ ap (λ f. group_of f c.args.group) c.as_slice.ensures in
    let count = c.keep_variables.ensures
    ∙ ap (λ g. 2 * variables c.args.safe.now.net + length g) some in
    record {
      clauses = rest-made c.args.safe.now c.args.inv.now c.args.group
          c.args.front.now.cnf.clauses c.in_ok-cnf.cnf.clauses c.add_failings.new.cnf.clauses
          c.requires.front.clauses c.in_ok-cnf.ensures.none
          (c.in_ok-add_failings.ensures.added ∙ ap (λ g. c.in_ok-cnf.cnf.clauses
          ++ (for_each (fails_clauses c.args.safe.now.net g) (length g)
          ++ some_further (2 * variables c.args.safe.now.net) (length g))) some);
      variables = c.add_failings.ensures.variables ∙ c.in_ok-cnf.ensures.variables
          ∙ c.in_ok-variables.ensures.variables ∙ count;
      within = within-as c.args.safe.now (Keep c.args.inv.now c.args.group)
          c.keep_variables.result (c.args.front.now.literals + c.rest_literals.result) count
          (keep-like c.args.safe.now c.args.inv.now c.args.group c.args.front.now.literals
          c.rest_literals.result c.requires.front.literals
          (c.rest_literals.ensures.count ∙ ap rest_literals some))
          c.in_ok-variables.ensures.within;
      few = omega (
        arith,
        c.if-clauses-gt-MOST_CLAUSES.false,
        c.len.ensures,
        c.len-2.ensures,
        length-append c.args.front.now.cnf.clauses c.add_failings.new.cnf.clauses,
      );
    }

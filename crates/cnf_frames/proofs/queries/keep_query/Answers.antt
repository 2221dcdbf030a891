use Rattle.std.proofs.Common.{◌+◌, ◌*◌, ◌++◌, length, List, ◌∙◌, ap, sym, subst}
use Rattle.std.proofs.lemmas.Result.{err_from_is_err_and}
use Rattle.aig_net.specs.Nets.{variables}
use Rattle.cnf_frames.specs.declared.facts.Fact.{Fact}
use Rattle.cnf_frames.specs.declared.queries.Asked.TheVariants.{Keep}
use Rattle.cnf_frames.specs.Counts.{keep_literals}
use Rattle.cnf_frames.specs.Facts.{AllIn}
use Rattle.cnf_frames.specs.Queries.{clauses_of, variables_of, facts_clauses, fails_clauses, group_of}
use Rattle.chain_check.specs.FewClauses.{literals_in, for_each, some_further}
use Rattle.cnf_frames.proofs.Counting.{keep-counted}
use Rattle.cnf_frames.proofs.Groups.{group-in}
use Rattle.cnf_frames.proofs.Querying.{like-after, refused-as, within-as, keep-made}
use Rattle.cnf_frames.proofs.queries.keep_query.Goals as goal

pub returns-in_err-variables-clause-refused : goal.returns-in_err-variables-clause-refused
returns-in_err-variables-clause-refused c =
    let p = err_from_is_err_and c.from_residual.result c.from_residual.ensures.1 in
    let some = c.group_slice-some.ensures
    ∙ ap (λ f. group_of f c.args.group) c.as_slice-facts.ensures in
    rw (p.1, p.2)
    (refused-as c.keep_variables.result c.keep_literals.result
    (variables_of c.args.safe.now (Keep c.args.inv.now c.args.group))
    (literals_in (clauses_of c.args.safe.now (Keep c.args.inv.now c.args.group)))
    c.in_err-variables.field-0.0
    (c.keep_variables.ensures ∙ ap (λ g. 2 * variables c.args.safe.now.net + length g) some)
    (like-after _ _ _ (c.keep_literals.ensures
    ∙ ap (λ f. keep_literals c.args.safe.now.net f c.group_slice-some.result.now)
    c.as_slice-facts.ensures
    ∙ ap (keep_literals c.args.safe.now.net c.args.inv.now) some)
    (keep-counted c.args.safe.now c.args.inv.now c.args.group))
    c.in_err-variables.ensures.refused)

pub add_failings-requires-clause-inside : goal.add_failings-requires-clause-inside
add_failings-requires-clause-inside c =
    let P : List Fact → Type 0 = AllIn (length c.args.safe.now.net.latches) in
    subst P (sym (c.group_slice-some.ensures
    ∙ ap (λ f. group_of f c.args.group) c.as_slice-facts.ensures))
    (group-in (length c.args.safe.now.net.latches) c.args.inv.now c.args.group c.requires.inside)

pub returns-clause-query : goal.returns-clause-query
returns-clause-query c =
    let some = c.group_slice-some.ensures
    ∙ ap (λ f. group_of f c.args.group) c.as_slice-facts.ensures in
    let count = c.keep_variables.ensures
    ∙ ap (λ g. 2 * variables c.args.safe.now.net + length g) some in
    let literals = like-after _ _ _ (c.keep_literals.ensures
    ∙ ap (λ f. keep_literals c.args.safe.now.net f c.group_slice-some.result.now)
    c.as_slice-facts.ensures
    ∙ ap (keep_literals c.args.safe.now.net c.args.inv.now) some)
    (keep-counted c.args.safe.now c.args.inv.now c.args.group) in
    record {
      same = ap (λ inv. Keep inv c.args.group) c.in_ok-copy.ensures;
      clauses = keep-made c.args.safe.now c.args.inv.now c.args.group c.in_ok-cnf.cnf.clauses
          c.add_frames.new.cnf.clauses c.add_facts.new.cnf.clauses c.add_failings.new.cnf.clauses
          c.in_ok-cnf.ensures.none c.in_ok-add_frames.ensures.added
          (c.in_ok-add_facts.ensures.added ∙ ap (λ f. c.add_frames.new.cnf.clauses
          ++ facts_clauses c.args.safe.now.net 0 f) c.as_slice-facts.ensures)
          (c.in_ok-add_failings.ensures.added ∙ ap (λ g. c.add_facts.new.cnf.clauses
          ++ (for_each (fails_clauses c.args.safe.now.net g) (length g)
          ++ some_further (2 * variables c.args.safe.now.net) (length g))) some);
      variables = c.add_failings.ensures.variables ∙ c.add_facts.ensures.variables
          ∙ c.add_frames.ensures.variables ∙ c.in_ok-cnf.ensures.variables
          ∙ c.in_ok-variables.ensures.variables ∙ count;
      within = within-as c.args.safe.now (Keep c.args.inv.now c.args.group)
          c.keep_variables.result c.keep_literals.result count literals
          c.in_ok-variables.ensures.within;
    }

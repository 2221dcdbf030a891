use Rattle.hy_formula.specs.Trees.{tree_of}
use Rattle.bound_search.proofs.Outcomes.{satisfied_query, refuted_query, spent_query}
use Rattle.bound_search.proofs.search.search_bound.Goals as goal

pub read_list-requires-clause-met : goal.read_list-requires-clause-met
read_list-requires-clause-met c =
    satisfied_query c.args.bound.now c.requires.bound c.args.f.now.prefix
    (tree_of c.args.f.now.body) c.args.f.now.bound c.args.conflicts c.in_ok-cnf.cnf.variables
    c.in_ok-cnf.cnf.clauses c.in_ok-cnf.ensures.variables c.in_ok-cnf.ensures.clauses
    c.in_ok-values.field-0 c.in-Satisfied.values c.in-Satisfied.is c.in_ok-values.ensures

pub returns-in-Refuted-clause-answer : goal.returns-in-Refuted-clause-answer
returns-in-Refuted-clause-answer c =
    refuted_query c.args.bound.now c.requires.bound c.args.f.now.prefix
    (tree_of c.args.f.now.body) c.args.f.now.bound c.args.conflicts c.in_ok-cnf.cnf.variables
    c.in_ok-cnf.cnf.clauses c.in_ok-cnf.ensures.variables c.in_ok-cnf.ensures.clauses
    c.in_ok-values.field-0 c.in-Refuted.log c.in-Refuted.is c.in_ok-values.ensures

pub returns-in-Spent-clause-answer : goal.returns-in-Spent-clause-answer
returns-in-Spent-clause-answer c =
    spent_query c.args.bound.now c.requires.bound c.args.f.now.prefix
    (tree_of c.args.f.now.body) c.args.f.now.bound c.args.conflicts c.in_ok-cnf.cnf.variables
    c.in_ok-cnf.cnf.clauses c.in_ok-cnf.ensures.variables c.in_ok-cnf.ensures.clauses
    c.in_ok-values.field-0 c.in-Spent.log c.in-Spent.is c.in_ok-values.ensures

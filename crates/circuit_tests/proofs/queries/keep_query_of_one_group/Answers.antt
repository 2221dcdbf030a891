use Rattle.circuit_tests.proofs.Examples.{two-in}
use Rattle.circuit_tests.proofs.queries.keep_query_of_one_group.Goals as goal

pub keep_query-requires-clause-inside : goal.keep_query-requires-clause-inside
keep_query-requires-clause-inside g c =
    two-in _ _ _ _ c.in_ok-safe.ensures.latches c.new-facts.ensures c.in_ok-push.ensures.added
    c.in_ok-push-2.ensures.added

use Rattle.circuit_tests.proofs.Examples.{one-in}
use Rattle.circuit_tests.proofs.queries.step_query_of_two_states.Goals as goal

pub step_query-requires-clause-inside : goal.step_query-requires-clause-inside
step_query-requires-clause-inside g c =
    one-in _ _ _ c.in_ok-safe.ensures.latches c.new-facts.ensures c.in_ok-push.ensures.added

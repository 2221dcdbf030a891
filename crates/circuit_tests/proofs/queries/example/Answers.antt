use Rattle.std.proofs.Common.{[], ◌∷◌, ◌++◌, length, ◌∙◌, ap}
use Rattle.aig_net.specs.declared.parts.Reset.TheVariants.{Zero}
use Rattle.circuit_tests.proofs.Examples.{example-safe}
use Rattle.circuit_tests.proofs.queries.example.Goals as goal

pub returns-clause-safe : goal.returns-clause-safe
returns-clause-safe c =
    let fairs = ap (λ n. n.fairs) c.new-net.ensures in
    example-safe c.new-net.result c.variables.ensures.net (cc)
    (ap (λ n. n.resets) c.new-net.ensures ∙ c.in_ok-push-2.ensures.added
    ∙ ap (λ l. l ++ Zero ∷ []) c.new-resets.ensures)
    (ap (λ n. n.inputs) c.new-net.ensures)
    (ap (λ n. length n.latches) c.new-net.ensures ∙ ap length c.in_ok-push.ensures.added
    ∙ ap (λ l. length (l ++ 3 ∷ [])) c.new-latches.ensures)

use Rattle.std.proofs.Common.{◌≡◌, ◌↔◌, ◌++◌, drop}
use Rattle.chain_check.specs.Chains.{Refutes}
use Rattle.chain_check.proofs.following.refutes.Given as goal

abbrev pub invariant-loop-i : goal.invariant-loop-i
invariant-loop-i l =
    (l.partial.variables ≡ l.initial.partial.variables) ×
    (Refutes (l.given ++ l.learned) l.partial.literals (drop l.i l.chain) ↔
    Refutes (l.given ++ l.learned) l.initial.partial.literals l.chain)

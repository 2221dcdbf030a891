use Rattle.std.proofs.Common.{length}
use Rattle.std.specs.Prelude.{All}
use Rattle.aig_net.specs.Nets.{Below}
use Rattle.lab.proofs.facts.clause_within.Given as goal

abbrev pub invariant-loop-word : goal.invariant-loop-word
invariant-loop-word l = All (Below l.latches) l.literals

abbrev pub decreases-loop-word : goal.decreases-loop-word
decreases-loop-word l = length l.left

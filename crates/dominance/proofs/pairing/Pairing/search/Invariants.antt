use Rattle.std.proofs.Common.{ℕ, ◌<◌}
use Rattle.dominance.specs.Runs.{Differ}
use Rattle.dominance.specs.Seen.{AreEndsOf, pairing_of}
use Rattle.dominance.specs.Trails.{AreLinked, AreReached}
use Rattle.dominance.proofs.Searching.{IsDone}
use Rattle.dominance.proofs.pairing.Pairing.search.Given as goal

abbrev pub invariant-loop-k : goal.invariant-loop-k
invariant-loop-k g l = record {
  linked : AreLinked l.reached.nodes.keys l.reached.links;
  reached : AreReached (pairing_of l.self) l.reached.nodes.keys l.reached.links;
  ends : AreEndsOf (pairing_of l.self) l.ends;
  done : (j : ℕ) → j < l.k → IsDone (pairing_of l.self) (Differ (pairing_of l.self)) l.reached.nodes.keys j;
}

use Rattle.std.proofs.Common.{◌<◌, length}
use Rattle.std.specs.Prelude.{reverse}
use Rattle.dominance.specs.Runs.{Pairing}
use Rattle.dominance.specs.Trails.{AreReached}
use Rattle.dominance.proofs.Reaching.{Leads}
use Rattle.dominance.proofs.reached.Reached.path.Given as goal

abbrev pub invariant-loop-at : goal.invariant-loop-at
invariant-loop-at l = record {
  inside : l.at < length l.self.nodes.keys;
  path : (s : Pairing) → AreReached s l.self.nodes.keys l.self.links
      → Leads s l.self.nodes.keys l.at l.k (reverse l.path);
}

abbrev pub decreases-loop-at : goal.decreases-loop-at
decreases-loop-at l = l.at

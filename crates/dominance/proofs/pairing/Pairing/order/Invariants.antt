use Rattle.dominance.specs.Runs.{Differ, exchanged}
use Rattle.dominance.specs.Seen.{AreEndsOf, pairing_of}
use Rattle.dominance.specs.Trails.{AreLinked, AreReached}
use Rattle.dominance.proofs.Searching.{IsLeftBy}
use Rattle.dominance.proofs.pairing.Pairing.order.Given as goal

abbrev pub invariant-loop-k : goal.invariant-loop-k
invariant-loop-k g l = record {
  linked : AreLinked l.reached.nodes.keys l.reached.links;
  reached : AreReached (pairing_of l.self) l.reached.nodes.keys l.reached.links;
  ends : AreEndsOf (pairing_of l.self) l.ends;
  over : IsLeftBy (pairing_of l.self) (Differ (pairing_of l.self)) l.reached.nodes.keys l.k
      l.fn.claimed.over l.order.over;
  under : IsLeftBy (pairing_of l.self) (Differ (exchanged (pairing_of l.self)))
      l.reached.nodes.keys l.k l.fn.claimed.under l.order.under;
}

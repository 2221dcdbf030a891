use Rattle.dominance.specs.Seen.{pairing_of}
use Rattle.dominance.specs.Trails.{AreLinked, AreReached, Grows, LeadsOn}
use Rattle.dominance.proofs.pairing.Pairing.follow.Given as goal

abbrev pub invariant-loop-choice : goal.invariant-loop-choice
invariant-loop-choice g l = record {
  linked : AreLinked l.reached.nodes.keys l.reached.links;
  reached : AreReached (pairing_of l.self) l.reached.nodes.keys l.reached.links;
  grown : Grows l.fn.reached.nodes.keys l.reached.nodes.keys;
  leads : LeadsOn (pairing_of l.self) l.reached.nodes.keys l.k l.choice;
}

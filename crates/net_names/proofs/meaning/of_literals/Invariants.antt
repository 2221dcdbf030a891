use Rattle.aig_net.specs.Nets.{literal_at}
use Rattle.net_names.specs.Meanings.{Means}
use Rattle.net_names.proofs.MeaningLemmas.{Below}
use Rattle.net_names.proofs.meaning.of_literals.Given as goal

abbrev pub invariant-loop-j : goal.invariant-loop-j
invariant-loop-j l = Means (Below l.names l.name (literal_at l.literals) l.j) l.found

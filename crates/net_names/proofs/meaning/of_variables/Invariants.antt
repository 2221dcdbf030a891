use Rattle.std.proofs.Common.{◌+◌, ◌*◌}
use Rattle.net_names.specs.Meanings.{Means}
use Rattle.net_names.proofs.MeaningLemmas.{Below}
use Rattle.net_names.proofs.meaning.of_variables.Given as goal

abbrev pub invariant-loop-j : goal.invariant-loop-j
invariant-loop-j l = Means (Below l.names l.name (λ j. 2 * (l.first + j)) l.j) l.found

use Rattle.std.proofs.Common.{length}
use Rattle.invar_find.specs.Searches.{IsSearching}
use Rattle.invar_find.proofs.finding.invariants_of.Given as goal

abbrev pub invariant-rounds : goal.invariant-rounds
invariant-rounds l = IsSearching l.safe l.candidates l.conflicts l.facts l.spent

abbrev pub decreases-rounds : goal.decreases-rounds
decreases-rounds l = length l.facts

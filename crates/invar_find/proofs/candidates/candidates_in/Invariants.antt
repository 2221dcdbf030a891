use Rattle.std.proofs.Common.{◌++◌, length}
use Rattle.chain_check.specs.FewClauses.{for_each}
use Rattle.invar_find.specs.Candidates.{single_facts, pairs_with}
use Rattle.invar_find.specs.Parts.{AreThose}
use Rattle.invar_find.specs.Standing.{Stands}
use Rattle.invar_find.proofs.candidates.candidates_in.Given as goal

abbrev pub invariant-loop-j : goal.invariant-loop-j
invariant-loop-j l = AreThose (Stands l.seen) (single_facts l.j) l.made

abbrev pub invariant-loop-j-2 : goal.invariant-loop-j-2
invariant-loop-j-2 l =
    AreThose (Stands l.seen) (single_facts (length l.seen.ones) ++ for_each pairs_with l.j) l.made

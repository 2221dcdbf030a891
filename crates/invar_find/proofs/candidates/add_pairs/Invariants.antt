use Rattle.std.proofs.Common.{[], ◌∷◌}
use Rattle.cnf_frames.specs.declared.facts.Fact.TheVariants.{Same, Differ}
use Rattle.chain_check.specs.FewClauses.{for_each}
use Rattle.invar_find.specs.Standing.{AddsThose, Stands}
use Rattle.invar_find.proofs.candidates.add_pairs.Given as goal

abbrev pub invariant-loop-i : goal.invariant-loop-i
invariant-loop-i l = AddsThose (Stands l.seen) (for_each (λ i. Same i l.j ∷ Differ i l.j ∷ []) l.i)
    l.fn.made l.made

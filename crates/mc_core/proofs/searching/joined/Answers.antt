use Rattle.std.proofs.Common.{[], ◌∷◌, ◌++◌, ap, ◌∙◌}
use Rattle.cnf_frames.specs.declared.facts.Fact.{Fact}
use Rattle.invar_find.proofs.Sublists.{in-more}
use Rattle.mc_core.proofs.searching.joined.Goals as goal

pub loop-clause-preserved : goal.loop-clause-preserved
loop-clause-preserved c =
    in-more c.args.latches c.args.clauses.now
    c.as_slice-clause-items.result.now c.loop-clause.candidates _ c.loop-clause.clause-index
    c.clause-item.result c.requires.clauses c.as_slice-clause-items.ensures
    c.loop-clause.invariant c.loop-clause-test.true c.clause-item.is
    (c.in_ok-push.ensures.added
    ∙ ap (λ (f : Fact). c.loop-clause.candidates ++ f ∷ []) c.in_ok-remake.ensures)

use Rattle.std.proofs.Common.{List, length, subst, sym, ◌∙◌}
use Rattle.cnf_frames.specs.declared.facts.Fact.{Fact}
use Rattle.cnf_frames.specs.Facts.{AllIn}
use Rattle.invar_find.proofs.Sublists.{in-at, in-push}
use Rattle.invar_find.proofs.sifting.basis_of.Goals as goal
use Rattle.invar_find.proofs.sifting.basis_of.Goals.{in-Some+in_ok-push, in_default, then-alive+in_ok-push_copy, else-alive}

pub loop-latch-preserved : goal.loop-latch-preserved
loop-latch-preserved c =
    let I : List Fact → Type 0 = AllIn (length c.args.seen.now.ones) in
    elim c.match-fact_about.branch [
      | in-Some+in_ok-push w ↦
          in-push _ c.loop-latch.basis _ w.in-Some.fact c.loop-latch.invariant w.in-Some.ensures
          (w.basis-is ∙ w.in_ok-push.ensures.added)
      | in_default w ↦ subst I (sym w.basis-is) c.loop-latch.invariant
    ]

pub loop-k-preserved : goal.loop-k-preserved
loop-k-preserved c =
    let I : List Fact → Type 0 = AllIn (length c.args.seen.now.ones) in
    elim c.if-alive.branch [
      | then-alive+in_ok-push_copy w ↦
          in-push _ c.loop-k.basis _ w.at.result.now c.loop-k.invariant
          (in-at _ c.args.seen.now.others c.loop-k.k _ c.requires.others w.at.ensures)
          (w.basis-is ∙ w.in_ok-push_copy.ensures)
      | else-alive w ↦ subst I (sym w.basis-is) c.loop-k.invariant
    ]

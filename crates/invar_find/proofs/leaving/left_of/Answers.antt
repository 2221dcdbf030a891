use Rattle.std.proofs.Common.{◌≡◌, true, false, List, length, refl, sym, ap, subst, arith, ◌∙◌}
use Rattle.cnf_frames.specs.declared.facts.Fact.{Fact}
use Rattle.invar_find.specs.Standing.{others_of}
use Rattle.invar_find.proofs.Leavings.{IsLeaving, added-small, counted-next, leaving-all, leaving-less, leaving-more, leaving-none, other-here}
use Rattle.invar_find.proofs.leaving.left_of.Goals as goal
use Rattle.invar_find.proofs.leaving.left_of.Goals.{then-stands+in_ok-push_copy, else-stands}

pub loop-fact-init : goal.loop-fact-init
loop-fact-init c = leaving-none c.args.seen.now _ _ c.new-left.ensures

pub stands-requires-clause-place : goal.stands-requires-clause-place
stands-requires-clause-place c other =
    (other-here c.args.seen.now c.as_slice-fact-items.result.now c.loop-fact.fact-index
    c.loop-fact.place c.fact-item.result
    (c.requires.others ∙ ap others_of (sym c.as_slice-fact-items.ensures)) c.loop-fact-test.true
    c.fact-item.is c.loop-fact.invariant.counted other).0

pub overflow_add-place : goal.overflow_add-place
overflow_add-place c =
    let small = added-small c.loop-fact.place _ _ _ c.from-place.ensures c.loop-fact.invariant.within in
    omega (arith, small)

pub loop-fact-preserved : goal.loop-fact-preserved
loop-fact-preserved c =
    let others = c.requires.others ∙ ap others_of (sym c.as_slice-fact-items.ensures) in
    elim c.if-stands.branch [
      | then-stands+in_ok-push_copy w ↦
          leaving-more c.args.seen.now c.as_slice-fact-items.result.now c.loop-fact.left _
          c.loop-fact.fact-index c.loop-fact.place _ c.fact-item.result others
          c.loop-fact-test.true c.fact-item.is c.loop-fact.invariant
          (counted-next c.loop-fact.place _ _ c.fact-item.result c.is_other.ensures c.from-place.ensures)
          (w.if-stands.ensures.0 refl) (w.left-is ∙ w.in_ok-push_copy.ensures)
      | else-stands w ↦
          leaving-less c.args.seen.now c.as_slice-fact-items.result.now c.loop-fact.left _
          c.loop-fact.fact-index c.loop-fact.place _ c.fact-item.result others
          c.loop-fact-test.true c.fact-item.is c.loop-fact.invariant
          (counted-next c.loop-fact.place _ _ c.fact-item.result c.is_other.ensures c.from-place.ensures)
          (λ h. let clash : false ≡ true = w.if-stands.ensures.1 h in (cc)) w.left-is
    ]

pub returns : goal.returns
returns c =
    let L : List Fact → Type 0 = λ facts.
    IsLeaving c.args.seen.now facts c.loop-fact.fact-index c.loop-fact.place c.loop-fact.left in
    leaving-all c.args.seen.now c.args.facts.now _ c.loop-fact.fact-index c.loop-fact.place
    c.requires.others (let same = ap length c.as_slice-fact-items.ensures in omega (arith, same))
    (subst L c.as_slice-fact-items.ensures c.loop-fact.invariant)

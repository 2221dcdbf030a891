use Rattle.std.proofs.Common.{not, refl, ap, sym, ◌∙◌, arith}
use Rattle.std.proofs.lemmas.List.Filters.{FiltersInPlace-more_set, FiltersInPlace-more_no}
use Rattle.fin_monitor.proofs.families.drop_with.Goals as goal
use Rattle.fin_monitor.proofs.families.drop_with.Goals.{then-not-within, else-not-within}

pub loop-i-init : goal.loop-i-init
loop-i-init g c =
    record {
      front = sym c.requires.before;
      rest = refl;
      behind = omega arith;
      within = c.requires.inside;
      long = refl;
    }

pub loop-i-preserved : goal.loop-i-preserved
loop-i-preserved g c =
    let inv = c.loop-i.invariant in
    elim c.if-not-within.branch [
      | then-not-within w ↦ rw (w.family-is, w.kept-is) (FiltersInPlace-more_set inv (omega (arith, inv.long, inv.within)) (ap not (sym c.within.ensures ∙ w.if-not-within.true)) c.index.ensures)
      | else-not-within w ↦ rw (w.family-is, w.kept-is) (FiltersInPlace-more_no {x = c.index.result.now} inv (omega (arith, inv.long, inv.within)) (ap not (sym c.within.ensures ∙ w.if-not-within.false)) c.index.ensures)
    ]

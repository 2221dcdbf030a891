use Rattle.std.proofs.Common.{List, IfOk, length, subst, sym, ap, ◌∙◌, arith}
use Rattle.fin_monitor.specs.Duties.{Duty, residual_at}
use Rattle.fin_monitor.specs.Lefts.{kept_lists}
use Rattle.fin_monitor.specs.Reductions.{LeaveAlike}
use Rattle.fin_monitor.proofs.Puts.{list-index}
use Rattle.fin_monitor.proofs.explore.reduced_of.Goals as goal

pub returns : goal.returns
returns g c =
    let P : List Duty → Type 0 = λ l. IfOk c.reduced.result (λ made. LeaveAlike c.args.closure.now.nodes made.items l) in
    subst P (c.deref.ensures.value
    ∙ sym (ap (λ l. residual_at (kept_lists l) c.args.row) (sym c.as_slice.ensures.keys) ∙ list-index c.as_slice.result.now c.args.row c.index-as_slice-row.result (omega (arith, ap length c.as_slice.ensures.keys, c.requires.there)) c.index-as_slice-row.is))
    c.reduced.ensures

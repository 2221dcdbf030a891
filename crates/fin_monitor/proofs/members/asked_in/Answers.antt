use Rattle.std.proofs.Common.{List, subst}
use Rattle.std.proofs.lemmas.List.{take_all}
use Rattle.fin_monitor.specs.Duties.{Duty}
use Rattle.fin_monitor.specs.Lefts.{IsAskedAll}
use Rattle.fin_monitor.proofs.Masks.{all-more}
use Rattle.fin_monitor.proofs.members.asked_in.Goals as goal

pub loop-d-init : goal.loop-d-init
loop-d-init g c = tt

pub loop-d-preserved : goal.loop-d-preserved
loop-d-preserved g c = all-more c.args.masks.now c.args.residual.now c.loop-d.d-index c.d-item.result c.loop-d.mask c.asked_of-mask.result c.loop-d-test.true c.d-item.is c.loop-d.invariant c.asked_of-mask.ensures

pub returns : goal.returns
returns g c =
    let P : List Duty → Type 0 = λ l. IsAskedAll c.args.masks.now l c.loop-d.mask in
    subst P (take_all c.loop-d.d-index c.args.residual.now c.loop-d-test.false) c.loop-d.invariant

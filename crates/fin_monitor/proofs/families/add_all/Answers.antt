use Rattle.std.proofs.Common.{◌++◌, List, subst, arith}
use Rattle.std.proofs.lemmas.List.{take_all}
use Rattle.fin_monitor.specs.Duties.{Duty, AreAlike}
use Rattle.fin_monitor.proofs.FamilySteps.{stands-start, alike-item}
use Rattle.fin_monitor.proofs.families.add_all.Goals as goal

pub loop-d-init : goal.loop-d-init
loop-d-init g c = stands-start c.args.family.now.items c.requires.family

pub loop-d-preserved : goal.loop-d-preserved
loop-d-preserved g c =
    (c.add.ensures.family, alike-item c.loop-d.family.items c.add.new.family.items c.args.family.now.items c.args.list.now c.loop-d.d-index c.d-item.result (omega arith) c.d-item.is c.loop-d.invariant.1 c.in_ok-add.ensures.added)

pub returns-clause-added : goal.returns-clause-added
returns-clause-added g c =
    let P : List Duty → Type 0 = λ l. AreAlike c.loop-d.family.items (c.args.family.now.items ++ l) in
    subst P (take_all c.loop-d.d-index c.args.list.now (omega arith)) c.loop-d.invariant.1

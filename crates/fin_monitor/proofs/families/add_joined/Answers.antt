use Rattle.std.proofs.Common.{◌++◌, List, subst, arith}
use Rattle.std.proofs.lemmas.List.{take_all}
use Rattle.fin_monitor.specs.Duties.{Duty, joined, AreAlike}
use Rattle.fin_monitor.proofs.FamilySteps.{stands-start, alike-joining}
use Rattle.fin_monitor.proofs.families.add_joined.Goals as goal

pub loop-d-init : goal.loop-d-init
loop-d-init g c = stands-start c.args.family.now.items c.requires.family

pub loop-d-preserved : goal.loop-d-preserved
loop-d-preserved g c =
    (c.add_with.ensures.family, alike-joining c.args.other.now c.loop-d.family.items c.add_with.new.family.items c.args.family.now.items c.args.list.now c.loop-d.d-index c.d-item.result (omega arith) c.d-item.is c.loop-d.invariant.1 c.in_ok-add_with.ensures.added)

pub returns-clause-added : goal.returns-clause-added
returns-clause-added g c =
    let P : List Duty → Type 0 = λ l. AreAlike c.loop-d.family.items (c.args.family.now.items ++ joined l c.args.other.now) in
    subst P (take_all c.loop-d.d-index c.args.list.now (omega arith)) c.loop-d.invariant.1

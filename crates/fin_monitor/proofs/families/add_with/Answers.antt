use Rattle.std.proofs.Common.{◌++◌, map, List, sym, ap, ◌∙◌, subst, arith}
use Rattle.std.proofs.lemmas.List.{take_all, append-nil}
use Rattle.fin_monitor.specs.Duties.{Duty, both, AreAlike}
use Rattle.fin_monitor.proofs.FamilySteps.{stands-start, alike-with}
use Rattle.fin_monitor.proofs.families.add_with.Goals as goal

pub loop-e-init : goal.loop-e-init
loop-e-init g c = stands-start c.args.family.now.items c.requires.family

pub loop-e-preserved : goal.loop-e-preserved
loop-e-preserved g c =
    (c.add.ensures.family, alike-with c.args.d.now c.loop-e.family.items c.add.new.family.items c.args.family.now.items c.args.list.now c.loop-e.e-index c.e-item.result c.both.result (omega arith) c.e-item.is c.both.ensures c.loop-e.invariant.1 c.in_ok-add.ensures.added)

pub returns-clause-added : goal.returns-clause-added
returns-clause-added g c =
    let P : List Duty → Type 0 = λ l. AreAlike c.loop-e.family.items (c.args.family.now.items ++ l) in
    subst P (ap (map (both c.args.d.now)) (take_all c.loop-e.e-index c.args.list.now (omega arith)) ∙ sym (append-nil (map (both c.args.d.now) c.args.list.now))) c.loop-e.invariant.1

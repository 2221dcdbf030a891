use Rattle.std.proofs.Common.{◌++◌, List, arith, subst}
use Rattle.fin_monitor.specs.Duties.{Duty, joined, AreAlike}
use Rattle.fin_monitor.proofs.FamilySteps.{alike-singles}
use Rattle.fin_monitor.proofs.lefts.join.Goals as goal

pub returns-then-len-eq1 : goal.returns-then-len-eq1
returns-then-len-eq1 g c =
    alike-singles c.args.list.now c.args.made.now.items c.index-list-0.result c.index.result.now c.both.result (omega (arith, c.if-list-eq1.true)) (omega (arith, c.if-len-eq1.true, c.len.ensures)) c.index-list-0.is c.index.ensures c.both.ensures

pub returns : goal.returns
returns g c =
    let P : List Duty → Type 0 = λ l. AreAlike c.add_joined.new.family.items (l ++ joined c.args.list.now c.deref.result.now) in
    let Q : List Duty → Type 0 = λ l. AreAlike c.add_joined.new.family.items (joined c.args.list.now l) in
    subst Q c.deref.ensures.value (subst P c.new-more.ensures.items c.in_ok-add_joined.ensures.added)

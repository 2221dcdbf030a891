use Rattle.std.proofs.Common.{rules, ◌++◌, List, sym, subst}
use Rattle.fin_monitor.specs.Duties.{Duty, AreAlike}
use Rattle.fin_monitor.specs.Lefts.{IsFamily}
use Rattle.fin_monitor.proofs.Exploring.{on-ok-map}
use Rattle.fin_monitor.proofs.FamilySteps.{family-none}
use Rattle.fin_monitor.proofs.Stepping.{of-two}
use Rattle.fin_monitor.proofs.lefts.disjunction.Goals as goal

pub add_all-requires : goal.add_all-requires
add_all-requires g c = let P : List Duty → Type 0 = IsFamily in (search rules, (c.requires.width, subst P (sym c.requires.none) family-none))

pub returns : goal.returns
returns g c =
    let P : List Duty → Type 0 = λ l. AreAlike c.add_all.new.family.items (l ++ c.args.g.now) in
    on-ok-map c.add_all-2.result c.add_all-2.ensures.added
    (λ added. of-two c.add_all.new.family.items c.add_all-2.new.family.items (c.args.g.now) (c.args.h.now) c.add_all-2.ensures.family (subst P c.requires.none c.in_ok-add_all.ensures.added) added)

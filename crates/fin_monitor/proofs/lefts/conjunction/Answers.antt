use Rattle.std.proofs.Common.{rules, ◌++◌, List, sym, subst}
use Rattle.fin_monitor.specs.Duties.{Duty, joined, AreAlike}
use Rattle.fin_monitor.specs.Lefts.{IsFamily}
use Rattle.fin_monitor.proofs.Exploring.{on-ok-map}
use Rattle.fin_monitor.proofs.FamilySteps.{family-none}
use Rattle.fin_monitor.proofs.Stepping.{of-one}
use Rattle.fin_monitor.proofs.lefts.conjunction.Goals as goal

pub add_joined-requires : goal.add_joined-requires
add_joined-requires g c = let P : List Duty → Type 0 = IsFamily in (search rules, (c.requires.width, subst P (sym c.requires.none) family-none))

pub returns : goal.returns
returns g c =
    let P : List Duty → Type 0 = λ l. AreAlike c.add_joined.new.family.items (l ++ joined c.args.g.now c.args.h.now) in
    on-ok-map c.add_joined.result c.add_joined.ensures.added (λ added. of-one c.add_joined.new.family.items _ c.add_joined.ensures.family (subst P c.requires.none added))

use Rattle.std.proofs.Common.{rules, ◌++◌, ◌∷◌, [], List, sym, subst}
use Rattle.fin_monitor.specs.Duties.{Duty, joined, AreAlike}
use Rattle.fin_monitor.specs.Lefts.{IsFamily}
use Rattle.fin_monitor.proofs.Exploring.{on-ok-map}
use Rattle.fin_monitor.proofs.FamilySteps.{family-none}
use Rattle.fin_monitor.proofs.Stepping.{of-two}
use Rattle.fin_monitor.proofs.lefts.release.Goals as goal

pub add_joined-requires : goal.add_joined-requires
add_joined-requires g c = let P : List Duty → Type 0 = IsFamily in (search rules, (c.requires.width, subst P (sym c.requires.none) family-none))

pub returns : goal.returns
returns g c =
    let P : List Duty → Type 0 = λ l. AreAlike c.add_joined.new.family.items (l ++ joined c.args.h.now c.args.g.now) in
    on-ok-map c.add_with.result c.add_with.ensures.added
    (λ added. of-two c.add_joined.new.family.items c.add_with.new.family.items (joined c.args.h.now c.args.g.now) (joined (c.args.again.now ∷ []) c.args.h.now) c.add_with.ensures.family (subst P c.requires.none c.in_ok-add_joined.ensures.added) added)

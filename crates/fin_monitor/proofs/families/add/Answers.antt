use Rattle.std.proofs.Common.{◌≡◌, ◌≤◌, ℕ, [], ◌∷◌, ◌++◌, Bool, true, false, take, drop, length, List, sym, ap, ◌∙◌, subst, arith, rules}
use Rattle.std.specs.List.{list_any}
use Rattle.hy_base.proofs.Members.{any-from, from-take}
use Rattle.fin_monitor.specs.Duties.{Duty, within, AreAlike}
use Rattle.fin_monitor.specs.Lefts.{IsFamily, IsPlaceFor}
use Rattle.fin_monitor.proofs.FamilySteps.{alike-same, family-kept, family-put, alike-put, front-kept, kept-long}
use Rattle.fin_monitor.proofs.families.add.Goals as goal

-- the place, and whether one before it is within d, of the list that was there
at-list : (seen list : List Duty) (d : Duty) (place : ℕ) → seen ≡ list → IsPlaceFor seen d place → IsPlaceFor list d place
at-list seen list d place e at = let P : List Duty → Type 0 = λ l. IsPlaceFor l d place in subst P e at

asked : (seen list : List Duty) (d : Duty) (place : ℕ) (answer b : Bool) → seen ≡ list → answer ≡ list_any (λ (e : Duty). within e d) (take place seen) → answer ≡ b
    → list_any (λ (e : Duty). within e d) (take place list) ≡ b
asked seen list d place answer b e is was =
    let P : List Duty → Type 0 = λ l. list_any (λ (e : Duty). within e d) (take place l) ≡ b in
    subst P e (sym is ∙ was)

pub returns-then-has_within-clause-added : goal.returns-then-has_within-clause-added
returns-then-has_within-clause-added g c =
    let list : List Duty = c.args.family.now.items in
    let some = asked _ list c.args.d _ _ true c.deref-2.ensures.value c.has_within.ensures c.if-has_within.true in
    let (x, front, w) = any-from (λ (e : Duty). within e c.args.d) (take c.place_for-place.result list) some in
    alike-same list c.args.d (x, from-take list c.place_for-place.result x front, w)

pub drop_with-requires : goal.drop_with-requires
drop_with-requires g c =
    let list : List Duty = c.args.family.now.items in
    let at = at-list _ list c.args.d _ c.deref.ensures.value c.place_for-place.ensures in
    let none = asked _ list c.args.d _ _ false c.deref-2.ensures.value c.has_within.ensures c.if-has_within.false in
    let inside = at.inside in
    let before = front-kept list c.args.d c.requires.family c.place_for-place.result at none in
    search (rules, inside, before)

pub insert-requires : goal.insert-requires
insert-requires g c =
    let list : List Duty = c.args.family.now.items in
    let at = at-list _ list c.args.d _ c.deref.ensures.value c.place_for-place.ensures in
    let none = asked _ list c.args.d _ _ false c.deref-2.ensures.value c.has_within.ensures c.if-has_within.false in
    let P : List Duty → Type 0 = λ l. c.place_for-place.result ≤ length l in
    let le : c.place_for-place.result ≤ length c.drop_with.new.family.items = subst P (sym c.drop_with.ensures) (kept-long list c.args.d c.requires.family c.place_for-place.result at none) in
    omega (arith, le)

pub returns-in_err-insert-clause-family : goal.returns-in_err-insert-clause-family
returns-in_err-insert-clause-family g c =
    let P : List Duty → Type 0 = IsFamily in
    subst P (sym (c.in_err-insert.ensures.items ∙ c.drop_with.ensures)) (family-kept c.args.family.now.items c.args.d c.requires.family)

pub returns-clause-family : goal.returns-clause-family
returns-clause-family g c =
    let list : List Duty = c.args.family.now.items in
    let at = at-list _ list c.args.d _ c.deref.ensures.value c.place_for-place.ensures in
    let none = asked _ list c.args.d _ _ false c.deref-2.ensures.value c.has_within.ensures c.if-has_within.false in
    let P : List Duty → Type 0 = IsFamily in
    subst P (sym (c.in_ok-insert.ensures.items ∙ ap (λ l. take c.place_for-place.result l ++ c.args.d ∷ drop c.place_for-place.result l) c.drop_with.ensures))
    (family-put list c.args.d c.requires.family c.place_for-place.result at none)

pub returns-clause-added : goal.returns-clause-added
returns-clause-added g c =
    let list : List Duty = c.args.family.now.items in
    let at = at-list _ list c.args.d _ c.deref.ensures.value c.place_for-place.ensures in
    let none = asked _ list c.args.d _ _ false c.deref-2.ensures.value c.has_within.ensures c.if-has_within.false in
    let P : List Duty → Type 0 = λ l. AreAlike l (list ++ c.args.d ∷ []) in
    subst P (sym (c.in_ok-insert.ensures.items ∙ ap (λ l. take c.place_for-place.result l ++ c.args.d ∷ drop c.place_for-place.result l) c.drop_with.ensures))
    (alike-put list c.args.d c.requires.family c.place_for-place.result at none)

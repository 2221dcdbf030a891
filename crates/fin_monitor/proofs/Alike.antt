-- Lists of duties that have the same minimal duties.
use Rattle.std.proofs.Common.{◌≡◌, true, List, [], ◌∷◌, ◌++◌, map, inl, inr, subst, ap, ◌∙◌}
use Rattle.std.specs.List.{Contains}
use Rattle.std.specs.FinSet.{union, is_subset}
use Rattle.std.proofs.lemmas.List.Elements.{Contains-append_left, Contains-append_right, Contains-append_cases}
use Rattle.std.proofs.lemmas.Bool.{and_parts, and_from}
use Rattle.hy_base.proofs.Members.{map-from, map-of, contains-here, contains-later, contains-cases, contains-none}
use Rattle.fin_monitor.specs.Duties.{Duty, both, joined, within, Same, Covers, AreAlike}
use Rattle.fin_monitor.proofs.Sets.{subset-itself, subset-through, same-set, union-within}

pub within-itself : (d : Duty) → within d d ≡ true
within-itself d = and_from _ _ (subset-itself d.strong) (subset-itself d.weak)

pub within-through : (d e f : Duty) → within d e ≡ true → within e f ≡ true → within d f ≡ true
within-through d e f p q =
    let (a, b) = and_parts (is_subset d.strong e.strong) (is_subset d.weak e.weak) p in
    let (x, y) = and_parts (is_subset e.strong f.strong) (is_subset e.weak f.weak) q in
    and_from _ _ (subset-through d.strong e.strong f.strong a x) (subset-through d.weak e.weak f.weak b y)

pub within-both : (d e : Duty) → within d e ≡ true → within e d ≡ true → d ≡ e
within-both d e p q =
    let (a, b) = and_parts (is_subset d.strong e.strong) (is_subset d.weak e.weak) p in
    let (x, y) = and_parts (is_subset e.strong d.strong) (is_subset e.weak d.weak) q in
    ap (λ s. let made : Duty = record { strong = s; weak = d.weak } in made) (same-set d.strong e.strong a x)
    ∙ ap (λ w. let made : Duty = record { strong = e.strong; weak = w } in made) (same-set d.weak e.weak b y)

pub covers-itself : (xs : List Duty) → Covers xs xs
covers-itself xs d c = (d, c, within-itself d)

pub covers-through : (xs ys zs : List Duty) → Covers xs ys → Covers ys zs → Covers xs zs
covers-through xs ys zs p q d c =
    let (e, ce, w) = q d c in
    let (f, cf, v) = p e ce in
    (f, cf, within-through f e d v w)

pub alike-through : (xs ys zs : List Duty) → AreAlike xs ys → AreAlike ys zs → AreAlike xs zs
alike-through xs ys zs (p, q) (r, s) = (covers-through xs ys zs p r, covers-through zs ys xs s q)

pub same-alike : (xs ys : List Duty) → Same xs ys → AreAlike xs ys
same-alike xs ys s = (λ d c. (d, (s d).1 c, within-itself d), λ d c. (d, (s d).0 c, within-itself d))

pub covers-append : (xs xs' ys ys' : List Duty) → Covers xs xs' → Covers ys ys' → Covers (xs ++ ys) (xs' ++ ys')
covers-append xs xs' ys ys' p q d c =
    elim (Contains-append_cases xs' ys' d c) [
      | inl h ↦ let (e, ce, w) = p d h in (e, Contains-append_left xs ys e ce, w)
      | inr h ↦ let (e, ce, w) = q d h in (e, Contains-append_right xs ys e ce, w)
    ]

pub alike-append : (xs xs' ys ys' : List Duty) → AreAlike xs xs' → AreAlike ys ys' → AreAlike (xs ++ ys) (xs' ++ ys')
alike-append xs xs' ys ys' (p, q) (r, s) = (covers-append xs xs' ys ys' p r, covers-append xs' xs ys' ys q s)

pub joined-from : (xs ys : List Duty) (d : Duty) → Contains (joined xs ys) d → (x : Duty) × (y : Duty) × Contains xs x × Contains ys y × (both x y ≡ d)
joined-from [] ys d c = absurd (contains-none d c)
joined-from (x ∷ xs) ys d c =
    elim (Contains-append_cases (map (both x) ys) (joined xs ys) d c) [
      | inl h ↦ let (y, cy, e) = map-from (both x) ys d h in (x, y, contains-here x xs, cy, e)
      | inr h ↦ let (z, y, cz, cy, e) = joined-from xs ys d h in (z, y, contains-later x z xs cz, cy, e)
    ]

pub joined-of : (xs ys : List Duty) (x y : Duty) → Contains xs x → Contains ys y → Contains (joined xs ys) (both x y)
joined-of [] ys x y c d = absurd (contains-none x c)
joined-of (z ∷ zs) ys x y c d =
    elim (contains-cases z x zs c) [
      | inl e ↦
          let P : Duty → Type 0 = λ q. Contains (joined (z ∷ zs) ys) (both q y) in
          subst P e (Contains-append_left (map (both z) ys) (joined zs ys) (both z y) (map-of (both z) ys y d))
      | inr later ↦ Contains-append_right (map (both z) ys) (joined zs ys) (both x y) (joined-of zs ys x y later d)
    ]

pub both-within : (x y z w : Duty) → within x z ≡ true → within y w ≡ true → within (both x y) (both z w) ≡ true
both-within x y z w p q =
    let (a, b) = and_parts (is_subset x.strong z.strong) (is_subset x.weak z.weak) p in
    let (c, d) = and_parts (is_subset y.strong w.strong) (is_subset y.weak w.weak) q in
    and_from (is_subset (union x.strong y.strong) (union z.strong w.strong)) (is_subset (union x.weak y.weak) (union z.weak w.weak))
    (union-within x.strong y.strong z.strong w.strong a c) (union-within x.weak y.weak z.weak w.weak b d)

pub covers-joined : (xs xs' ys ys' : List Duty) → Covers xs xs' → Covers ys ys' → Covers (joined xs ys) (joined xs' ys')
covers-joined xs xs' ys ys' p q d c =
    let (x, y, cx, cy, e) = joined-from xs' ys' d c in
    let (z, cz, w) = p x cx in
    let (v, cv, u) = q y cy in
    let P : Duty → Type 0 = λ k. within (both z v) k ≡ true in
    (both z v, joined-of xs ys z v cz cv, subst P e (both-within z v x y w u))

pub alike-joined : (xs xs' ys ys' : List Duty) → AreAlike xs xs' → AreAlike ys ys' → AreAlike (joined xs ys) (joined xs' ys')
alike-joined xs xs' ys ys' (p, q) (r, s) = (covers-joined xs xs' ys ys' p r, covers-joined xs' xs ys' ys q s)

pub alike-itself : (xs : List Duty) → AreAlike xs xs
alike-itself xs = (covers-itself xs, covers-itself xs)

pub alike-back : (xs ys : List Duty) → AreAlike xs ys → AreAlike ys xs
alike-back xs ys (p, q) = (q, p)

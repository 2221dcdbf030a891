-- Minimal duties of a list.
use Rattle.hy_formula.specs.Temporal.{Decided}
use Rattle.std.proofs.Common.{◌≡◌, ◌⊎◌, ◌↔◌, Bool, true, false, not, ◌||◌, List, [], ◌∷◌, ◌++◌, filter, inl, inr, refl, sym, ap, ◌∙◌, subst}
use Rattle.std.specs.List.{Contains}
use Rattle.std.proofs.lemmas.List.Elements.{Contains-push, Contains-push_cases, Contains-append_left}
use Rattle.hy_base.proofs.Members.{filter-from, filter-of, all-from, all-of, contains-here, contains-later, contains-cases, contains-none}
use Rattle.hy_base.proofs.Truths.{implied}
use Rattle.fin_monitor.specs.Duties.{Duty, within, is_least, minimal, Same, Covers, AreAlike}
use Rattle.fin_monitor.proofs.Alike.{within-itself, within-through, within-both}

-- ---- the least ones

least-if : (a b : Bool) → (not a || b) ≡ true → a ≡ true → b ≡ true
least-if true b e h = e
least-if false b e h = absurd (cc)

-- The minimal duties are those within which there is no other.
pub minimal-least : (ds : List Duty) (d : Duty) → Contains (minimal ds) d ↔ (Contains ds d × ((e : Duty) → Contains ds e → within e d ≡ true → e ≡ d))
minimal-least ds d = (there, back)
  where
    there : Contains (minimal ds) d → Contains ds d × ((e : Duty) → Contains ds e → within e d ≡ true → e ≡ d)
    there c =
        let (cd, least) = filter-from (is_least ds) ds d c in
        (cd, λ e ce w. within-both e d w (least-if (within e d) (within d e) (all-from (λ (x : Duty). not (within x d) || within d x) ds least e ce) w))

    back : Contains ds d × ((e : Duty) → Contains ds e → within e d ≡ true → e ≡ d) → Contains (minimal ds) d
    back (c, least) =
        filter-of (is_least ds) ds d c
        (all-of (λ (x : Duty). not (within x d) || within d x) ds
        (λ e ce. implied (within e d) (within d e) (λ w. let P : Duty → Type 0 = λ z. within d z ≡ true in subst P (sym (least e ce w)) (within-itself d))))

pub minimal-from : (ds : List Duty) (d : Duty) → Contains (minimal ds) d → Contains ds d
minimal-from ds d c = ((minimal-least ds d).0 c).0

-- ---- a list in which no duty is within another, by what is added to it

pub record IsApart (list : List Duty) : Type 0 where
  pub apart : (d e : Duty) → Contains list d → Contains list e → within d e ≡ true → d ≡ e

pub not-true : (b : Bool) → not b ≡ true → b ≡ true → ⊥
not-true true e h = cc
not-true false e h = cc

-- a list that is apart, and alike another one, has the minimal ones of it
pub apart-minimal : (list ds : List Duty) → IsApart list → AreAlike list ds → Same list (minimal ds)
apart-minimal list ds is (p, q) d = (there, back)
  where
    there : Contains list d → Contains (minimal ds) d
    there c =
        let (e, ce, w) = q d c in
        let (f, cf, v) = p e ce in
        let same : f ≡ d = is.apart f d cf c (within-through f e d v w) in
        let P : Duty → Type 0 = λ z. within z e ≡ true in
        let eq : e ≡ d = within-both e d w (subst P same v) in
        let Q : Duty → Type 0 = Contains ds in
        (minimal-least ds d).1 (
          subst Q eq ce,
          λ g cg u.
              let (h, ch, t) = p g cg in
              let top : h ≡ d = is.apart h d ch c (within-through h g d t u) in
              let R : Duty → Type 0 = λ z. within z g ≡ true in
              within-both g d u (subst R top t),
        )

    back : Contains (minimal ds) d → Contains list d
    back c =
        let (cd, least) = (minimal-least ds d).0 c in
        let (e, ce, w) = p d cd in
        let (f, cf, v) = q e ce in
        let same : f ≡ d = least f cf (within-through f e d v w) in
        let P : Duty → Type 0 = λ z. within z e ≡ true in
        let Q : Duty → Type 0 = Contains list in
        subst Q (within-both e d w (subst P same v)) ce

-- ---- what is added one after another

-- the duty last, where no one is within it, and without those that it is within
abbrev pub with_duty : List Duty → Duty → List Duty
with_duty list d = filter (λ (e : Duty). not (within d e)) list ++ d ∷ []

pub alike-kept : (list : List Duty) (d : Duty) → Covers (with_duty list d) (list ++ d ∷ [])
alike-kept list d e c =
    elim (Contains-push_cases list d e c) [
      | inr same ↦ (d, Contains-push (filter (λ (x : Duty). not (within d x)) list) d, let P : Duty → Type 0 = λ z. within d z ≡ true in subst P same (within-itself d))
      | inl old ↦ step old (within d e) refl
    ]
  where
    step : Contains list e → (b : Bool) → within d e ≡ b → (x : Duty) × Contains (with_duty list d) x × (within x e ≡ true)
    step old true w = (d, Contains-push (filter (λ (x : Duty). not (within d x)) list) d, w)
    step old false w =
        (e, Contains-append_left (filter (λ (x : Duty). not (within d x)) list) (d ∷ []) e (filter-of (λ (x : Duty). not (within d x)) list e old (ap not w)), within-itself e)

pub kept-alike : (list : List Duty) (d : Duty) → Covers (list ++ d ∷ []) (with_duty list d)
kept-alike list d e c =
    elim (Contains-push_cases (filter (λ (x : Duty). not (within d x)) list) d e c) [
      | inr same ↦ (d, Contains-push list d, let P : Duty → Type 0 = λ z. within d z ≡ true in subst P same (within-itself d))
      | inl old ↦ (e, Contains-append_left list (d ∷ []) e (filter-from (λ (x : Duty). not (within d x)) list e old).0, within-itself e)
    ]

pub apart-kept : (list : List Duty) (d : Duty) → IsApart list → ((e : Duty) → Contains list e → within e d ≡ true → ⊥) → IsApart (with_duty list d)
apart-kept list d is none = record { apart = apart }
  where
    p : Duty → Bool
    p e = not (within d e)

    apart : (x y : Duty) → Contains (with_duty list d) x → Contains (with_duty list d) y → within x y ≡ true → x ≡ y
    apart x y cx cy w = cases (Contains-push_cases (filter (λ (e : Duty). not (within d e)) list) d x cx) (Contains-push_cases (filter (λ (e : Duty). not (within d e)) list) d y cy)
      where
        cases : Contains (filter (λ (e : Duty). not (within d e)) list) x ⊎ (d ≡ x) → Contains (filter (λ (e : Duty). not (within d e)) list) y ⊎ (d ≡ y) → x ≡ y
        cases (inl a) (inl b) = is.apart x y (filter-from (λ (e : Duty). not (within d e)) list x a).0 (filter-from (λ (e : Duty). not (within d e)) list y b).0 w
        cases (inl a) (inr e) = let P : Duty → Type 0 = λ z. within x z ≡ true in absurd (none x (filter-from (λ (e : Duty). not (within d e)) list x a).0 (subst P (sym e) w))
        cases (inr e) (inl b) = let P : Duty → Type 0 = λ z. within z y ≡ true in absurd (not-true (within d y) (filter-from (λ (e : Duty). not (within d e)) list y b).1 (subst P (sym e) w))
        cases (inr e) (inr f) = sym e ∙ f

-- each list has one that is apart and alike
some-within : (list : List Duty) (d : Duty) → Decided ((e : Duty) × Contains list e × (within e d ≡ true))
some-within [] d = inr (λ (e, c, w). contains-none e c)
some-within (x ∷ xs) d = step (within x d) refl (some-within xs d)
  where
    step : (b : Bool) → within x d ≡ b → Decided ((e : Duty) × Contains xs e × (within e d ≡ true)) → Decided ((e : Duty) × Contains (x ∷ xs) e × (within e d ≡ true))
    step true w more = inl (x, contains-here x xs, w)
    step false w (inl (e, c, v)) = inl (e, contains-later x e xs c, v)
    step false w (inr none) =
        inr (λ (e, c, v). elim (contains-cases x e xs c) [ inl same ↦ (let P : Duty → Type 0 = λ z. within z d ≡ true in let wrong : within x d ≡ true = subst P (sym same) v in cc) | inr later ↦ none (e, later, v) ])

apart-some : (ds : List Duty) → (list : List Duty) × IsApart list × AreAlike list ds
apart-some [] = ([], record { apart = λ d e c. absurd (contains-none d c) }, (λ d c. absurd (contains-none d c), λ d c. absurd (contains-none d c)))
apart-some (d ∷ ds) =
    let (list, is, (p, q)) = apart-some ds in
    elim (some-within list d) [
      | inl (e, ce, w) ↦ (
        list,
        is,
        (
          λ x c. elim (contains-cases d x ds c) [ inl same ↦ (let P : Duty → Type 0 = λ z. within e z ≡ true in (e, ce, subst P same w)) | inr later ↦ p x later ],
          λ x c. let (y, cy, v) = q x c in (y, contains-later d y ds cy, v),
        ),
      )
      | inr none ↦ (
        with_duty list d,
        apart-kept list d is (λ e c w. none (e, c, w)),
        (
          λ x c. elim (contains-cases d x ds c) [
            | inl same ↦ let P : Duty → Type 0 = λ z. within d z ≡ true in (d, Contains-push (filter (λ (y : Duty). not (within d y)) list) d, subst P same (within-itself d))
            | inr later ↦
                let (y, cy, v) = p x later in
                let (z, cz, u) = alike-kept list d y (Contains-append_left list (d ∷ []) y cy) in
                (z, cz, within-through z y x u v)
          ],
          λ x c.
              let (y, cy, v) = kept-alike list d x c in
              elim (Contains-push_cases list d y cy) [
                | inl old ↦ let (z, cz, u) = q y old in (z, contains-later d z ds cz, within-through z y x u v)
                | inr same ↦ let P : Duty → Type 0 = λ z. within z x ≡ true in (d, contains-here d ds, subst P (sym same) v)
              ],
        ),
      )
    ]

pub minimal-under : (ds : List Duty) (d : Duty) → Contains ds d → (x : Duty) × Contains (minimal ds) x × (within x d ≡ true)
minimal-under ds d c =
    let (list, is, (p, q)) = apart-some ds in
    let (x, cx, w) = p d c in
    (x, (apart-minimal list ds is (p, q) x).0 cx, w)

pub alike-minimal : (ds : List Duty) → AreAlike (minimal ds) ds
alike-minimal ds = (λ d c. minimal-under ds d c, λ d c. (d, minimal-from ds d c, within-itself d))

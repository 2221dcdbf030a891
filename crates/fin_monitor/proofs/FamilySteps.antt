-- What is added to a family.
use Rattle.std.proofs.Common.{◌≡◌, ◌⊎◌, ◌+◌, ◌<◌, ◌≤◌, ℕ, zero, suc, Bool, true, false, not, cond, List, [], ◌∷◌, ◌++◌, take, drop, filter, map, length, get_or, set, inl, inr, refl, sym, ap, ◌∙◌, subst, arith, append_assoc}
use Rattle.std.specs.List.{Contains, AllWithin, list_any}
use Rattle.std.specs.List.Sorted.{IsPermutation}
use Rattle.std.proofs.lemmas.List.{take_more, take-append-drop, append-nil, map-append, length-take, length-append}
use Rattle.std.proofs.Math.Seq.{take-append_seam, drop-append_seam}
use Rattle.std.proofs.lemmas.List.Elements.{Contains-append_left, Contains-append_cases, Contains-push_cases, filter-append}
use Rattle.std.proofs.lemmas.List.Sorted.{IsPermutation-insert, IsPermutation-to_front, IsPermutation-trans, IsPermutation-sym, Contains-permutation}
use Rattle.hy_base.proofs.Members.{filter-from, from-take, any-of, contains-here, contains-later, contains-cases, contains-none}
use Rattle.hy_formula.specs.Quantifiers.{Each}
use Rattle.hy_formula.proofs.Each.{each-from, each-at, each-filter}
use Rattle.fin_monitor.specs.Duties.{Duty, both, joined, within, minimal, Same, AreAlike}
use Rattle.fin_monitor.specs.Lefts.{kept, precedes, IsAscending, IsFamily, IsPlaceFor}
use Rattle.fin_monitor.proofs.Alike.{within-itself, alike-itself, alike-through, alike-append}
use Rattle.fin_monitor.proofs.Minimal.{IsApart, with_duty, alike-kept, kept-alike, apart-kept, apart-minimal}
use Rattle.fin_monitor.proofs.Order.{within-earlier, precedes-other, same-ascending, ascending-filter, ascending-between}

pub family-kept : (list : List Duty) (d : Duty) → IsFamily list → IsFamily (kept list d)
family-kept list d is =
    record {
      ascending = ascending-filter (λ (e : Duty). not (within d e)) list is.ascending;
      apart = λ x y cx cy w. is.apart x y (filter-from (λ (e : Duty). not (within d e)) list x cx).0 (filter-from (λ (e : Duty). not (within d e)) list y cy).0 w;
    }

-- what holds from one place on up to another, of the front or of the rest
each-front : (P : Duty → Type 0) (xs : List Duty) (n : ℕ) → n ≤ length xs → AllWithin P xs 0 n → Each P (take n xs)
each-front P xs zero le h = tt
each-front P [] (suc n) le h = absurd (omega arith)
each-front P (x ∷ xs) (suc n) le h = (h 0 x (omega arith) (omega arith), each-front P xs n (omega arith) (λ k d low lt. h (suc k) d (omega arith) (omega arith)))

each-rest : (P : Duty → Type 0) (xs : List Duty) (n : ℕ) → AllWithin P xs n (length xs) → Each P (drop n xs)
each-rest P [] zero h = tt
each-rest P [] (suc n) h = tt
each-rest P (x ∷ xs) zero h = (h 0 x (omega arith) (omega arith), each-rest P xs zero (λ k d low lt. h (suc k) d (omega arith) (omega arith)))
each-rest P (x ∷ xs) (suc n) h = each-rest P xs n (λ k d low lt. h (suc k) d (omega arith) (omega arith))

filter-whole : (p : Duty → Bool) (xs : List Duty) → ((e : Duty) → Contains xs e → p e ≡ true) → filter p xs ≡ xs
filter-whole p [] h = refl
filter-whole p (x ∷ xs) h =
    ap (λ b. cond b (x ∷ filter p xs) (filter p xs)) (h x (contains-here x xs))
    ∙ ap (λ l. x ∷ l) (filter-whole p xs (λ e c. h e (contains-later x e xs c)))

module _ (list : List Duty) (d : Duty) (is : IsFamily list) (place : ℕ) (at : IsPlaceFor list d place) (none : list_any (λ (e : Duty). within e d) (take place list) ≡ false) where
  before : (e : Duty) → Contains (take place list) e → precedes d e ≡ false
  before e c = each-at (λ (x : Duty). precedes d x ≡ false) (take place list) e (each-front (λ (x : Duty). precedes d x ≡ false) list place at.inside at.before) c

  behind : Each (λ (e : Duty). precedes d e ≡ true) (drop place list)
  behind = each-rest (λ (e : Duty). precedes d e ≡ true) list place at.behind

  parts : take place list ++ drop place list ≡ list
  parts = take-append-drop place list

  no-within : (e : Duty) → Contains list e → within e d ≡ true → ⊥
  no-within e c w =
      let P : List Duty → Type 0 = λ l. Contains l e in
      elim (Contains-append_cases (take place list) (drop place list) e (subst P (sym parts) c)) [
        | inl front ↦ let some = any-of (λ (x : Duty). within x d) (take place list) e front w in cc
        | inr rest ↦
            let later = each-at (λ (x : Duty). precedes d x ≡ true) (drop place list) e behind rest in
            let earlier = within-earlier e d w in
            cc
      ]

  other : (e : Duty) → Contains list e → ¬ (d ≡ e)
  other e c same = let P : Duty → Type 0 = λ z. within z d ≡ true in no-within e c (subst P same (within-itself d))

  earlier : (e : Duty) → Contains (take place list) e → precedes e d ≡ true
  earlier e c =
      precedes-other e d (λ h. let wrong = before e c in cc) (λ same. other e (from-take list place e c) (sym same))

  pub front-kept : kept (take place list) d ≡ take place list
  front-kept = filter-whole (λ (e : Duty). not (within d e)) (take place list) (λ e c. step e c (within d e) refl)
    where
      step : (e : Duty) → Contains (take place list) e → (b : Bool) → within d e ≡ b → not (within d e) ≡ true
      step e c false w = ap not w
      step e c true w = let no = within-earlier d e w in let yes = earlier e c in absurd (cc)

  kept-parts : kept list d ≡ take place list ++ kept (drop place list) d
  kept-parts =
      ap (λ l. kept l d) (sym parts)
      ∙ filter-append (λ (e : Duty). not (within d e)) (take place list) (drop place list)
      ∙ ap (λ l. l ++ kept (drop place list) d) front-kept

  long : length (take place list) ≡ place
  long = omega (arith, length-take place list, at.inside)

  pub kept-long : place ≤ length (kept list d)
  kept-long = omega (arith, ap (λ (l : List Duty). length l) kept-parts, length-append (take place list) (kept (drop place list) d), long)

  front : take place (kept list d) ≡ take place list
  front =
      ap (take place) kept-parts
      ∙ ap (λ n. take n (take place list ++ kept (drop place list) d)) (sym long)
      ∙ take-append_seam (take place list) (kept (drop place list) d)

  rest : drop place (kept list d) ≡ kept (drop place list) d
  rest =
      ap (drop place) kept-parts
      ∙ ap (λ n. drop n (take place list ++ kept (drop place list) d)) (sym long)
      ∙ drop-append_seam (take place list) (kept (drop place list) d)

  abbrev put : List Duty
  put = take place (kept list d) ++ d ∷ drop place (kept list d)

  moved : IsPermutation (with_duty list d) put
  moved = IsPermutation-trans (with_duty list d) (d ∷ kept list d) put (IsPermutation-to_front (kept list d) d) (IsPermutation-insert (kept list d) place d)

  there : (e : Duty) → Contains (with_duty list d) e → Contains put e
  there e c = Contains-permutation (with_duty list d) put e moved c

  back : (e : Duty) → Contains put e → Contains (with_duty list d) e
  back e c = Contains-permutation put (with_duty list d) e (IsPermutation-sym (with_duty list d) put moved) c

  apart-with : IsApart (with_duty list d)
  apart-with = apart-kept list d (record { apart = is.apart }) no-within

  split : take place (kept list d) ++ drop place (kept list d) ≡ kept list d
  split = take-append-drop place (kept list d)

  pub family-put : IsFamily put
  family-put =
      let P : List Duty → Type 0 = IsAscending in
      let up : IsAscending (take place (kept list d) ++ drop place (kept list d)) = subst P (sym split) (ascending-filter (λ (e : Duty). not (within d e)) list is.ascending) in
      let Q : List Duty → Type 0 = Each (λ (e : Duty). precedes e d ≡ true) in
      let R : List Duty → Type 0 = Each (λ (e : Duty). precedes d e ≡ true) in
      record {
        ascending = ascending-between (take place (kept list d)) (drop place (kept list d)) d up
            (subst Q (sym front) (each-from (λ (e : Duty). precedes e d ≡ true) (take place list) earlier))
            (subst R (sym rest) (each-filter (λ (e : Duty). precedes d e ≡ true) (λ (e : Duty). not (within d e)) (drop place list) behind));
        apart = λ x y cx cy w. apart-with.apart x y (back x cx) (back y cy) w;
      }

  pub alike-put : AreAlike put (list ++ d ∷ [])
  alike-put = (
    λ e c. let (x, cx, w) = alike-kept list d e c in (x, there x cx, w),
    λ e c. kept-alike list d e (back e c),
  )

-- where one is within it, the list is as good
pub alike-same : (list : List Duty) (d : Duty) → (x : Duty) × Contains list x × (within x d ≡ true) → AreAlike list (list ++ d ∷ [])
alike-same list d (x, c, w) = (
  λ e ce. covered e (Contains-push_cases list d e ce),
  λ e ce. (e, Contains-append_left list (d ∷ []) e ce, within-itself e),
)
  where
    covered : (e : Duty) → Contains list e ⊎ (d ≡ e) → (y : Duty) × Contains list y × (within y e ≡ true)
    covered e (inl old) = (e, old, within-itself e)
    covered e (inr same) = let P : Duty → Type 0 = λ z. within x z ≡ true in (x, c, subst P same w)

-- ---- lists of duties that are added one after another

pub alike-more : (f f' base xs ys : List Duty) → AreAlike f (base ++ xs) → AreAlike f' (f ++ ys) → AreAlike f' (base ++ (xs ++ ys))
alike-more f f' base xs ys a b =
    let P : List Duty → Type 0 = AreAlike f' in
    subst P (append_assoc base xs ys) (alike-through f' (f ++ ys) ((base ++ xs) ++ ys) b (alike-append f (base ++ xs) ys ys a (alike-itself ys)))

alike-nothing : (f : List Duty) → AreAlike f (f ++ [])
alike-nothing f = let P : List Duty → Type 0 = AreAlike f in subst P (sym (append-nil f)) (alike-itself f)

-- a family that is alike a list
abbrev pub Stands : List Duty → List Duty → Type 0
Stands family list = IsFamily family × AreAlike family list

pub stands-start : (f : List Duty) → IsFamily f → Stands f (f ++ [])
stands-start f is = (is, alike-nothing f)

pub joined-append : (xs ys zs : List Duty) → joined (xs ++ ys) zs ≡ joined xs zs ++ joined ys zs
joined-append [] ys zs = refl
joined-append (x ∷ xs) ys zs = ap (λ l. map (both x) zs ++ l) (joined-append xs ys zs) ∙ sym (append_assoc (map (both x) zs) (joined xs zs) (joined ys zs))

-- a family that is alike a list has its minimal duties
pub family-minimal : (list ds : List Duty) → IsFamily list → AreAlike list ds → Same list (minimal ds)
family-minimal list ds is alike = apart-minimal list ds (record { apart = is.apart }) alike

-- and is the only one
pub same-family : (xs ys : List Duty) → IsFamily xs → IsFamily ys → Same xs ys → xs ≡ ys
same-family xs ys p q same = same-ascending xs ys p.ascending q.ascending same

pub family-none : IsFamily []
family-none = record { ascending = tt; apart = λ d e c. absurd (contains-none d c) }

pub family-single : (d : Duty) → IsFamily (d ∷ [])
family-single d = record { ascending = (tt, tt); apart = λ x y cx cy w. sym (one x cx) ∙ one y cy }
  where
    one : (x : Duty) → Contains (d ∷ []) x → d ≡ x
    one x c = elim (contains-cases d x [] c) [ inl e ↦ e | inr more ↦ absurd (contains-none x more) ]

-- ---- one element more

pub alike-item : (f f' base list : List Duty) (i : ℕ) (x : Duty) → i < length list → x ≡ get_or list i x
    → AreAlike f (base ++ take i list) → AreAlike f' (f ++ x ∷ []) → AreAlike f' (base ++ take (i + 1) list)
alike-item f f' base list i x lt is a b =
    let P : List Duty → Type 0 = λ l. AreAlike f' (base ++ l) in
    subst P (ap (λ y. take i list ++ y ∷ []) is ∙ sym (take_more list i x lt)) (alike-more f f' base (take i list) (x ∷ []) a b)

pub alike-with : (d : Duty) (f f' base list : List Duty) (i : ℕ) (x y : Duty) → i < length list → x ≡ get_or list i x → y ≡ both d x
    → AreAlike f (base ++ map (both d) (take i list)) → AreAlike f' (f ++ y ∷ []) → AreAlike f' (base ++ map (both d) (take (i + 1) list))
alike-with d f f' base list i x y lt is made a b =
    let P : List Duty → Type 0 = λ l. AreAlike f' (base ++ l) in
    let e : map (both d) (take i list) ++ y ∷ [] ≡ map (both d) (take (i + 1) list) =
    ap (λ z. map (both d) (take i list) ++ z ∷ []) (made ∙ ap (both d) is) ∙ sym (map-append (both d) (take i list) (get_or list i x ∷ [])) ∙ ap (map (both d)) (sym (take_more list i x lt)) in
    subst P e (alike-more f f' base (map (both d) (take i list)) (y ∷ []) a b)

pub alike-joining : (other f f' base list : List Duty) (i : ℕ) (x : Duty) → i < length list → x ≡ get_or list i x
    → AreAlike f (base ++ joined (take i list) other) → AreAlike f' (f ++ joined (x ∷ []) other) → AreAlike f' (base ++ joined (take (i + 1) list) other)
alike-joining other f f' base list i x lt is a b =
    let P : List Duty → Type 0 = λ l. AreAlike f' (base ++ l) in
    let e : joined (take i list) other ++ joined (x ∷ []) other ≡ joined (take (i + 1) list) other =
    sym (joined-append (take i list) (x ∷ []) other) ∙ ap (λ l. joined l other) (ap (λ y. take i list ++ y ∷ []) is ∙ sym (take_more list i x lt)) in
    subst P e (alike-more f f' base (joined (take i list) other) (joined (x ∷ []) other) a b)

-- one duty and one
pub alike-singles : (xs ys : List Duty) (x y d : Duty) → length xs ≡ 1 → length ys ≡ 1 → x ≡ get_or xs 0 x → y ≡ get_or ys 0 y → d ≡ both x y → AreAlike (set ys 0 d) (joined xs ys)
alike-singles [] ys x y d one only p q e = absurd (omega (arith, one))
alike-singles (a ∷ b ∷ xs) ys x y d one only p q e = absurd (omega (arith, one))
alike-singles (a ∷ []) [] x y d one only p q e = absurd (omega (arith, only))
alike-singles (a ∷ []) (b ∷ c ∷ ys) x y d one only p q e = absurd (omega (arith, only))
alike-singles (a ∷ []) (b ∷ []) x y d one only p q e =
    let P : Duty → Type 0 = λ z. AreAlike (z ∷ []) (both a b ∷ []) in
    let same : d ≡ both a b = e ∙ (λ i. both (p i) (q i)) in
    subst P (sym same) (alike-itself (both a b ∷ []))

-- The leaders of a list by those of what is seen of its members, where this alone decides which is
-- over which: the same numbers.
use Rattle.std.proofs.Common.{◌≡◌, ◌↔◌, ℕ, zero, suc, ◌<◌, List, [], ◌∷◌, length, map, slice_index_or, refl, sym, ap, subst, arith}
use Rattle.std.specs.List.{Contains}
use Rattle.hy_base.proofs.Members.{map-of, map-from}
use Rattle.hy_formula.specs.Quantifiers.{Each}
use Rattle.dominance.specs.Leaders.{IsAt, IsLeader, Numbered, numbered, IsAscending, AreLeaders}

-- the member of a list with the number of one that is seen
abbrev pub member : {A : Type 0} → List A → Numbered A → Numbered A
member list x = numbered x.number (slice_index_or list x.number x.item)

module _ {A : Type 0} (f : A → A) (Over : A → A → Type 0)
    (alike : (t u : A) → Over t u ↔ Over (f t) (f u)) where
  -- ---- places

  at-seen : (list : List A) (k : ℕ) (t : A) → IsAt list k t → IsAt (map f list) k (f t)
  at-seen [] k t (lt, e) = absurd (omega arith)
  at-seen (x ∷ xs) zero t (lt, e) = (omega arith, ap f e)
  at-seen (x ∷ xs) (suc k) t (lt, e) =
      let (lt', e') = at-seen xs k t (omega arith, e) in (omega arith, e')

  -- what is there, with whatever default
  there : (list : List A) (k : ℕ) (d : A) → k < length list → IsAt list k (slice_index_or list k d)
  there [] k d lt = absurd (omega arith)
  there (x ∷ xs) zero d lt = (omega arith, refl)
  there (x ∷ xs) (suc k) d lt = let (lt', e) = there xs k d (omega arith) in (omega arith, e)

  is-there : (list : List A) (k : ℕ) (t d : A) → IsAt list k t → slice_index_or list k d ≡ t
  is-there [] k t d (lt, e) = absurd (omega arith)
  is-there (x ∷ xs) zero t d (lt, e) = e
  is-there (x ∷ xs) (suc k) t d (lt, e) = is-there xs k t d (omega arith, e)

  -- a member that is seen so
  seen-at : (list : List A) (k : ℕ) (u : A) → IsAt (map f list) k u
      → (t : A) × IsAt list k t × (f t ≡ u)
  seen-at [] k u (lt, e) = absurd (omega arith)
  seen-at (x ∷ xs) zero u (lt, e) = (x, (omega arith, refl), e)
  seen-at (x ∷ xs) (suc k) u (lt, e) =
      let (t, (lt', e'), same) = seen-at xs k u (omega arith, e) in (t, (omega arith, e'), same)

  -- ---- leaders

  to-seen : (list : List A) (k : ℕ) (t : A) → IsLeader Over list k t
      → IsLeader Over (map f list) k (f t)
  to-seen list k t is = record {
    there = at-seen list k t is.there;
    top = λ j v at over.
        let (u, at_u, e) = seen-at list j v at in
        let P : A → Type 0 = λ w. Over w (f t) in
        let Q : A → Type 0 = Over (f t) in
        subst Q e ((alike t u).0 (is.top j u at_u ((alike u t).1 (subst P (sym e) over))));
    first = λ j v lt at over back.
        let (u, at_u, e) = seen-at list j v at in
        let P : A → Type 0 = λ w. Over w (f t) in
        let Q : A → Type 0 = Over (f t) in
        is.first j u lt at_u ((alike u t).1 (subst P (sym e) over))
        ((alike t u).1 (subst Q (sym e) back));
  }

  from-seen : (list : List A) (k : ℕ) (t : A) → IsAt list k t → IsLeader Over (map f list) k (f t)
      → IsLeader Over list k t
  from-seen list k t at is = record {
    there = at;
    top = λ j u at_u over.
        (alike t u).1 (is.top j (f u) (at-seen list j u at_u) ((alike u t).0 over));
    first = λ j u lt at_u over back.
        is.first j (f u) lt (at-seen list j u at_u) ((alike u t).0 over) ((alike t u).0 back);
  }

  ascending : (list : List A) (kept : List (Numbered A)) → IsAscending kept
      → IsAscending (map (member list) kept)
  ascending list [] h = tt
  ascending list (x ∷ xs) (above, h) = (by xs above, ascending list xs h)
    where
      by : (ys : List (Numbered A)) → Each (λ (y : Numbered A). x.number < y.number) ys
          → Each (λ (y : Numbered A). x.number < y.number) (map (member list) ys)
      by [] e = tt
      by (y ∷ ys) (here, e) = (here, by ys e)

  module _ (list : List A) (kept : List (Numbered A)) (are : AreLeaders Over (map f list) kept) where
    seen-item : (x : Numbered A) → Contains kept x → (t : A) × IsAt list x.number t × (f t ≡ x.item)
    seen-item x c = seen-at list x.number x.item ((are.exact x.number x.item).0 c).there

    leads : (k : ℕ) (t : A) → Contains (map (member list) kept) (numbered k t)
        → IsLeader Over list k t
    leads k t c =
        let (x, d, e) = map-from (member list) kept (numbered k t) c in
        let (u, at, same) = seen-item x d in
        let P : A → Type 0 = IsLeader Over (map f list) x.number in
        let Q : Numbered A → Type 0 = λ y. IsLeader Over list y.number y.item in
        let item : u ≡ slice_index_or list x.number x.item =
        sym (is-there list x.number u x.item at) in
        let R : A → Type 0 = IsLeader Over list x.number in
        subst Q e (subst R item (from-seen list x.number u at
        (subst P (sym same) ((are.exact x.number x.item).0 d))))

    led : (k : ℕ) (t : A) → IsLeader Over list k t
        → Contains (map (member list) kept) (numbered k t)
    led k t is =
        let c = (are.exact k (f t)).1 (to-seen list k t is) in
        let P : A → Type 0 = λ u. Contains (map (member list) kept) (numbered k u) in
        subst P (is-there list k t (f t) is.there) (map-of (member list) kept (numbered k (f t)) c)

    pub unmasked-leaders : AreLeaders Over list (map (member list) kept)
    unmasked-leaders = record {
      ascending = ascending list kept are.ascending;
      exact = λ k t. (leads k t, led k t);
      covers = λ k t at.
          let (x, c, over) = are.covers k (f t) (at-seen list k t at) in
          let (u, at_u, same) = seen-item x c in
          let P : A → Type 0 = λ v. Over v (f t) in
          let Q : A → Type 0 = λ v. Over v t in (
            member list x,
            map-of (member list) kept x c,
            subst Q (sym (is-there list x.number u x.item at_u))
                ((alike u t).1 (subst P (sym same) over)),
          );
    }

-- What the arrivals leave kept are the leaders.
use Rattle.std.proofs.Common.{◌≡◌, ℕ, suc, ◌<◌, Bool, true, false, not, cond, List, [], ◌∷◌, ◌++◌, length, inl, inr, refl, sym, ap, ◌∙◌, subst, arith, length-append, append_assoc, append-nil}
use Rattle.std.specs.List.{Contains, list_any, filter}
use Rattle.std.proofs.lemmas.Bool.{cases_lt, cases_Bool}
use Rattle.std.proofs.lemmas.List.Elements.{Contains-push_cases, Contains-append_left, Contains-push}
use Rattle.hy_base.proofs.Members.{contains-none, filter-from, filter-of, any-from, any-of}
use Rattle.hy_base.proofs.Truths.{not-of}
use Rattle.hy_formula.specs.Quantifiers.{Each}
use Rattle.hy_formula.proofs.Each.{each-filter, each-from, each-append}
use Rattle.dominance.specs.Leaders.{IsAt, IsLeader, Numbered, numbered, IsAscending, AreLeaders, kept_by, TestKept, kept_with, kept_from, leaders, Tests}
use Rattle.dominance.proofs.Elements.{at-one, at-push_old, at-push_new, at-push_cases, not-true}

ascending-filter : {A : Type 0} (p : Numbered A → Bool) (kept : List (Numbered A))
    → IsAscending kept → IsAscending (filter p kept)
ascending-filter p [] h = tt
ascending-filter {A} p (x ∷ xs) (here, h) = step (ascending-filter p xs h) (p x)
  where
    step : IsAscending (filter p xs) → (b : Bool)
        → IsAscending (cond b (x ∷ filter p xs) (filter p xs))
    step more true = (each-filter (λ (y : Numbered A). x.number < y.number) p xs here, more)
    step more false = more

ascending-push : {A : Type 0} (kept : List (Numbered A)) (x : Numbered A) → IsAscending kept
    → Each (λ y. y.number < x.number) kept → IsAscending (kept ++ x ∷ [])
ascending-push [] x h below = (tt, tt)
ascending-push {A} (y ∷ ys) x (here, h) (lt, below) = (
  each-append (λ (z : Numbered A). y.number < z.number) ys (x ∷ []) here (lt, tt),
  ascending-push ys x h below,
)

module _ {A : Type 0} (Over : A → A → Type 0) (itself : (t : A) → Over t t)
    (through : (t u v : A) → Over t u → Over u v → Over t v) where
  module _ (list : List A) (t : A) where
    -- a leader stays one where the new member is not over it, or is under it
    leader-stays : (k : ℕ) (u : A) → IsLeader Over list k u → (Over t u → Over u t)
        → IsLeader Over (list ++ t ∷ []) k u
    leader-stays k u l under = record {
      there = at-push_old list t k u l.there;
      top = λ j v at o. elim (at-push_cases list t j v at) [
        | inl old ↦ l.top j v old o
        | inr (_, e) ↦ let P : A → Type 0 = Over u in
            subst P e (under (let Q : A → Type 0 = λ q. Over q u in subst Q (sym e) o))
      ];
      first = λ j v lt at o. elim (at-push_cases list t j v at) [
        | inl old ↦ l.first j v lt old o
        | inr (same, e) ↦ let inside : k < length list = l.there.0 in absurd (omega arith)
      ];
    }

    -- and a leader that is not the last one was one before
    leader-was : (k : ℕ) (u : A) → IsLeader Over (list ++ t ∷ []) k u → IsAt list k u
        → IsLeader Over list k u × (Over t u → Over u t)
    leader-was k u l at = (
      record {
        there = at;
        top = λ j v at' o. l.top j v (at-push_old list t j v at') o;
        first = λ j v lt at' o. l.first j v lt (at-push_old list t j v at') o;
      },
      λ o. l.top (length list) t (at-push_new list t) o,
    )

    module _ (kept : List (Numbered A)) (is : AreLeaders Over list kept) where
      -- a kept one is over the new one
      pub refused-new : (x : Numbered A) → Contains kept x → Over x.item t
          → AreLeaders Over (list ++ t ∷ []) kept
      refused-new x c o = record {
        ascending = is.ascending;
        exact = λ k u. (sound k u, complete k u);
        covers = λ k u at. elim (at-push_cases list t k u at) [
          | inl old ↦ is.covers k u old
          | inr (_, e) ↦ (x, c, let P : A → Type 0 = Over x.item in subst P e o)
        ];
      }
        where
          sound : (k : ℕ) (u : A) → Contains kept (numbered k u)
              → IsLeader Over (list ++ t ∷ []) k u
          sound k u cu =
              let l = (is.exact k u).0 cu in
              leader-stays k u l (λ tu. let lx = (is.exact x.number x.item).0 c in
              through u x.item t (l.top x.number x.item lx.there (through x.item t u o tu)) o)

          complete : (k : ℕ) (u : A) → IsLeader Over (list ++ t ∷ []) k u
              → Contains kept (numbered k u)
          complete k u l =
              elim (at-push_cases list t k u l.there) [
                | inl old ↦ (is.exact k u).1 (leader-was k u l old).0
                | inr (same, e) ↦
                    let lx = (is.exact x.number x.item).0 c in
                    let inside : x.number < length list = lx.there.0 in
                    let P : A → Type 0 = Over x.item in
                    let o' : Over x.item u = subst P e o in
                    let at' = at-push_old list t x.number x.item lx.there in
                    absurd (l.first x.number x.item (omega arith) at' o'
                    (l.top x.number x.item at' o'))
              ]

      -- no kept one is over the new one, so none is
      module _ (above under : Numbered A → Bool) (tests : TestKept Over kept t above under)
          (none : (x : Numbered A) → Contains kept x → ¬ Over x.item t) where
        none-over : (k : ℕ) (u : A) → IsAt list k u → ¬ Over u t
        none-over k u at o = let (x, c, ox) = is.covers k u at in none x c (through x.item u t ox o)

        taken-new : AreLeaders Over (list ++ t ∷ [])
            (filter (λ (y : Numbered A). not (under y)) kept ++ numbered (length list) t ∷ [])
        taken-new = record {
          ascending = ascending;
          exact = λ k u. (λ c. sound (numbered k u) c, complete k u);
          covers = covers;
        }
          where
            ascending : IsAscending (filter (λ (y : Numbered A). not (under y)) kept
                ++ numbered (length list) t ∷ [])
            ascending =
                ascending-push (filter (λ (y : Numbered A). not (under y)) kept)
                (numbered (length list) t)
                (ascending-filter (λ (y : Numbered A). not (under y)) kept is.ascending)
                (each-filter (λ y. y.number < length list) (λ (y : Numbered A). not (under y)) kept (each-from (λ y. y.number < length list) kept
                (λ x c. ((is.exact x.number x.item).0 c).there.0)))

            sound : (x : Numbered A)
                → Contains (filter (λ (y : Numbered A). not (under y)) kept
                ++ numbered (length list) t ∷ []) x → IsLeader Over (list ++ t ∷ []) x.number x.item
            sound x c =
                elim (Contains-push_cases (filter (λ (y : Numbered A). not (under y)) kept)
                (numbered (length list) t) x c) [
                  | inl old ↦
                      let (cx, e) = filter-from (λ (y : Numbered A). not (under y)) kept x old in
                      leader-stays x.number x.item ((is.exact x.number x.item).0 cx)
                      (λ o. absurd (not-true (under x) e ((tests.under_right x cx).1 o)))
                  | inr same ↦
                      let P : Numbered A → Type 0 =
                      λ q. IsLeader Over (list ++ t ∷ []) q.number q.item in
                      subst P same (record {
                        there = at-push_new list t;
                        top = λ j v at o. elim (at-push_cases list t j v at) [
                          | inl old ↦
                              absurd (none-over j v old o)
                          | inr (_, e) ↦ let Q : A → Type 0 =
                              Over t in subst Q e (itself t)
                        ];
                        first = λ j v lt at o. elim (at-push_cases list t j v at) [
                          | inl old ↦
                              absurd (none-over j v old o)
                          | inr (s, e) ↦ absurd (omega arith)
                        ];
                      })
                ]

            complete : (k : ℕ) (u : A) → IsLeader Over (list ++ t ∷ []) k u
                → Contains (filter (λ (y : Numbered A). not (under y)) kept
                ++ numbered (length list) t ∷ []) (numbered k u)
            complete k u l =
                elim (at-push_cases list t k u l.there) [
                  | inl old ↦
                      let (was, below) = leader-was k u l old in
                      Contains-append_left (filter (λ (y : Numbered A). not (under y)) kept)
                      (numbered (length list) t ∷ []) (numbered k u)
                      (filter-of (λ (y : Numbered A). not (under y)) kept (numbered k u)
                      ((is.exact k u).1 was)
                      (not-of (under (numbered k u))
                      (λ o. none-over k u old
                      (below ((tests.under_right (numbered k u) ((is.exact k u).1 was)).0 o)))))
                  | inr (same, e) ↦
                      let P : Numbered A → Type 0 =
                      Contains (filter (λ (y : Numbered A). not (under y)) kept
                      ++ numbered (length list) t ∷ []) in
                      let eq : numbered (length list) t ≡ numbered k u =
                      ap (λ q. numbered q t) (sym same) ∙ ap (numbered k) e in
                      subst P eq (Contains-push (filter (λ (y : Numbered A). not (under y)) kept)
                      (numbered (length list) t))
                ]

            covers : (k : ℕ) (u : A) → IsAt (list ++ t ∷ []) k u → (x : Numbered A)
                × Contains (filter (λ (y : Numbered A). not (under y)) kept
                ++ numbered (length list) t ∷ []) x × Over x.item u
            covers k u at =
                elim (at-push_cases list t k u at) [
                  | inl old ↦
                      let (x, c, o) = is.covers k u old in
                      elim (cases_Bool (under x)) [
                        | inl gone ↦ (
                          numbered (length list) t,
                          Contains-push _ _,
                          through t x.item u ((tests.under_right x c).0 gone) o,
                        )
                        | inr kept_one ↦ (
                          x,
                          Contains-append_left _ _ x
                              (filter-of (λ (y : Numbered A). not (under y)) kept x c
                              (ap not kept_one)),
                          o,
                        )
                      ]
                  | inr (_, e) ↦ (
                    numbered (length list) t,
                    Contains-push _ _,
                    let Q : A → Type 0 =
                        Over t in subst Q e (itself t),
                  )
                ]

      pub kept-step : (above under : Numbered A → Bool) → TestKept Over kept t above under
          → AreLeaders Over (list ++ t ∷ []) (kept_by above under kept (numbered (length list) t))
      kept-step above under tests = cases (list_any above kept) refl
        where
          cases : (b : Bool) → list_any above kept ≡ b
              → AreLeaders Over (list ++ t ∷ [])
              (cond b kept (filter (λ (y : Numbered A). not (under y)) kept
              ++ numbered (length list) t ∷ []))
          cases true e = let (x, c, o) = any-from above kept e in
              refused-new x c ((tests.above_right x c).0 o)
          cases false e = taken-new above under tests
              (λ x c o. let f : list_any above kept ≡ true =
              any-of above kept x c ((tests.above_right x c).1 o) in cc)

  pub none-kept : AreLeaders Over [] []
  none-kept = record {
    ascending = tt;
    exact = λ k t. (
      λ c. absurd (contains-none (numbered k t) c),
      λ l. absurd (let at : k < 0 = l.there.0 in omega arith),
    );
    covers = λ k t (lt, e). absurd (omega arith);
  }

  -- no kept one is over another
  pub kept-apart : (list : List A) (kept : List (Numbered A)) → AreLeaders Over list kept
      → (x y : Numbered A) → Contains kept x → Contains kept y → Over x.item y.item → x ≡ y
  kept-apart list kept is x y cx cy o =
      let lx = (is.exact x.number x.item).0 cx in
      let ly = (is.exact y.number y.item).0 cy in
      let back : Over y.item x.item = ly.top x.number x.item lx.there o in
      elim (cases_lt x.number y.number) [
        | inl lt ↦ absurd (ly.first x.number x.item lt lx.there o back)
        | inr le ↦
            elim (cases_lt y.number x.number) [
              | inl lt ↦ absurd (lx.first y.number y.item lt ly.there back o)
              | inr ge ↦
                  let same : x.number ≡ y.number = omega arith in
                  let P : ℕ → Type 0 = λ k. IsAt list k y.item in
                  let item : x.item ≡ y.item = at-one list x.number x.item y.item lx.there
                  (subst P (sym same) ly.there) in
                  ap (λ k. numbered k x.item) same ∙ ap (numbered y.number) item
            ]
      ]

  -- by a test of all pairs
  module _ (over : A → A → Bool) (tests : Tests over Over) where
    test-kept : (kept : List (Numbered A)) (t : A)
        → TestKept Over kept t (λ (y : Numbered A). over y.item t)
        (λ (y : Numbered A). over t y.item)
    test-kept kept t = record {
      above_right = λ x c. tests x.item t;
      under_right = λ x c. tests t x.item;
    }

    kept-all : (rest list : List A) (kept : List (Numbered A)) → AreLeaders Over list kept
        → AreLeaders Over (list ++ rest) (kept_from over kept (length list) rest)
    kept-all [] list kept is = let P : List A → Type 0 = λ l. AreLeaders Over l kept in
        subst P (sym (append-nil list)) is
    kept-all (t ∷ rest) list kept is =
        let next = kept-step list t kept is (λ (y : Numbered A). over y.item t)
        (λ (y : Numbered A). over t y.item) (test-kept kept t) in
        let l = length-append list (t ∷ []) in
        let more = kept-all rest (list ++ t ∷ [])
        (kept_with over kept (numbered (length list) t)) next in
        let count : length (list ++ t ∷ []) ≡ suc (length list) = omega (arith, l) in
        let P : ℕ → Type 0 = λ k. AreLeaders Over ((list ++ t ∷ []) ++ rest)
        (kept_from over (kept_with over kept (numbered (length list) t)) k rest) in
        let Q : List A → Type 0 = λ l. AreLeaders Over l
        (kept_from over (kept_with over kept (numbered (length list) t))
        (suc (length list)) rest) in
        subst Q (append_assoc list (t ∷ []) rest) (subst P count more)

    pub are-leaders : (list : List A) → AreLeaders Over list (leaders over list)
    are-leaders list = kept-all list [] [] none-kept

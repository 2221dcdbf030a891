-- Rows that are drawn step by step: place by place, until and finally, by those of their sides.
use Rattle.std.proofs.Common.{◌≡◌, ℕ, zero, suc, ◌+◌, ◌<◌, ◌⊎◌, ◌↔◌, true, List, [], ◌∷◌, length, drop, inl, inr, refl, sym, subst, arith, length-drop}
use Rattle.std.specs.Prelude.{ℤ}
use Rattle.hy_formula.specs.Temporal.{endless, below, IsUntil, IsRelease}
use Rattle.hy_formula.proofs.Repeating.{Steady, steady-not, until-near, steady-until}
use Rattle.hy_formula.proofs.Unrolling.{until-unrolled}
use Rattle.chain_check.specs.Values.{Assignment}
use Rattle.bound_search.specs.Drawings.{never}
use Rattle.bound_search.specs.Rows.{Row, Step, first_or, back, steps, until_here, finally_here, pairs, around, until_row, finally_row, release_row, globally_row}
use Rattle.bound_search.proofs.RightGates.{Gives, gives-plain, gives-followed, gives-like}
use Rattle.bound_search.proofs.Saying.{Says, says-like, says-never, says-both, says-either}
use Rattle.bound_search.proofs.Telling.{EachFrom, each-dropped, IsTold, told-cons, told-like, first-told, told-turned}

-- U holds below m where Q does, or P does and U at the next place.
abbrev IsUnrolled : (P Q U : ℕ → Type 0) → ℕ → Type 0
IsUnrolled P Q U m = (k : ℕ) → k < m → U k ↔ (Q k ⊎ (P k × U (suc k)))

unrolled-endless : (P Q : ℕ → Type 0) (m : ℕ) → IsUnrolled P Q (IsUntil endless P Q) m
unrolled-endless P Q m k lt =
    let e : k + 1 ≡ suc k = omega arith in
    let U : ℕ → Type 0 = IsUntil endless P Q in
    let u = until-unrolled endless P Q k tt in (
      λ h. elim (u.0 h) [ inl q ↦ inl q | inr (p, (_, later)) ↦ inr (p, subst U e later) ],
      λ h. elim h [
        | inl q ↦ u.1 (inl q)
        | inr (p, later) ↦ u.1 (inr (p, (tt, subst U (sym e) later)))
      ],
    )

unrolled-below : (P Q : ℕ → Type 0) (m : ℕ) → IsUnrolled P Q (IsUntil (below m) P Q) m
unrolled-below P Q m k lt =
    let e : k + 1 ≡ suc k = omega arith in
    let U : ℕ → Type 0 = IsUntil (below m) P Q in
    let u = until-unrolled (below m) P Q k lt in (
      λ h. elim (u.0 h) [ inl q ↦ inl q | inr (p, (_, later)) ↦ inr (p, subst U e later) ],
      λ h. elim h [
        | inl q ↦ u.1 (inl q)
        | inr (p, (j, from, within, here, all)) ↦
            u.1 (inr (p, (omega arith, subst U (sym e) (j, from, within, here, all))))
      ],
    )

-- until, whatever the left side says that always holds
until-any : (Q : ℕ → Type 0) (S T : Type 0) → T → (k : ℕ) →
    IsUntil endless (λ _. S) Q k → IsUntil endless (λ _. T) Q k
until-any Q S T h k (j, from, within, here, all) = (j, from, within, here, λ _ _ _. h)

module _ (a : Assignment) where
  -- The step says whether U holds at place k, where it is told of the next.
  abbrev IsStep : (ℕ → Type 0) → ℕ → Step → Type 0
  IsStep U k step =
      (later : ℤ) → Says a later (U (suc k)) → Gives a (step later) (λ x. Says a x (U k))

  -- The steps say what holds at the n places from i on.
  record AreSteps (U : ℕ → Type 0) (i n : ℕ) (steps : List Step) : Type 0 where
    pub long : length steps ≡ n
    pub each : EachFrom (IsStep U) i steps

  told-back : (U : ℕ → Type 0) (later : ℤ) (m : ℕ) → Says a later (U m) → (i n : ℕ) → i + n ≡ m →
      (steps : List Step) → AreSteps U i n steps → Gives a (back steps later) (IsTold a U i n)
  told-back U later m s i n e [] t =
      gives-plain a [] (IsTold a U i n) (record { long = t.long; told = tt })
  told-back U later m s i zero e (step ∷ steps) t = absurd (omega (arith, t.long))
  told-back U later m s i (suc n) e (step ∷ steps) t =
      let next : m ≡ suc i + n = omega (arith, e) in
      let V : ℕ → Type 0 = λ k. Says a later (U k) in
      gives-followed a _ _ _ _
      (told-back U later m s (suc i) n (omega (arith, e)) steps
      (record { long = omega (arith, t.long); each = t.each.1 }))
      (λ row v. gives-followed a _ _ _ _
      (t.each.0 (first_or later row) (first-told a U (suc i) n later row v (subst V next s)))
      (λ here h. gives-plain a _ _ (told-cons a U i n here row h v)))

  told-steps : (here : ℤ → ℤ → Step) (P Q U : ℕ → Type 0) (m : ℕ) →
      ((k : ℕ) → k < m → (l r : ℤ) → Says a l (P k) → Says a r (Q k) → IsStep U k (here l r)) →
      (i n : ℕ) → i + n ≡ m → (left right : Row) → IsTold a P i n left → IsTold a Q i n right →
      AreSteps U i n (steps here left right)
  told-steps here P Q U m is_step i n e [] right t u = record { long = t.long; each = tt }
  told-steps here P Q U m is_step i n e (l ∷ left) [] t u = record { long = u.long; each = tt }
  told-steps here P Q U m is_step i zero e (l ∷ left) (r ∷ right) t u =
      absurd (omega (arith, t.long))
  told-steps here P Q U m is_step i (suc n) e (l ∷ left) (r ∷ right) t u =
      let rest = told-steps here P Q U m is_step (suc i) n (omega (arith, e)) left right
      (record { long = omega (arith, t.long); told = t.told.1 })
      (record { long = omega (arith, u.long); told = u.told.1 }) in
      record {
        long = omega (arith, rest.long);
        each = (is_step i (omega (arith, e)) l r t.told.0 u.told.0, rest.each);
      }

  -- ---- steps

  until-step : (P Q U : ℕ → Type 0) (m : ℕ) → IsUnrolled P Q U m → (k : ℕ) → k < m → (l r : ℤ) →
      Says a l (P k) → Says a r (Q k) → IsStep U k (until_here l r)
  until-step P Q U m unrolled k lt l r p q later u =
      let same = unrolled k lt in
      gives-like a _ _ _ (λ x. says-like a x _ _ same.1 same.0)
      (gives-followed a _ _ _ _ (says-both a l later _ _ p u) (λ held says_held.
      says-either a r held _ _ q says_held))

  finally-step : (P Q U : ℕ → Type 0) (m : ℕ) → IsUnrolled (λ _. Unit {0}) Q U m → (k : ℕ) →
      k < m → (l r : ℤ) → Says a l (P k) → Says a r (Q k) → IsStep U k (finally_here l r)
  finally-step P Q U m unrolled k lt l r p q later u =
      gives-like a _ _ _ (λ x. says-like a x _ _ from to) (says-either a r later _ _ q u)
    where
      from : Q k ⊎ U (suc k) → U k
      from (inl here) = (unrolled k lt).1 (inl here)
      from (inr more) = (unrolled k lt).1 (inr (tt, more))

      to : U k → Q k ⊎ U (suc k)
      to h = elim ((unrolled k lt).0 h) [ inl here ↦ inl here | inr (_, more) ↦ inr more ]

  -- ---- place by place

  pub told-pairs : a 0 ≡ true → (here : ℤ → ℤ → Step) (P Q R : ℕ → Type 0) →
      ((k : ℕ) (l r later : ℤ) → Says a l (P k) → Says a r (Q k) →
      Gives a (here l r later) (λ x. Says a x (R k))) →
      (n : ℕ) (left right : Row) → IsTold a P 0 n left → IsTold a Q 0 n right →
      Gives a (pairs here left right) (IsTold a R 0 n)
  told-pairs sure_is here P Q R join n left right t u =
      let ends : Says a never (R n × (n < n)) =
      says-like a never ⊥ _ (λ h. absurd h) (λ (_, lt). omega arith) (says-never a sure_is) in
      let is_steps = told-steps here P Q (λ k. R k × (k < n)) n
      (λ k lt l r p q later _. gives-like a _ _ _
      (λ x. says-like a x _ _ (λ h. (h, lt)) (λ h. h.0)) (join k l r later p q))
      0 n (omega arith) left right t u in
      gives-like a _ _ _
      (λ row. told-like a _ R 0 n (λ k lt. (λ h. h.0, λ h. (h, omega arith))) row)
      (told-back (λ k. R k × (k < n)) never n ends 0 n (omega arith) _ is_steps)

  -- ---- rows of s + c places whose sides repeat after c places from s on

  module _ (sure_is : a 0 ≡ true) (s c : ℕ) (some : 0 < c) where
    module _ (P Q : ℕ → Type 0) (p : Steady s c P) (q : Steady s c Q) where
      abbrev Near : ℕ → Type 0
      Near = IsUntil (below (s + c)) P Q

      abbrev Until : ℕ → Type 0
      Until = IsUntil endless P Q

      never-near : Says a never (Near (s + c))
      never-near = says-like a never ⊥ (Near (s + c)) (λ h. absurd h)
          (λ (j, from, within, here, all). omega arith) (says-never a sure_is)

      -- what once round found at place s holds behind the last place
      round-told : (round : Row) → IsTold a Near s c round →
          Says a (first_or never round) (Until (s + c))
      round-told round v =
          let near = until-near s c (s + c) some P Q p q s (omega arith) (omega arith) in
          let again = steady-until s c P Q p q s (omega arith) in
          says-like a _ _ _ (λ h. again.1 (near.1 h)) (λ h. near.0 (again.0 h))
          (first-told a Near s c never round v never-near)

      told-around : (here : ℤ → ℤ → Step) (left right : Row) →
          AreSteps Near 0 (s + c) (steps here left right) →
          AreSteps Until 0 (s + c) (steps here left right) →
          Gives a (around s here left right) (IsTold a Until 0 (s + c))
      told-around here left right near all =
          let all_steps : List Step = steps here left right in
          let short = length-drop s all_steps in
          let behind : AreSteps Near s c (drop s all_steps) = record {
            long = omega (arith, short, near.long);
            each = each-dropped _ 0 s s (omega arith) all_steps near.each;
          } in
          gives-followed a _ _ _ _
          (told-back Near never (s + c) never-near s c refl (drop s all_steps) behind)
          (λ round v. told-back Until (first_or never round) (s + c) (round-told round v) 0 (s + c)
          (omega arith) all_steps all)

    pub told-until : (P Q : ℕ → Type 0) → Steady s c P → Steady s c Q → (left right : Row) →
        IsTold a P 0 (s + c) left → IsTold a Q 0 (s + c) right →
        Gives a (until_row s left right) (IsTold a (IsUntil endless P Q) 0 (s + c))
    told-until P Q p q left right t u =
        let m : ℕ = s + c in
        told-around P Q p q until_here left right
        (told-steps until_here P Q _ m (until-step P Q _ m (unrolled-below P Q m)) 0 m (omega arith)
        left right t u)
        (told-steps until_here P Q _ m (until-step P Q _ m (unrolled-endless P Q m)) 0 m
        (omega arith)
        left right t u)

    pub told-finally : (Q : ℕ → Type 0) → Steady s c Q → (row : Row) → IsTold a Q 0 (s + c) row →
        Gives a (finally_row s row) (IsTold a (IsUntil endless (λ _. Unit {0}) Q) 0 (s + c))
    told-finally Q q row t =
        let m : ℕ = s + c in
        told-around (λ _. Unit {0}) Q (λ i le. (λ h. h, λ h. h)) q finally_here row row
        (told-steps finally_here Q Q _ m (finally-step Q Q _ m (unrolled-below _ Q m)) 0 m
        (omega arith) row row t t)
        (told-steps finally_here Q Q _ m (finally-step Q Q _ m (unrolled-endless _ Q m)) 0 m
        (omega arith) row row t t)

    pub told-release : (P Q : ℕ → Type 0) → Steady s c P → Steady s c Q → (left right : Row) →
        IsTold a P 0 (s + c) left → IsTold a Q 0 (s + c) right →
        Gives a (release_row s left right) (IsTold a (IsRelease endless P Q) 0 (s + c))
    told-release P Q p q left right t u =
        gives-followed a _ _ _ _
        (told-until _ _ (steady-not s c P p) (steady-not s c Q q) _ _
        (told-turned a P 0 (s + c) left t) (told-turned a Q 0 (s + c) right u))
        (λ row v. gives-plain a _ _ (told-turned a _ 0 (s + c) row v))

    pub told-globally : (Q : ℕ → Type 0) → Steady s c Q → (row : Row) → IsTold a Q 0 (s + c) row →
        Gives a (globally_row s row) (IsTold a (IsRelease endless (λ _. ⊥) Q) 0 (s + c))
    told-globally Q q row t =
        gives-followed a _ _ _ _
        (told-finally _ (steady-not s c Q q) _ (told-turned a Q 0 (s + c) row t))
        (λ some_not v. gives-plain a _ _
        (told-like a _ _ 0 (s + c) (λ k lt. (
          λ n u. n (until-any _ (¬ ⊥) (Unit {0}) tt k u),
          λ n u. n (until-any _ (Unit {0}) (¬ ⊥) (λ h. h) k u),
        )) _ (told-turned a _ 0 (s + c) some_not v)))

-- Reduced residuals and the first rows that are theirs.
use Rattle.std.proofs.Common.{◌≡◌, ◌+◌, ◌<◌, ◌≤◌, ℕ, List, [], ◌∷◌, ◌++◌, length, get_or, Option, Some, None, inl, inr, refl, sym, ap, ◌∙◌, subst, arith, length-append}
use Rattle.std.proofs.lemmas.Bool.{cases_lt}
use Rattle.std.proofs.lemmas.List.{get_or_append_left}
use Rattle.hy_base.proofs.Places.{last-of}
use Rattle.ltl_closure.specs.Nodes.{Node}
use Rattle.fin_monitor.specs.Duties.{Duty, after_each, residual_at}
use Rattle.fin_monitor.specs.Reductions.{LeaveAlike, IsFirstRow, AreFirsts}
use Rattle.fin_monitor.proofs.Alike.{alike-through}
use Rattle.fin_monitor.proofs.Outdoing.{alike-both_ways}

module _ (nodes : List Node) (list keys : List (List Duty)) (firsts : List ℕ) (row : ℕ) (is : AreFirsts nodes list keys firsts row) where
  pub firsts-kept : (keys' : List (List Duty)) (firsts' : List ℕ) → keys' ≡ keys → firsts' ≡ firsts → AreFirsts nodes list keys' firsts' (row + 1)
  firsts-kept keys' firsts' e f =
      let P : List (List Duty) → Type 0 = λ k. AreFirsts nodes list k firsts' (row + 1) in
      let Q : List ℕ → Type 0 = λ l. AreFirsts nodes list keys l (row + 1) in
      subst P (sym e) (subst Q (sym f) (record { long = is.long; below = λ i lt. omega (arith, is.below i lt); alike = is.alike }))

  pub first-below : (i first : ℕ) → i < length keys → get_or firsts i 0 ≡ first → first < row
  first-below i first lt at = omega (arith, is.below i (omega (arith, is.long, lt)), at)

  pub first-alike : (r : List Duty) (i first : ℕ) → i < length keys → residual_at keys i ≡ r → get_or firsts i 0 ≡ first → LeaveAlike nodes r (residual_at list first)
  first-alike r i first lt e at =
      let P : List Duty → Type 0 = λ x. LeaveAlike nodes x (residual_at list first) in
      let Q : ℕ → Type 0 = λ x. LeaveAlike nodes (residual_at keys i) (residual_at list x) in
      subst P e (subst Q at (is.alike i (omega (arith, is.long, lt))))

  pub firsts-more : (new keys' : List (List Duty)) (firsts' : List ℕ) (r : List Duty) → keys' ≡ keys ++ r ∷ [] → firsts' ≡ firsts ++ row ∷ [] → row < length list
      → ((q : ℕ) → q < length list → residual_at new q ≡ residual_at list q) → LeaveAlike nodes r (residual_at list row) → AreFirsts nodes new keys' firsts' (row + 1)
  firsts-more new keys' firsts' r e f there stays alike =
      let P : List (List Duty) → Type 0 = λ k. AreFirsts nodes new k firsts' (row + 1) in
      let Q : List ℕ → Type 0 = λ l. AreFirsts nodes new (keys ++ r ∷ []) l (row + 1) in
      subst P (sym e)
      (subst Q (sym f)
      (record {
        long = length-append firsts (row ∷ []) ∙ ap (λ n. n + 1) is.long ∙ sym (length-append keys (r ∷ []));
        below = λ i lt.
            elim (cases_lt i (length firsts)) [
              | inl old ↦ let at = get_or_append_left firsts (row ∷ []) 0 i old in omega (arith, at, is.below i old)
              | inr more ↦ let at = at-end i lt more in omega (arith, at)
            ];
        alike = λ i lt.
            elim (cases_lt i (length firsts)) [
              | inl old ↦
                  let at : get_or (firsts ++ row ∷ []) i 0 ≡ get_or firsts i 0 = get_or_append_left firsts (row ∷ []) 0 i old in
                  let key : residual_at (keys ++ r ∷ []) i ≡ residual_at keys i = get_or_append_left keys (r ∷ []) [] i (omega (arith, is.long, old)) in
                  let A : List Duty → Type 0 = λ x. LeaveAlike nodes x (residual_at new (get_or (firsts ++ row ∷ []) i 0)) in
                  let B : List Duty → Type 0 = LeaveAlike nodes (residual_at keys i) in
                  subst A (sym key) (subst B (sym (ap (residual_at new) at ∙ stays (get_or firsts i 0) (omega (arith, is.below i old, there)))) (is.alike i old))
              | inr more ↦
                  let here : i ≡ length keys = omega (arith, is.long, more, lt, length-append firsts (row ∷ [])) in
                  let key : residual_at (keys ++ r ∷ []) i ≡ r = ap (residual_at (keys ++ r ∷ [])) here ∙ last-of keys r [] in
                  let A : List Duty → Type 0 = λ x. LeaveAlike nodes x (residual_at new (get_or (firsts ++ row ∷ []) i 0)) in
                  let B : List Duty → Type 0 = LeaveAlike nodes r in
                  subst A (sym key) (subst B (sym (ap (residual_at new) (at-end i lt more) ∙ stays row there)) alike)
            ];
      }))
    where
      at-end : (i : ℕ) → i < length (firsts ++ row ∷ []) → length firsts ≤ i → get_or (firsts ++ row ∷ []) i 0 ≡ row
      at-end i lt more =
          let here : i ≡ length firsts = omega (arith, lt, more, length-append firsts (row ∷ [])) in
          ap (λ j. get_or (firsts ++ row ∷ []) j 0) here ∙ last-of firsts row 0

module _ (nodes : List Node) (list keys new : List (List Duty)) (firsts firsts' : List ℕ) (r : List Duty) (row : ℕ) (o : Option ℕ) (is : AreFirsts nodes list keys firsts row) (found : IsFirstRow keys firsts r row new firsts' o) (same : LeaveAlike nodes r (residual_at list row)) where
  -- a residual whose row is known
  pub known-row : (first : ℕ) → o ≡ Some first → (first < row) × LeaveAlike nodes (residual_at list first) (residual_at list row) × AreFirsts nodes list new firsts' (row + 1)
  known-row first at =
      let P : Option ℕ → Type 0 = IsFirstRow keys firsts r row new firsts' in
      let (e, f, i, lt, key, place) = subst P at found in
      let back = alike-both_ways nodes r (residual_at list first) (first-alike nodes list keys firsts row is r i first lt key place) in (
        first-below nodes list keys firsts row is i first lt place,
        (λ letter. alike-through (after_each nodes letter (residual_at list first)) (after_each nodes letter r) (after_each nodes letter (residual_at list row)) (back letter) (same letter)),
        firsts-kept nodes list keys firsts row is new firsts' e f,
      )

  -- one whose row is new, after it is filled
  pub new-row : (more : List (List Duty)) → ((first : ℕ) → o ≡ Some first → ⊥) → row < length list → ((q : ℕ) → q < length list → residual_at more q ≡ residual_at list q) → AreFirsts nodes more new firsts' (row + 1)
  new-row more other there stays = step o refl
    where
      step : (x : Option ℕ) → o ≡ x → AreFirsts nodes more new firsts' (row + 1)
      step (Some first) at = absurd (other first at)
      step None at =
          let P : Option ℕ → Type 0 = IsFirstRow keys firsts r row new firsts' in
          let (e, f) = subst P at found in firsts-more nodes list keys firsts row is more new firsts' r e f there stays same

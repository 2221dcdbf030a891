-- How a trail grows and shrinks.
use Rattle.std.proofs.Common.{◌≡◌, ◌≢◌, ℕ, ◌-◌, ◌<◌, ◌≤◌, List, [], ◌∷◌, ◌++◌, Some, length, get_or, take, inl, inr, refl, sym, ap, ◌∙◌, subst, arith}
use Rattle.std.specs.Prelude.{ℤ, pos, neg_ℤ, unsigned_abs, slice_get}
use Rattle.std.specs.List.{Contains}
use Rattle.std.proofs.lemmas.Bool.{cases_lt, cases_order}
use Rattle.std.proofs.lemmas.List.{length-take-le, length_push, take-append-le, take_at, take-take, get_or_append_left, get_or_push, get_or-take, get_or_default}
use Rattle.std.proofs.lemmas.List.Elements.{Contains-append_left, Contains-push_cases, Contains-get_or}
use Rattle.std.proofs.lemmas.Option.{slice_get_within, get_or_from_slice_get, slice_get-get_or}
use Rattle.hy_base.proofs.Places.{two-equal}
use Rattle.chain_check.specs.Clauses.{Clause, IsLiteral, IsNew}
use Rattle.chain_check.specs.Chains.{IsUnit, IsNumbered, Refutes, ends, goes}
use Rattle.sat_core.specs.Trails.{IsOpenIn, IsSettled, AreSettled, IsStep, IsTrail}
use Rattle.chain_check.proofs.Literals.{same-or-not, not-own-opposite, of-one-variable, same-variable}
use Rattle.chain_check.proofs.Passing.{numbered-there}

abbrev pub IsConsistent : List ℤ → Type 0
IsConsistent trues = (l : ℤ) → Contains trues l → ¬ Contains trues (neg_ℤ l)

-- a clause with one literal that is open, the others false, is new where all is settled
pub learned-new : (clauses : List Clause) (trues : List ℤ) (c : Clause) (u : ℤ) →
    AreSettled clauses trues → IsConsistent trues → IsUnit trues c u → ¬ Contains trues u →
    IsNew clauses c
learned-new clauses trues c u settled consistent unit none d there inside =
    elim (settled d there) [
      | inl (l, of, true') ↦ elim (same-or-not l u) [
        | inl e ↦ let P : ℤ → Type 0 = Contains trues in none (subst P e true')
        | inr apart ↦ consistent l true' (unit.others l (inside l of) apart)
      ]
      | inr (l, m, two) ↦ elim (same-or-not l u) [
        | inr apart ↦ two.open_first (unit.others l (inside l two.first) apart)
        | inl e ↦ two.open_second (unit.others m (inside m two.second)
            (λ f. two.differ (e ∙ sym f)))
      ]
    ]

-- where all is settled nothing is refuted
pub settled-unrefuted : (clauses : List Clause) (trues : List ℤ) → AreSettled clauses trues →
    IsConsistent trues → {others : List ℤ} {chain : List ℕ} →
    ((l : ℤ) → Contains others l → Contains trues l) →
    ((l : ℤ) → Contains trues l → Contains others l) → ¬ Refutes clauses others chain
settled-unrefuted clauses trues settled consistent forth back (ends {k = k} c at false') =
    elim (settled c (numbered-there clauses k c at)) [
      | inl (l, of, true') ↦ consistent l true' (forth (neg_ℤ l) (false' l of))
      | inr (l, m, two) ↦ two.open_first (forth (neg_ℤ l) (false' l two.first))
    ]
settled-unrefuted clauses trues settled consistent {others} forth back
    (goes {k = k} c u at unit rest) =
    settled-unrefuted clauses trues settled consistent forth'
    (λ l h. Contains-append_left others (u ∷ []) l (back l h)) rest
  where
    true-one : Contains trues u
    true-one =
        elim (settled c (numbered-there clauses k c at)) [
          | inl (l, of, true') ↦ elim (same-or-not l u) [
            | inl e ↦ let P : ℤ → Type 0 = Contains trues in subst P e true'
            | inr apart ↦ absurd (consistent l true' (forth (neg_ℤ l) (unit.others l of apart)))
          ]
          | inr (l, m, two) ↦ elim (same-or-not l u) [
            | inr apart ↦ absurd (two.open_first (forth (neg_ℤ l) (unit.others l two.first apart)))
            | inl e ↦ absurd (two.open_second
                (forth (neg_ℤ m) (unit.others m two.second (λ f. two.differ (e ∙ sym f)))))
          ]
        ]

    forth' : (l : ℤ) → Contains (others ++ u ∷ []) l → Contains trues l
    forth' l there = elim (Contains-push_cases others u l there)
        [ inl h ↦ forth l h | inr e ↦ let P : ℤ → Type 0 = Contains trues in subst P e true-one ]

pub numbered-more : (clauses : List Clause) (d : Clause) (k : ℕ) (c : Clause) →
    IsNumbered clauses k c → IsNumbered (clauses ++ d ∷ []) k c
numbered-more clauses d k c at = record { counted = at.counted; there = there }
  where
    lt : k - 1 < length clauses
    lt = slice_get_within clauses (k - 1) c at.there

    there : slice_get (clauses ++ d ∷ []) (k - 1) ≡ Some c
    there = slice_get-get_or (clauses ++ d ∷ []) (k - 1) c
        (omega (arith, length_push clauses d, lt)) ∙
        ap Some (get_or_append_left clauses (d ∷ []) c (k - 1) lt ∙
        get_or_from_slice_get clauses (k - 1) c c at.there)

pub at-front : (trail : List ℤ) (i n : ℕ) (d : ℤ) → i < n → n ≤ length trail →
    Contains (take n trail) (get_or trail i d)
at-front trail i n d lt le =
    let P : ℤ → Type 0 = Contains (take n trail) in
    subst P (get_or-take n trail i d lt) (Contains-get_or (take n trail) i d
    (omega (arith, length-take-le n trail le)))

module _ (variables : ℕ) (clauses : List Clause) (trail : List ℤ) (reasons limits : List ℕ)
    (is : IsTrail variables clauses trail reasons limits) where
  -- two places have different variables
  pub apart-places : (i j : ℕ) → i < j → j < length trail →
      unsigned_abs (get_or trail i (pos 0)) ≢ unsigned_abs (get_or trail j (pos 0))
  apart-places i j lt below e =
      let P : ℤ → Type 0 = Contains (take j trail) in
      let there : P (get_or trail i (pos 0)) = at-front trail i j (pos 0) lt (omega arith) in
      let open' = (is.steps j below).fresh in
      elim (of-one-variable (get_or trail i (pos 0)) (get_or trail j (pos 0)) e) [
        | inl same ↦ open'.0 (subst P same there)
        | inr opposite ↦ open'.1 (subst P opposite there)
      ]

  pub consistent : IsConsistent trail
  consistent l (i, lt, e) (j, lt', e') =
      let at-i : get_or trail i (pos 0) ≡ l = get_or_default trail i (pos 0) l lt ∙ e in
      let at-j : get_or trail j (pos 0) ≡ neg_ℤ l = get_or_default trail j (pos 0) (neg_ℤ l) lt' ∙
      e' in
      let same : unsigned_abs (get_or trail i (pos 0)) ≡ unsigned_abs (get_or trail j (pos 0)) =
      ap unsigned_abs at-i ∙ sym (same-variable l) ∙ sym (ap unsigned_abs at-j) in
      elim (cases_order i j) [
        | inl eq ↦
            let clash : l ≡ neg_ℤ l = sym at-i ∙ ap (λ k. get_or trail k (pos 0)) eq ∙ at-j in
            let P : ℤ → Type 0 = λ q. 0 < unsigned_abs q in
            not-own-opposite l (subst P at-i (is.steps i lt).right.0) clash
        | inr (inl less) ↦ apart-places i j less lt' same
        | inr (inr more) ↦ apart-places j i more lt (sym same)
      ]

  -- no more places than variables
  pub few-places : length trail ≤ variables
  few-places =
      elim (cases_lt variables (length trail)) [
        | inr le ↦ le
        | inl more ↦
            let (i, j, lt, le, e) = two-equal variables
            (λ i. unsigned_abs (get_or trail i (pos 0)) - 1)
            (λ i le. let r = (is.steps i (omega arith)).right in omega (arith, r.0, r.1)) in
            let r = (is.steps i (omega arith)).right in
            let s = (is.steps j (omega arith)).right in
            absurd (apart-places i j lt (omega arith) (omega (arith, e, r.0, s.0)))
      ]

settled-same : (clauses : List Clause) (xs ys : List ℤ) → xs ≡ ys → AreSettled clauses xs →
    AreSettled clauses ys
settled-same clauses xs ys e h = let P : List ℤ → Type 0 = AreSettled clauses in subst P e h

step-clause : (n : ℕ) (clauses : List Clause) (d : Clause) (limits : List ℕ) (before : List ℤ)
    (l : ℤ) (k : ℕ) → IsStep n clauses limits before l k →
    IsStep n (clauses ++ d ∷ []) limits before l k
step-clause n clauses d limits before l k step = record {
  right = step.right;
  fresh = step.fresh;
  caused = λ some. let (c, at, unit) = step.caused some in
      (c, numbered-more clauses d k c at, unit);
  decided = step.decided;
}

step-limit : (n : ℕ) (clauses : List Clause) (limits : List ℕ) (q : ℕ) (before : List ℤ) (l : ℤ)
    (k : ℕ) → IsStep n clauses limits before l k → IsStep n clauses (limits ++ q ∷ []) before l k
step-limit n clauses limits q before l k step = record {
  right = step.right;
  fresh = step.fresh;
  caused = step.caused;
  decided = λ none. let (j, lt, e) = step.decided none in
      (j, omega (arith, length_push limits q, lt), get_or_append_left limits (q ∷ []) 0 j lt ∙ e);
}

steps-pushed : (n : ℕ) (clauses : List Clause) (limits : List ℕ) (trail : List ℤ) (reasons : List ℕ)
    (l : ℤ) (k : ℕ) → length reasons ≡ length trail →
    ((i : ℕ) → i < length trail → IsStep n clauses limits (take i trail) (get_or trail i (pos 0))
    (get_or reasons i 0)) → IsStep n clauses limits trail l k → (i : ℕ) →
    i < length (trail ++ l ∷ []) → IsStep n clauses limits (take i (trail ++ l ∷ []))
    (get_or (trail ++ l ∷ []) i (pos 0)) (get_or (reasons ++ k ∷ []) i 0)
steps-pushed n clauses limits trail reasons l k long steps step i lt =
    let P : List ℤ → ℤ → ℕ → Type 0 = IsStep n clauses limits in
    elim (cases_lt i (length trail)) [
      | inl old ↦
          let e : take i trail ≡ take i (trail ++ l ∷ []) =
          sym (take-append-le i trail (l ∷ []) (omega arith)) in
          let f : get_or trail i (pos 0) ≡ get_or (trail ++ l ∷ []) i (pos 0) =
          sym (get_or_append_left trail (l ∷ []) (pos 0) i old) in
          let g : get_or reasons i 0 ≡ get_or (reasons ++ k ∷ []) i 0 =
          sym (get_or_append_left reasons (k ∷ []) 0 i (omega arith)) in
          let Q : List ℤ → Type 0 = λ xs. P xs (get_or trail i (pos 0)) (get_or reasons i 0) in
          let R : ℤ → Type 0 = λ z. P (take i (trail ++ l ∷ [])) z (get_or reasons i 0) in
          let S : ℕ → Type 0 = P (take i (trail ++ l ∷ [])) (get_or (trail ++ l ∷ []) i (pos 0)) in
          subst S g (subst R f (subst Q e (steps i old)))
      | inr past ↦
          let here : length trail ≡ i = omega (arith, length_push trail l) in
          let e : trail ≡ take i (trail ++ l ∷ []) = sym (take_at trail (l ∷ []) i here) in
          let f : l ≡ get_or (trail ++ l ∷ []) i (pos 0) =
          sym (get_or_push trail l (pos 0) i here) in
          let g : k ≡ get_or (reasons ++ k ∷ []) i 0 =
          sym (get_or_push reasons k 0 i (long ∙ here)) in
          let Q : List ℤ → Type 0 = λ xs. P xs l k in
          let R : ℤ → Type 0 = λ z. P (take i (trail ++ l ∷ [])) z k in
          let S : ℕ → Type 0 = P (take i (trail ++ l ∷ [])) (get_or (trail ++ l ∷ []) i (pos 0)) in
          subst S g (subst R f (subst Q e step))
    ]

-- one literal more, by a clause
pub trail-implied : (n : ℕ) (clauses : List Clause) (trail : List ℤ) (reasons limits : List ℕ)
    (l : ℤ) (k : ℕ) → IsTrail n clauses trail reasons limits → IsStep n clauses limits trail l k →
    IsTrail n clauses (trail ++ l ∷ []) (reasons ++ k ∷ []) limits
trail-implied n clauses trail reasons limits l k is step = record {
  long = omega (arith, is.long, length_push trail l, length_push reasons k);
  steps = steps-pushed n clauses limits trail reasons l k is.long is.steps step;
  within = λ j lt. omega (arith, is.within j lt, length_push trail l);
  rising = is.rising;
  complete = λ j lt. settled-same clauses (take (get_or limits j 0) trail)
      (take (get_or limits j 0) (trail ++ l ∷ []))
      (sym (take-append-le (get_or limits j 0) trail (l ∷ []) (omega (arith, is.within j lt))))
      (is.complete j lt);
}

-- one literal more, by a decision
pub trail-decided : (n : ℕ) (clauses : List Clause) (trail : List ℤ) (reasons limits : List ℕ)
    (l : ℤ) → IsTrail n clauses trail reasons limits → AreSettled clauses trail → IsLiteral n l →
    IsOpenIn trail l → IsTrail n clauses (trail ++ l ∷ []) (reasons ++ 0 ∷ [])
    (limits ++ length trail ∷ [])
trail-decided n clauses trail reasons limits l is settled right open' = record {
  long = omega (arith, is.long, length_push trail l, length_push reasons 0);
  steps = steps-pushed n clauses (limits ++ length trail ∷ []) trail reasons l 0 is.long
      (λ i lt. step-limit n clauses limits (length trail) (take i trail) (get_or trail i (pos 0))
      (get_or reasons i 0) (is.steps i lt)) step;
  within = within;
  rising = rising;
  complete = complete;
}
  where
    old-limit : (j : ℕ) → j < length limits →
        get_or (limits ++ length trail ∷ []) j 0 ≡ get_or limits j 0
    old-limit j lt = get_or_append_left limits (length trail ∷ []) 0 j lt

    last-limit : (j : ℕ) → length limits ≡ j →
        get_or (limits ++ length trail ∷ []) j 0 ≡ length trail
    last-limit j e = get_or_push limits (length trail) 0 j e

    step : IsStep n clauses (limits ++ length trail ∷ []) trail l 0
    step = record {
      right = right;
      fresh = open';
      caused = λ some. absurd (omega arith);
      decided = λ none. (
        length limits,
        omega (arith, length_push limits (length trail)),
        last-limit (length limits) refl,
      );
    }

    within : (j : ℕ) → j < length (limits ++ length trail ∷ []) →
        get_or (limits ++ length trail ∷ []) j 0 < length (trail ++ l ∷ [])
    within j lt = elim (cases_lt j (length limits)) [
      | inl old ↦ omega (arith, old-limit j old, is.within j old, length_push trail l)
      | inr past ↦ let here : length limits ≡ j =
          omega (arith, length_push limits (length trail)) in
          omega (arith, last-limit j here, length_push trail l)
    ]

    rising : (i j : ℕ) → i < j → j < length (limits ++ length trail ∷ []) →
        get_or (limits ++ length trail ∷ []) i 0 < get_or (limits ++ length trail ∷ []) j 0
    rising i j lt below = elim (cases_lt j (length limits)) [
      | inl old ↦ omega (arith, old-limit i (omega arith), old-limit j old, is.rising i j lt old)
      | inr past ↦
          let here : length limits ≡ j = omega (arith, length_push limits (length trail)) in
          let early : i < length limits = omega arith in
          omega (arith, old-limit i early, last-limit j here, is.within i early)
    ]

    complete : (j : ℕ) → j < length (limits ++ length trail ∷ []) →
        AreSettled clauses (take (get_or (limits ++ length trail ∷ []) j 0) (trail ++ l ∷ []))
    complete j lt = elim (cases_lt j (length limits)) [
      | inl old ↦ settled-same clauses (take (get_or limits j 0) trail) _
          (sym (take-append-le (get_or limits j 0) trail (l ∷ [])
          (omega (arith, is.within j old))) ∙
          ap (λ q. take q (trail ++ l ∷ [])) (sym (old-limit j old))) (is.complete j old)
      | inr past ↦
          let here : length limits ≡ j = omega (arith, length_push limits (length trail)) in
          settled-same clauses trail _ (sym (take_at trail (l ∷ []) (length trail) refl) ∙
          ap (λ q. take q (trail ++ l ∷ [])) (sym (last-limit j here))) settled
    ]

-- back to before the decision of a level
pub trail-back : (n : ℕ) (clauses : List Clause) (trail : List ℤ) (reasons limits : List ℕ)
    (j : ℕ) → IsTrail n clauses trail reasons limits → j < length limits →
    IsTrail n clauses (take (get_or limits j 0) trail) (take (get_or limits j 0) reasons)
    (take j limits)
trail-back n clauses trail reasons limits j is lt = record {
  long = length-take-le (get_or limits j 0) reasons (omega (arith, inside, is.long)) ∙
      sym (length-take-le (get_or limits j 0) trail (omega (arith, inside)));
  steps = steps;
  within = λ i below. omega (
    arith,
    small i below,
    limit i (small i below),
    is.rising i j (small i below) lt,
    length-take-le (get_or limits j 0) trail
        (omega (arith, inside)),
  );
  rising = λ i k less below. omega (
    arith,
    small k below,
    limit i (omega (arith, less, small k below)),
    limit k (small k below),
    is.rising i k less (omega (arith, small k below, lt)),
  );
  complete = complete;
}
  where
    inside : get_or limits j 0 < length trail
    inside = is.within j lt

    few : length (take j limits) ≡ j
    few = length-take-le j limits (omega (arith, lt))

    small : (i : ℕ) → i < length (take j limits) → i < j
    small i below = omega (arith, few)

    limit : (i : ℕ) → i < j → get_or (take j limits) i 0 ≡ get_or limits i 0
    limit i below = get_or-take j limits i 0 below

    steps : (i : ℕ) → i < length (take (get_or limits j 0) trail) →
        IsStep n clauses (take j limits) (take i (take (get_or limits j 0) trail))
        (get_or (take (get_or limits j 0) trail) i (pos 0))
        (get_or (take (get_or limits j 0) reasons) i 0)
    steps i below =
        let early : i < get_or limits j 0 = omega
        (arith, length-take-le (get_or limits j 0) trail (omega (arith, inside))) in
        let there : i < length trail = omega (arith, inside) in
        let old = is.steps i there in
        let e : take i trail ≡ take i (take (get_or limits j 0) trail) =
        sym (take-take i (get_or limits j 0) trail (omega arith)) in
        let f : get_or trail i (pos 0) ≡ get_or (take (get_or limits j 0) trail) i (pos 0) =
        sym (get_or-take (get_or limits j 0) trail i (pos 0) early) in
        let g : get_or reasons i 0 ≡ get_or (take (get_or limits j 0) reasons) i 0 =
        sym (get_or-take (get_or limits j 0) reasons i 0 early) in
        let now : IsStep n clauses (take j limits) (take i trail) (get_or trail i (pos 0))
        (get_or reasons i 0) = record {
          right = old.right;
          fresh = old.fresh;
          caused = old.caused;
          decided = λ none.
              let (k, less, e) = old.decided none in
              let before : get_or limits k 0 ≡ i = e ∙ length-take-le i trail (omega arith) in
              elim (cases_order k j) [
                | inl same ↦ absurd (omega (arith, ap (λ q. get_or limits q 0) same))
                | inr (inl below') ↦ (k, omega (arith, few), limit k below' ∙ e)
                | inr (inr above) ↦ absurd (omega (arith, is.rising j k above less))
              ];
        } in
        let P : List ℤ → ℤ → ℕ → Type 0 = IsStep n clauses (take j limits) in
        let Q : List ℤ → Type 0 = λ xs. P xs (get_or trail i (pos 0)) (get_or reasons i 0) in
        let R : ℤ → Type 0 = λ z. P (take i (take (get_or limits j 0) trail)) z
        (get_or reasons i 0) in
        let S : ℕ → Type 0 = P (take i (take (get_or limits j 0) trail))
        (get_or (take (get_or limits j 0) trail) i (pos 0)) in
        subst S g (subst R f (subst Q e now))

    complete : (i : ℕ) → i < length (take j limits) →
        AreSettled clauses (take (get_or (take j limits) i 0) (take (get_or limits j 0) trail))
    complete i below =
        let early : i < j = small i below in
        let less : get_or limits i 0 < get_or limits j 0 = is.rising i j early lt in
        settled-same clauses (take (get_or limits i 0) trail) _
        (sym (take-take (get_or limits i 0) (get_or limits j 0) trail (omega (arith, less))) ∙
        ap (λ q. take q (take (get_or limits j 0) trail)) (sym (limit i early)))
        (is.complete i (omega (arith, early, lt)))

-- one clause more, which is settled before each decision
pub trail-learned : (n : ℕ) (clauses : List Clause) (trail : List ℤ) (reasons limits : List ℕ)
    (d : Clause) → IsTrail n clauses trail reasons limits →
    ((j : ℕ) → j < length limits → IsSettled (take (get_or limits j 0) trail) d) →
    IsTrail n (clauses ++ d ∷ []) trail reasons limits
trail-learned n clauses trail reasons limits d is settled = record {
  long = is.long;
  steps = λ i lt. step-clause n clauses d limits (take i trail) (get_or trail i (pos 0))
      (get_or reasons i 0) (is.steps i lt);
  within = is.within;
  rising = is.rising;
  complete = λ j lt c there. elim (Contains-push_cases clauses d c there) [
    | inl h ↦ is.complete j lt c h
    | inr e ↦ let P : Clause → Type 0 =
        IsSettled (take (get_or limits j 0) trail) in subst P e (settled j lt)
  ];
}

-- A path of the safe net from the start to bad stands for a lasso execution.
use Rattle.std.proofs.Common.{◌≡◌, ℕ, zero, suc, ◌+◌, ◌-◌, ◌*◌, ◌<◌, ◌≤◌, ◌⊎◌, Bool, true, false, not, ◌&&◌, List, [], ◌∷◌, length, get_or, IsTrue, inl, inr, refl, sym, ap, ◌∙◌, subst, arith}
use Rattle.std.proofs.lemmas.Bool.{cases_eq, and_parts}
use Rattle.std.proofs.lemmas.Bool.Decides.{Decides-ltb}
use Rattle.aig_net.specs.declared.parts.Reset.{Reset}
use Rattle.aig_net.specs.declared.parts.Reset.TheVariants.{Zero, One, Free}
use Rattle.aig_net.specs.Nets.{Net, ResetTo, Valuation, literal_value, reset_at, literal_at, latch_variable, IsRight, IsStart, IsStep, AllTrue}
use Rattle.aig_net.specs.Executions.{Word, IsLassoExecution, lasso_of}
use Rattle.live_safe.specs.Paths.{IsBadPath}
use Rattle.aig_net.specs.Wires.{all_of, Wire, literal, both, equal, wire_value, wire_at}
use Rattle.hy_base.specs.Rows.{listed}
use Rattle.live_safe.specs.Safe.{begun_nexts, count_below, is_set, set_at, has_begun, safe_inputs, take, saved, seen, raw, copied_latch, begun, effective, safe_literal, grab, next_saved, copy_wire, seen_wire, bad_wires, closing, safe_latches, to_safe, shown_word}
use Rattle.aig_net.proofs.Literals.{value-even}
use Rattle.aig_net.proofs.Rounds.{length-part, at-part}
use Rattle.hy_base.proofs.Listed.{map-each, listed-append, listed-each}
use Rattle.live_safe.proofs.Shapes.{ShapeFacts, shape-facts, count-below}
use Rattle.live_safe.proofs.SafeGates.{safe-value, shown-right, shown-latch, effective-value, grab-value, next_saved-value, seen-value, copy-value, bad-value}
use Rattle.aig_net.proofs.Looping.{loop-run}
use Rattle.aig_net.proofs.Closings.{run-closed}
use Rattle.live_safe.proofs.Starts.{start-false}

-- ---- truth values

pub all-of-true : (v : Valuation) (w : Wire) (ws : List Wire) → wire_value v (all_of w ws) ≡ true →
    (wire_value v w ≡ true) × ((j : ℕ) → j < length ws → wire_value v (wire_at ws j) ≡ true)
all-of-true v w [] e = (e, λ j lt. absurd (omega arith))
all-of-true v w (x ∷ ws) e =
    let (two, rest) = all-of-true v (both w x) ws e in
    let (a, b) = and_parts _ _ two in
    (a, at b rest)
  where
    at : wire_value v x ≡ true → ((j : ℕ) → j < length ws → wire_value v (wire_at ws j) ≡ true) →
        (j : ℕ) → j < suc (length ws) → wire_value v (wire_at (x ∷ ws) j) ≡ true
    at b rest zero lt = b
    at b rest (suc j) lt = rest j (omega arith)

equal-true : (a b : Bool) → not (not (not (a && not b) && not (not a && b))) ≡ true → a ≡ b
equal-true true true e = refl
equal-true true false e = absurd (cc)
equal-true false true e = absurd (cc)
equal-true false false e = refl

-- the value of a copy, where it is taken, and where it stays
pub copy-taken : (g e c : Bool) → g ≡ true → not (not (g && e) && not (not g && c)) ≡ e
copy-taken true true c h = refl
copy-taken true false c h = refl
copy-taken false e c h = absurd (cc)

pub copy-stays : (g e c : Bool) → g ≡ false → not (not (g && e) && not (not g && c)) ≡ c
copy-stays true e c h = absurd (cc)
copy-stays false e true h = refl
copy-stays false e false h = refl

or-left-false : (a b : Bool) → a ≡ false → not (not a && not b) ≡ b
or-left-false true b e = absurd (cc)
or-left-false false true e = refl
or-left-false false false e = refl

pub on-later : (r b : Bool) → b ≡ true → not (not r && not (not b)) ≡ r
on-later true true e = refl
on-later false true e = refl
on-later r false e = absurd (cc)

pub on-first : (r b : Bool) → b ≡ false → not (not r && not (not b)) ≡ true
on-first true false e = refl
on-first false false e = refl
on-first r true e = absurd (cc)

pub is-set-begun : (net : Net) (j : ℕ) → j < length net.latches → set_at net j ≡ true →
    has_begun net ≡ true
is-set-begun net j lt is =
    let c = count-below (set_at net) (length net.latches) j lt is in
    (Decides-ltb 0 (count_below (set_at net) (length net.latches))).1 (omega (arith, c))

module _ (net : Net) (k : ℕ) (path : Word) (bad : IsBadPath (to_safe net) k path) where
  right : (i : ℕ) → i ≤ k → IsRight (to_safe net).net (path i)
  right i le = bad.along.right i le

  abbrev w : Word
  w = shown_word net path

  abbrev var : ℕ → ℕ
  var j = suc (safe_inputs net + j)

  abbrev begun-latches : List ℕ
  begun-latches = begun_nexts (has_begun net)

  abbrev Facts : (ℕ → ℕ → Type 0) → Type 0
  Facts = ShapeFacts 0 net (next_saved net) (literal_at (closing net).literals)
      (λ j. safe_literal net (literal_at net.latches j))
      (λ j. literal_at (closing net).literals (length net.fairs + j)) begun-latches

  facts : (P : ℕ → ℕ → Type 0) →
      ((j : ℕ) → j < length (safe_latches net) → P j (literal_at (safe_latches net) j)) → Facts P
  facts P all = shape-facts 0 net (next_saved net) (literal_at (closing net).literals)
      (λ j. safe_literal net (literal_at net.latches j))
      (λ j. literal_at (closing net).literals (length net.fairs + j)) begun-latches P all

  starts : Facts (λ j _. path 0 (var j) ≡ false)
  starts = facts (λ j _. path 0 (var j) ≡ false) (start-false net (path 0) bad.starts)

  steps : (i : ℕ) → i < k → Facts (λ j latch. path (suc i) (var j) ≡ literal_value (path i) latch)
  steps i lt = facts (λ j latch. path (suc i) (var j) ≡ literal_value (path i) latch)
      (bad.along.goes i lt)

  -- ---- `begun`

  some-begun : has_begun net ≡ true → 0 < length begun-latches
  some-begun e = at (has_begun net) e
    where
      at : (b : Bool) → b ≡ true → 0 < length (begun_nexts b)
      at true e = omega arith
      at false e = absurd (cc)

  begun-var : begun net ≡ 2 * var
      (suc (length net.fairs + (length net.latches + (length net.latches + 0))))
  begun-var = omega arith

  begun-first : has_begun net ≡ true → literal_value (path 0) (begun net) ≡ false
  begun-first e =
      let u : ℕ = suc (length net.fairs + (length net.latches + (length net.latches + 0))) in
      let P : ℕ → Type 0 = λ _. path 0 (var u) ≡ false in
      let only : (j : ℕ) → j < length begun-latches → P (get_or begun-latches 0 0) =
      λ j lt. starts.on_begun 0 (omega arith) in
      let head : get_or begun-latches 0 0 ≡ 1 = at (has_begun net) e in
      ap (literal_value (path 0)) begun-var ∙ value-even (path 0) (var u)
      ∙ subst P head (starts.on_begun 0 (some-begun e))
    where
      at : (b : Bool) → b ≡ true → get_or (begun_nexts b) 0 0 ≡ 1
      at true e = refl
      at false e = absurd (cc)

  begun-later : (i : ℕ) → i < k → has_begun net ≡ true →
      literal_value (path (suc i)) (begun net) ≡ true
  begun-later i lt e =
      let u : ℕ = suc (length net.fairs + (length net.latches + (length net.latches + 0))) in
      let P : ℕ → Type 0 = λ latch. path (suc i) (var u) ≡ literal_value (path i) latch in
      let head : get_or begun-latches 0 0 ≡ 1 = at (has_begun net) e in
      ap (literal_value (path (suc i))) begun-var ∙ value-even (path (suc i)) (var u)
      ∙ subst P head ((steps i lt).on_begun 0 (some-begun e))
      ∙ ap not (right i (omega arith)).constant
    where
      at : (b : Bool) → b ≡ true → get_or (begun_nexts b) 0 0 ≡ 1
      at true e = refl
      at false e = absurd (cc)

  -- ---- effective values

  effective-later : (i : ℕ) → i < k → (j : ℕ) → j < length net.latches →
      w (suc i) (latch_variable net j) ≡ literal_value (path (suc i)) (raw net j)
  effective-later i lt j few = shown-latch net (path (suc i)) (right (suc i) (omega arith)) j few
      ∙ at (reset_at net.resets j) (λ is. begun-later i lt (is-set-begun net j few is))
    where
      at : (r : Reset) → (is_set r ≡ true → literal_value (path (suc i)) (begun net) ≡ true) →
          wire_value (path (suc i)) (effective net j r) ≡ literal_value (path (suc i)) (raw net j)
      at Zero h = refl
      at One h = on-later _ _ (h refl)
      at Free h = copy-taken _ _ _ (h refl)

  start-shown : IsStart net (w 0)
  start-shown j few =
      let P : Bool → Type 0 = ResetTo (reset_at net.resets j) in
      subst P (sym (shown-latch net (path 0) (right 0 (omega arith)) j few))
      (at (reset_at net.resets j) (λ is. begun-first (is-set-begun net j few is)))
    where
      at : (r : Reset) → (is_set r ≡ true → literal_value (path 0) (begun net) ≡ false) →
          ResetTo r (wire_value (path 0) (effective net j r))
      at Zero h = value-even (path 0) (var (suc (length net.fairs + j))) ∙ starts.on_latch j few
      at One h = on-first _ _ (h refl)
      at Free h = tt

  step-shown : (i : ℕ) → i < k → IsStep net (w i) (w (suc i))
  step-shown i lt j few =
      effective-later i lt j few ∙ value-even (path (suc i)) (var (suc (length net.fairs + j)))
      ∙ (steps i lt).on_latch j few ∙ safe-value net (path i) (literal_at net.latches j)

  kept-shown : (i : ℕ) → i < k → AllTrue net.constraints (w i)
  kept-shown i lt j few =
      sym (safe-value net (path i) (literal_at net.constraints j))
      ∙ map-each (safe_literal net) 0 0 net.constraints
      (λ _ l. IsTrue (literal_value (path i) l)) (bad.along.kept i lt) j few

  -- ---- `saved`

  abbrev is-saved : ℕ → Bool
  is-saved i = literal_value (path i) (saved net)

  saved-first : is-saved 0 ≡ false
  saved-first = value-even (path 0) (var 0) ∙ starts.on_saved

  saved-next : (i : ℕ) → i < k →
      is-saved (suc i) ≡ not (not (is-saved i) && not (literal_value (path i) (take net)))
  saved-next i lt = value-even (path (suc i)) (var 0) ∙ (steps i lt).on_saved
      ∙ next_saved-value net (path i) (right i (omega arith))

  -- the step that saves
  abbrev Saves : ℕ → ℕ → Type 0
  Saves n t = (t < n) × (is-saved t ≡ false) × ((i : ℕ) → t < i → i ≤ n → is-saved i ≡ true)

  find : (n : ℕ) → n ≤ k → is-saved n ≡ true → (t : ℕ) × Saves n t
  find zero le e = absurd (let f = saved-first in cc)
  find (suc n) le e = at (is-saved n) refl (λ h. find n (omega arith) h)
    where
      at : (b : Bool) → is-saved n ≡ b → (is-saved n ≡ true → (t : ℕ) × Saves n t) →
          (t : ℕ) × Saves (suc n) t
      at false h rec =
          let P : ℕ → Type 0 = λ i. is-saved i ≡ true in
          (n, (omega arith, h, λ i from le. let same : suc n ≡ i = omega arith in subst P same e))
      at true h rec =
          let (t, (lt, not-yet, then)) = rec h in
          let P : ℕ → Type 0 = λ i. is-saved i ≡ true in (
            t,
            (
              omega arith,
              not-yet,
              λ i from le. elim
                  (cases_eq i (suc n)) [
                    | inl same ↦ subst P (sym same) e
                    | inr apart ↦ then i from
                        (omega arith)
                  ],
            ),
          )

  bad-parts : (is-saved k ≡ true)
      × ((j : ℕ) → j < length (bad_wires net) →
      wire_value (path k) (wire_at (bad_wires net) j) ≡ true)
  bad-parts = all-of-true (path k) (literal (saved net)) (bad_wires net)
      (sym (bad-value net (path k) (right k (omega arith))) ∙ bad.ends)

  bad-lists : ((j : ℕ) → j < length net.fairs → literal_value (path k) (seen net j) ≡ true)
      × ((j : ℕ) → j < length net.latches →
      wire_value (path k) (equal (literal (raw net j)) (literal (copied_latch net j))) ≡ true)
  bad-lists =
      let (a, b) = listed-append (literal 0) (length net.fairs) (λ j. literal (seen net j))
      (listed 0 (length net.latches)
      (λ j. equal (literal (raw net j)) (literal (copied_latch net j))))
      (λ _ x. wire_value (path k) x ≡ true) bad-parts.1 in (
        a,
        listed-each (literal 0) (length net.latches)
            (λ j. equal (literal (raw net j)) (literal (copied_latch net j)))
            (λ _ x. wire_value (path k) x ≡ true) b,
      )

  module _ (t : ℕ) (saves : Saves k t) where
    grab-then : literal_value (path t) (grab net) ≡ true
    grab-then =
        let lt = saves.0 in
        let not-yet : is-saved t ≡ false = saves.1 in
        let taken : literal_value (path t) (take net) ≡ true =
        sym (or-left-false _ _ not-yet) ∙ sym (saved-next t lt)
        ∙ saves.2 (suc t) (omega arith) (omega arith) in
        grab-value net (path t) (right t (omega arith)) ∙ ap (λ b. b && not (is-saved t)) taken
        ∙ ap not not-yet

    no-grab : (i : ℕ) → t < i → i ≤ k → literal_value (path i) (grab net) ≡ false
    no-grab i from le =
        let yes : is-saved i ≡ true = saves.2 i from le in
        grab-value net (path i) (right i le)
        ∙ ap (λ b. literal_value (path i) (take net) && not b) yes
        ∙ and-false (literal_value (path i) (take net))
      where
        and-false : (b : Bool) → (b && false) ≡ false
        and-false true = refl
        and-false false = refl

    abbrev copied : ℕ → ℕ → Bool
    copied j i = literal_value (path i) (copied_latch net j)

    copy-next : (i j : ℕ) → i < k → j < length net.latches →
        copied j (suc i) ≡ wire_value (path i) (copy_wire net j)
    copy-next i j lt few =
        value-even (path (suc i)) (var (suc (length net.fairs + (length net.latches + j))))
        ∙ (steps i lt).on_copy j few ∙ copy-value net (path i) (right i (omega arith)) j few

    copy-kept : (j : ℕ) → j < length net.latches → (d : ℕ) → suc (t + d) ≤ k →
        copied j (suc (t + d)) ≡ w t (latch_variable net j)
    copy-kept j few zero le =
        let e : t + 0 ≡ t = omega arith in
        ap (λ i. copied j (suc i)) e ∙ copy-next t j (omega arith) few ∙ copy-taken _ _ _ grab-then
        ∙ effective-value net (path t) (right t (omega arith)) j few
        ∙ sym (shown-latch net (path t) (right t (omega arith)) j few)
    copy-kept j few (suc d) le =
        let e : t + suc d ≡ suc (t + d) = omega arith in
        ap (λ i. copied j (suc i)) e ∙ copy-next (suc (t + d)) j (omega arith) few
        ∙ copy-stays _ _ _ (no-grab (suc (t + d)) (omega arith) (omega arith))
        ∙ copy-kept j few d (omega arith)

    comes-back : (j : ℕ) → j < length net.latches →
        w k (latch_variable net j) ≡ w t (latch_variable net j)
    comes-back j few = from k refl
      where
        from : (n : ℕ) → n ≡ k → w n (latch_variable net j) ≡ w t (latch_variable net j)
        from zero e = absurd (omega (arith, e, saves.0))
        from (suc n) e =
            let P : ℕ → Type 0 = λ i. literal_value (path i) (raw net j) ≡ copied j i in
            let same : P (suc n) = subst P (sym e) (equal-true _ _ (bad-lists.1 j few)) in
            let d : ℕ = n - t in
            let at : suc (t + d) ≡ suc n = omega (arith, e, saves.0) in
            effective-later n (omega (arith, e)) j few ∙ same ∙ ap (copied j) (sym at)
            ∙ copy-kept j few d (omega (arith, e, saves.0))

    -- each fairness literal was true since
    abbrev was : ℕ → ℕ → Type 0
    was j n = (q : ℕ) × (t ≤ q) × (q < n) × IsTrue (literal_value (w q) (literal_at net.fairs j))

    seen-next : (i j : ℕ) → i < k → j < length net.fairs →
        literal_value (path (suc i)) (seen net j) ≡ wire_value (path i) (seen_wire net j)
    seen-next i j lt few =
        value-even (path (suc i)) (var (suc j)) ∙ (steps i lt).on_seen j few
        ∙ seen-value net (path i) (right i (omega arith)) j few

    seen-true : (n f s x : Bool) → (n && not (not f && not (s && x))) ≡ true →
        (f ≡ true) ⊎ ((s ≡ true) × (x ≡ true))
    seen-true true true s x e = inl refl
    seen-true true false true true e = inr (refl, refl)
    seen-true true false true false e = absurd (cc)
    seen-true true false false x e = absurd (cc)
    seen-true false f s x e = absurd (cc)

    was-true : (j : ℕ) → j < length net.fairs → (d : ℕ) → suc (t + d) ≤ k →
        literal_value (path (suc (t + d))) (seen net j) ≡ true → was j (suc (t + d))
    was-true j few zero le e =
        let at : t + 0 ≡ t = omega arith in
        let here : literal_value (path (suc t)) (seen net j) ≡ true =
        ap (λ i. literal_value (path (suc i)) (seen net j)) (sym at) ∙ e in
        elim (seen-true (literal_value (path t) (next_saved net))
        (literal_value (path t) (safe_literal net (literal_at net.fairs j))) (is-saved t)
        (literal_value (path t) (seen net j)) (sym (seen-next t j (omega arith) few) ∙ here)) [
          | inl f ↦ (
            t,
            omega arith,
            omega arith,
            sym
                (safe-value net (path t) (literal_at net.fairs j)) ∙ f,
          )
          | inr (s, _) ↦ absurd (let no_s = saves.1 in cc)
        ]
    was-true j few (suc d) le e =
        let at : t + suc d ≡ suc (t + d) = omega arith in
        let i : ℕ = suc (t + d) in
        let here : literal_value (path (suc i)) (seen net j) ≡ true =
        ap (λ i. literal_value (path (suc i)) (seen net j)) (sym at) ∙ e in
        elim (seen-true (literal_value (path i) (next_saved net))
        (literal_value (path i) (safe_literal net (literal_at net.fairs j))) (is-saved i)
        (literal_value (path i) (seen net j)) (sym (seen-next i j (omega arith) few) ∙ here)) [
          | inl f ↦ (
            i,
            omega arith,
            omega arith,
            sym
                (safe-value net (path i) (literal_at net.fairs j)) ∙ f,
          )
          | inr (_, x) ↦ let (q, from, lt, is) = was-true j few d (omega arith) x in
              (q, from, omega arith, is)
        ]

    pub unfolded : IsLassoExecution net (lasso_of w t (k - t))
    unfolded =
        let lt = saves.0 in
        let whole : t + (k - t) ≡ k = omega arith in
        run-closed net (lasso_of w t (k - t)) (let l = length-part w t (k - t) in
        omega (arith, l, lt))
        (loop-run net w t (k - t) (omega arith) start-shown
        (λ i small. shown-right net (path i) (right i (omega arith)))
        (λ i small. step-shown i (omega arith)) (λ i small. kept-shown i (omega arith))
        (λ j few. ap (λ n. w n (latch_variable net j)) whole ∙ comes-back j few))
        (λ j few.
        let e : suc (t + (k - suc t)) ≡ k = omega arith in
        let S : ℕ → Type 0 = λ n. literal_value (path n) (seen net j) ≡ true in
        let (q, from, below, is) = was-true j few (k - suc t) (omega arith)
        (subst S (sym e) (bad-lists.0 j few)) in
        let l = length-part w t (k - t) in
        let at : t + (q - t) ≡ q = omega arith in
        let V : Valuation → Type 0 = λ v. IsTrue (literal_value v (literal_at net.fairs j)) in (
          q - t,
          omega (arith, l, below, from, e),
          subst V
              (sym (at-part w t (k - t) (q - t) (omega (arith, below, from, e)) ∙ ap w at)) is,
        ))

  -- the step that saves, and the lasso from it
  pub unfolding-path : (t : ℕ) × (t < k) × (literal_value (path t) (saved net) ≡ false)
      × ((i : ℕ) → t < i → i ≤ k → literal_value (path i) (saved net) ≡ true)
      × IsLassoExecution net (lasso_of (shown_word net path) t (k - t))
  unfolding-path = let (t, saves) = find k (omega arith) bad-parts.0 in
      (t, saves.0, saves.1, saves.2, unfolded t saves)

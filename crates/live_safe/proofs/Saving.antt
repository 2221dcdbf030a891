-- A lasso execution gives a path of the safe net from the start to bad.
use Rattle.std.proofs.Common.{◌≡◌, ◌≢◌, ℕ, zero, suc, ◌+◌, ◌-◌, ◌*◌, ◌/◌, ◌<◌, ◌≤◌, Bool, true, false, not, ◌&&◌, cond, nat_lt, nat_eq, List, [], ◌∷◌, length, get_or, IsTrue, inl, inr, refl, sym, ap, ◌∙◌, subst, arith}
use Rattle.std.proofs.lemmas.Bool.{cases_eq, cases_lt, ne_eqb, eq-eqb, and_from, lt-ltb, le-ltb}
use Rattle.hy_base.proofs.Truths.{cond-below, cond-above}
use Rattle.aig_net.specs.declared.parts.Reset.{Reset}
use Rattle.aig_net.specs.declared.parts.Reset.TheVariants.{Zero, One, Free}
use Rattle.aig_net.specs.Nets.{Net, ResetTo, Valuation, literal_value, reset_at, literal_at, latch_variable, first_and, variables, Below, IsRight, IsStart, IsStep, AllTrue, IsNet}
use Rattle.aig_net.specs.Executions.{Word, IsRun, IsLassoExecution, Lasso, gone, no_values}
use Rattle.live_safe.specs.Paths.{IsBadPath}
use Rattle.aig_net.specs.Wires.{all_of, Wire, literal, both, equal, wire_value, wire_at}
use Rattle.hy_base.specs.Rows.{listed}
use Rattle.live_safe.specs.Safe.{begun_nexts, count_below, is_free, is_set, free_at, has_begun, safe_inputs, take, free_input, shape, saved, seen, raw, copied_latch, begun, safe_first, effective, safe_literal, grab, next_saved, bad_wires, closing, safe_latches, to_safe, shown, shown_word}
use Rattle.aig_net.proofs.Literals.{value-even, value-same}
use Rattle.aig_net.proofs.Valuations.{filled, valuation-right, valuation-given, valuation-only}
use Rattle.aig_net.proofs.Rounds.{at-round, gone-recurs}
use Rattle.hy_base.proofs.Listed.{each-map, append-listed, each-listed}
use Rattle.aig_net.proofs.Disjunctions.{true-or-left, true-or-right}
use Rattle.live_safe.proofs.Shapes.{ShapeFacts, shape-facts, facts-shape, count-below, chosen, chosen-at}
use Rattle.live_safe.proofs.Starts.{false-start}
use Rattle.aig_net.proofs.Closings.{closed-run}
use Rattle.live_safe.proofs.SafeGates.{first-safe, variable-early, safe-value, shown-right, shown-latch, effective-value, grab-value, next_saved-value, seen-value, copy-value, bad-value}
use Rattle.live_safe.proofs.SafeRange.{safe-ordered}
use Rattle.live_safe.proofs.Unfolding.{is-set-begun, on-later, on-first, copy-taken, copy-stays}

all-of-holds : (v : Valuation) (w : Wire) (ws : List Wire) → wire_value v w ≡ true →
    ((j : ℕ) → j < length ws → wire_value v (wire_at ws j) ≡ true) →
    wire_value v (all_of w ws) ≡ true
all-of-holds v w [] e all = e
all-of-holds v w (x ∷ ws) e all =
    all-of-holds v (both w x) ws (and_from _ _ e (all 0 (omega arith)))
    (λ j lt. all (suc j) (omega arith))

true-equal : (a b : Bool) → a ≡ b → not (not (not (a && not b) && not (not a && b))) ≡ true
true-equal true true e = refl
true-equal true false e = absurd (cc)
true-equal false true e = absurd (cc)
true-equal false false e = refl

module _ (net : Net) (good : IsNet net) (word : Word) (run : IsRun net word) (s c : ℕ)
    (some : 0 < c) where
  -- ---- the inputs and latches

  abbrev was_true : ℕ → ℕ → Bool
  was_true j i = literal_value (word i) (literal_at net.fairs j)

  abbrev seen_by : ℕ → ℕ → Bool
  seen_by j zero = false
  seen_by j (suc i) = nat_lt s (suc i) && not
      (not (was_true j i) && not (nat_lt s i && seen_by j i))

  abbrev latch_by : ℕ → ℕ → Bool
  latch_by j zero = false
  latch_by j (suc i) = word (suc i) (latch_variable net j)

  abbrev copy_by : ℕ → ℕ → Bool
  copy_by j i = nat_lt s i && word s (latch_variable net j)

  abbrev begun_by : ℕ → Bool
  begun_by zero = false
  begun_by (suc i) = true

  abbrev row : ℕ → List Bool
  row i = shape net (nat_lt s i) (λ j. seen_by j i) (λ j. latch_by j i) (λ j. copy_by j i)
      (begun_by i ∷ [])

  abbrev frees : ℕ → List Bool
  frees i = chosen (free_at net) (λ j. word i (latch_variable net j)) false (length net.latches)

  abbrev given : ℕ → Valuation
  given i u =
      cond (nat_lt net.inputs u)
      (cond (nat_lt (suc net.inputs) u)
      (cond (nat_lt (safe_inputs net) u) (get_or (row i) (u - suc (safe_inputs net)) false)
      (get_or (frees i) (u - suc (suc net.inputs)) false)) (nat_eq i s))
      (word i u)

  pub path : Word
  path i = filled (first_and (to_safe net).net) (closing net).ands (given i)

  path-right : (i : ℕ) → IsRight (to_safe net).net (path i)
  unfolding path
  path-right i = valuation-right (to_safe net).net (given i) (safe-ordered net good)
      (cond-above net.inputs 0 _ _ (omega arith) ∙ (run.right i).constant)

  path-given : (i u : ℕ) → u < safe_first net → path i u ≡ given i u
  unfolding path
  path-given i u lt = let e = first-safe net in
      valuation-given (to_safe net).net (given i) u (omega (arith, e, lt))

  path-early : (i u : ℕ) → u ≤ net.inputs → path i u ≡ word i u
  path-early i u le = path-given i u (omega arith) ∙ cond-above net.inputs u _ _ le

  path-take : (i : ℕ) → path i (suc net.inputs) ≡ nat_eq i s
  path-take i = path-given i (suc net.inputs) (omega arith)
      ∙ cond-below net.inputs (suc net.inputs) _ _ (omega arith)
      ∙ cond-above (suc net.inputs) (suc net.inputs) _ _ (omega arith)

  path-free : (i j : ℕ) → j < length net.latches → free_at net j ≡ true →
      literal_value (path i) (free_input net j) ≡ word i (latch_variable net j)
  path-free i j lt is =
      let n = count-below (free_at net) (length net.latches) j lt is in
      let u : ℕ = suc (net.inputs + suc (count_below (free_at net) j)) in
      let at : u - suc (suc net.inputs) ≡ count_below (free_at net) j = omega arith in
      value-even (path i) u ∙ path-given i u (omega (arith, n))
      ∙ cond-below net.inputs u _ _ (omega arith) ∙ cond-below (suc net.inputs) u _ _ (omega arith)
      ∙ cond-above (safe_inputs net) u _ _ (omega (arith, n))
      ∙ ap (λ x. get_or (frees i) x false) at
      ∙ chosen-at (free_at net) (λ j. word i (latch_variable net j)) false
      (length net.latches) j lt is

  abbrev var : ℕ → ℕ
  var j = suc (safe_inputs net + j)

  path-row : (i j : ℕ) → var j < safe_first net → path i (var j) ≡ get_or (row i) j false
  path-row i j lt =
      let at : var j - suc (safe_inputs net) ≡ j = omega arith in
      path-given i (var j) lt ∙ cond-below net.inputs (var j) _ _ (omega arith)
      ∙ cond-below (suc net.inputs) (var j) _ _ (omega arith)
      ∙ cond-below (safe_inputs net) (var j) _ _ (omega arith)
      ∙ ap (λ x. get_or (row i) x false) at

  rows : (i : ℕ) → ShapeFacts false net (nat_lt s i) (λ j. seen_by j i) (λ j. latch_by j i)
      (λ j. copy_by j i) (begun_by i ∷ []) (λ j b. var j < safe_first net → path i (var j) ≡ b)
  rows i = shape-facts false net (nat_lt s i) (λ j. seen_by j i) (λ j. latch_by j i)
      (λ j. copy_by j i) (begun_by i ∷ []) (λ j b. var j < safe_first net →
      path i (var j) ≡ b) (λ j _ lt. path-row i j lt)

  path-saved : (i : ℕ) → path i (var 0) ≡ nat_lt s i
  path-saved i = (rows i).on_saved (omega arith)

  path-seen : (i j : ℕ) → j < length net.fairs → path i (var (suc j)) ≡ seen_by j i
  path-seen i j lt = (rows i).on_seen j lt (omega arith)

  path-latch : (i j : ℕ) → j < length net.latches →
      path i (var (suc (length net.fairs + j))) ≡ latch_by j i
  path-latch i j lt = (rows i).on_latch j lt (omega arith)

  path-copy : (i j : ℕ) → j < length net.latches →
      path i (var (suc (length net.fairs + (length net.latches + j)))) ≡ copy_by j i
  path-copy i j lt = (rows i).on_copy j lt (omega arith)

  path-begun : (i : ℕ) → has_begun net ≡ true →
      path i (var (suc (length net.fairs +
      (length net.latches + (length net.latches + 0))))) ≡ begun_by i
  path-begun i e = (rows i).on_begun 0 (omega arith) (at (has_begun net) refl e)
    where
      at : (b : Bool) → has_begun net ≡ b → b ≡ true →
          var (suc (length net.fairs + (length net.latches +
          (length net.latches + 0)))) < safe_first net
      at true same h = let P : Bool → Type 0 =
          λ b. var (suc (length net.fairs + (length net.latches + (length net.latches + 0)))) < suc
          (safe_inputs net + suc (length net.fairs +
          (length net.latches + (length net.latches + cond b 1 0)))) in
          subst P (sym same) (omega arith)
      at false same h = absurd (cc)

  begun-value : (i : ℕ) → has_begun net ≡ true → literal_value (path i) (begun net) ≡ begun_by i
  begun-value i e =
      let at : begun net ≡ 2 * var (suc
      (length net.fairs + (length net.latches + (length net.latches + 0)))) = omega arith in
      ap (literal_value (path i)) at
      ∙ value-even (path i) (var (suc
      (length net.fairs + (length net.latches + (length net.latches + 0))))) ∙ path-begun i e

  -- ---- what the path shows

  raw-value : (i j : ℕ) → j < length net.latches → literal_value (path i) (raw net j) ≡ latch_by j i
  raw-value i j lt = value-even (path i) (var (suc (length net.fairs + j))) ∙ path-latch i j lt

  shows-first : (j : ℕ) → j < length net.latches → (r : Reset) → (reset_at net.resets j) ≡ r →
      wire_value (path 0) (effective net j r) ≡ word 0 (latch_variable net j)
  shows-first j lt Zero e =
      let P : Reset → Type 0 = λ r. ResetTo r (word 0 (latch_variable net j)) in
      raw-value 0 j lt ∙ sym (subst P e (run.starts j lt))
  shows-first j lt One e =
      let P : Reset → Type 0 = λ r. ResetTo r (word 0 (latch_variable net j)) in
      let Q : Reset → Type 0 = λ r. is_set r ≡ true in
      on-first _ _ (begun-value 0 (is-set-begun net j lt (subst Q (sym e) refl)))
      ∙ sym (subst P e (run.starts j lt))
  shows-first j lt Free e =
      let Q : Reset → Type 0 = λ r. is_set r ≡ true in
      let R : Reset → Type 0 = λ r. is_free r ≡ true in
      copy-stays _ _ _ (begun-value 0 (is-set-begun net j lt (subst Q (sym e) refl)))
      ∙ path-free 0 j lt (subst R (sym e) refl)

  shows-later : (i j : ℕ) → j < length net.latches → (r : Reset) → (reset_at net.resets j) ≡ r →
      wire_value (path (suc i)) (effective net j r) ≡ word (suc i) (latch_variable net j)
  shows-later i j lt Zero e = raw-value (suc i) j lt
  shows-later i j lt One e =
      let Q : Reset → Type 0 = λ r. is_set r ≡ true in
      on-later _ _ (begun-value (suc i) (is-set-begun net j lt (subst Q (sym e) refl)))
      ∙ raw-value (suc i) j lt
  shows-later i j lt Free e =
      let Q : Reset → Type 0 = λ r. is_set r ≡ true in
      copy-taken _ _ _ (begun-value (suc i) (is-set-begun net j lt (subst Q (sym e) refl)))
      ∙ raw-value (suc i) j lt

  shows-latch : (i j : ℕ) → j < length net.latches →
      wire_value (path i) (effective net j (reset_at net.resets j)) ≡ word i (latch_variable net j)
  shows-latch zero j lt = shows-first j lt (reset_at net.resets j) refl
  shows-latch (suc i) j lt = shows-later i j lt (reset_at net.resets j) refl

  shows-given : (i u : ℕ) → u < first_and net → shown net (path i) u ≡ word i u
  shows-given i u lt =
      elim (cases_lt net.inputs u) [
        | inr early ↦ ap (literal_value (path i)) (variable-early net u early)
            ∙ value-even (path i) u ∙ path-early i u early
        | inl late ↦
            let j : ℕ = u - suc net.inputs in
            let at : latch_variable net j ≡ u = omega arith in
            let few : j < length net.latches = omega arith in
            ap (shown net (path i)) (sym at) ∙ shown-latch net (path i) (path-right i) j few
            ∙ shows-latch i j few ∙ ap (word i) at
      ]

  pub shows : (i u : ℕ) → u < variables net → shown_word net path i u ≡ word i u
  shows i u lt = valuation-only net (shown net (path i)) (word i) good.ordered
      (shown-right net (path i) (path-right i)) (run.right i) (shows-given i) u lt

  shows-value : (i l : ℕ) → Below (variables net) l →
      literal_value (path i) (safe_literal net l) ≡ literal_value (word i) l
  shows-value i l below = safe-value net (path i) l
      ∙ value-same (shown net (path i)) (word i) l (shows i (l / 2) below)

  -- ---- the steps

  saved-value : (i : ℕ) → literal_value (path i) (saved net) ≡ nat_lt s i
  saved-value i = value-even (path i) (var 0) ∙ path-saved i

  take-value : (i : ℕ) → literal_value (path i) (take net) ≡ nat_eq i s
  take-value i = value-even (path i) (suc net.inputs) ∙ path-take i

  abbrev either-of : Bool → Bool → Bool
  either-of a b = not (not a && not b)

  saved-or-take : (i : ℕ) → nat_lt s (suc i) ≡ either-of (nat_lt s i) (nat_eq i s)
  saved-or-take i =
      elim (cases_lt s i) [
        | inl past ↦ lt-ltb s (suc i) (omega arith) ∙ sym (true-or-left _ _ (lt-ltb s i past))
        | inr le ↦
            elim (cases_eq i s) [
              | inl e ↦ lt-ltb s (suc i) (omega arith) ∙ sym (true-or-right _ _ (eq-eqb i s e))
              | inr apart ↦ le-ltb s (suc i) (omega arith)
                  ∙ sym (ap (λ b. either-of b (nat_eq i s)) (le-ltb s i le)
                  ∙ ap (either-of false) (ne_eqb i s apart))
            ]
      ]

  next_saved-is : (i : ℕ) → literal_value (path i) (next_saved net) ≡ nat_lt s (suc i)
  next_saved-is i =
      next_saved-value net (path i) (path-right i)
      ∙ ap (λ b. either-of b (literal_value (path i) (take net))) (saved-value i)
      ∙ ap (either-of (nat_lt s i)) (take-value i) ∙ sym (saved-or-take i)

  seen-is : (i j : ℕ) → j < length net.fairs →
      literal_value (path i) (literal_at (closing net).literals j) ≡ seen_by j (suc i)
  seen-is i j lt =
      let n : Bool = literal_value (path i) (next_saved net) in
      let f : Bool = literal_value (path i) (safe_literal net (literal_at net.fairs j)) in
      let sv : Bool = literal_value (path i) (saved net) in
      let x : Bool = literal_value (path i) (seen net j) in
      let ex : x ≡ seen_by j i = value-even (path i) (var (suc j)) ∙ path-seen i j lt in
      seen-value net (path i) (path-right i) j lt
      ∙ ap (λ b. b && either-of f (sv && x)) (next_saved-is i)
      ∙ ap (λ b. nat_lt s (suc i) && either-of b (sv && x))
      (shows-value i (literal_at net.fairs j) (good.fairs j lt))
      ∙ ap (λ b. nat_lt s (suc i) && either-of (was_true j i) (b && x)) (saved-value i)
      ∙ ap (λ b. nat_lt s (suc i) && either-of (was_true j i) (nat_lt s i && b)) ex

  copy-is : (i j : ℕ) → j < length net.latches →
      literal_value (path i) (literal_at (closing net).literals (length net.fairs + j)) ≡ copy_by j
      (suc i)
  copy-is i j lt =
      let here : literal_value (path i) (grab net) ≡ (nat_eq i s && not (nat_lt s i)) =
      grab-value net (path i) (path-right i)
      ∙ ap (λ b. b && not (literal_value (path i) (saved net))) (take-value i)
      ∙ ap (λ b. nat_eq i s && not b) (saved-value i) in
      let old : literal_value (path i) (copied_latch net j) ≡ copy_by j i =
      value-even (path i) (var (suc (length net.fairs + (length net.latches + j))))
      ∙ path-copy i j lt in
      copy-value net (path i) (path-right i) j lt ∙ elim (cases_eq i s) [
        | inl e ↦
            let grabs : literal_value (path i) (grab net) ≡ true =
            here ∙ and_from _ _ (eq-eqb i s e) (ap not (le-ltb s i (omega arith))) in
            copy-taken _ _ _ grabs ∙ effective-value net (path i) (path-right i) j lt
            ∙ shows-latch i j lt ∙ ap (λ x. word x (latch_variable net j)) e
            ∙ sym (ap (λ b. b && word s (latch_variable net j))
            (lt-ltb s (suc i) (omega arith)))
        | inr apart ↦
            let grabs : literal_value (path i) (grab net) ≡ false =
            here ∙ ap (λ b. b && not (nat_lt s i)) (ne_eqb i s apart) in
            copy-stays _ _ _ grabs ∙ old ∙ ap (λ b. b && word s (latch_variable net j))
            (same-side apart)
      ]
    where
      same-side : i ≢ s → nat_lt s i ≡ nat_lt s (suc i)
      same-side apart =
          elim (cases_lt s i) [
            | inl past ↦ lt-ltb s i past ∙ sym (lt-ltb s (suc i) (omega arith))
            | inr le ↦ le-ltb s i le ∙ sym (le-ltb s (suc i) (omega arith))
          ]

  abbrev begun-latches : List ℕ
  begun-latches = begun_nexts (has_begun net)

  begun-each : (P : ℕ → ℕ → Type 0) → (has_begun net ≡ true → P 0 1) → (j : ℕ) →
      j < length begun-latches → P j (get_or begun-latches j 0)
  begun-each P p = at (has_begun net) p
    where
      at : (b : Bool) → (b ≡ true → P 0 1) → (j : ℕ) → j < length (begun_nexts b) →
          P j (get_or (begun_nexts b) j 0)
      at true p zero lt = p refl
      at true p (suc j) lt = absurd (omega arith)
      at false p j lt = absurd (omega arith)

  latches-each : (P : ℕ → ℕ → Type 0) →
      ShapeFacts 0 net (next_saved net) (literal_at (closing net).literals)
      (λ j. safe_literal net (literal_at net.latches j))
      (λ j. literal_at (closing net).literals (length net.fairs + j)) begun-latches P → (j : ℕ) →
      j < length (safe_latches net) → P j (literal_at (safe_latches net) j)
  latches-each P all = facts-shape 0 net (next_saved net) (literal_at (closing net).literals)
      (λ j. safe_literal net (literal_at net.latches j))
      (λ j. literal_at (closing net).literals (length net.fairs + j)) begun-latches P all

  path-starts : IsStart (to_safe net).net (path 0)
  path-starts = false-start net (path 0) (latches-each (λ j _. path 0 (var j) ≡ false) (record {
    on_saved = path-saved 0 ∙ le-ltb s 0 (omega arith);
    on_seen = λ j lt. path-seen 0 j lt;
    on_latch = λ j lt. path-latch 0 j lt;
    on_copy = λ j lt. path-copy 0 j lt
        ∙ ap (λ b. b && word s (latch_variable net j)) (le-ltb s 0 (omega arith));
    on_begun = begun-each (λ j _. path 0
        (var (suc (length net.fairs + (length net.latches + (length net.latches + j))))) ≡ false)
        (λ e. path-begun 0 e);
  }))

  path-steps : (i : ℕ) → IsStep (to_safe net).net (path i) (path (suc i))
  path-steps i = latches-each (λ j latch. path (suc i) (var j) ≡ literal_value (path i) latch)
      (record {
        on_saved = path-saved (suc i) ∙ sym (next_saved-is i);
        on_seen = λ j lt. path-seen (suc i) j lt ∙ sym (seen-is i j lt);
        on_latch = λ j lt. path-latch (suc i) j lt ∙ run.goes i j lt
            ∙ sym (shows-value i (literal_at net.latches j) (good.latches j lt));
        on_copy = λ j lt. path-copy (suc i) j lt ∙ sym (copy-is i j lt);
        on_begun = begun-each (λ j latch. path (suc i)
            (var (suc (length net.fairs + (length net.latches +
            (length net.latches + j))))) ≡ literal_value (path i) latch) (λ e. path-begun (suc i) e
            ∙ sym (ap not (path-right i).constant));
      })

  path-kept : (i : ℕ) → AllTrue (to_safe net).net.constraints (path i)
  path-kept i = each-map (safe_literal net) 0 0 net.constraints
      (λ _ l. IsTrue (literal_value (path i) l))
      (λ j lt. shows-value i (literal_at net.constraints j) (good.constraints j lt)
      ∙ run.kept i j lt)

  -- ---- bad

  module _ (back : (j : ℕ) → j < length net.latches →
      word (s + c) (latch_variable net j) ≡ word s (latch_variable net j)) (fair : (j : ℕ) →
      j < length net.fairs → (q : ℕ) × (s ≤ q) × (q < s + c) × IsTrue (was_true j q)) where
    seen-since : (j q : ℕ) → s ≤ q → was_true j q ≡ true → (d : ℕ) → seen_by j (suc (q + d)) ≡ true
    seen-since j q from is zero =
        let e : q + 0 ≡ q = omega arith in
        ap (λ x. seen_by j (suc x)) e ∙ and_from _ _ (lt-ltb s (suc q) (omega arith))
        (true-or-left _ _ is)
    seen-since j q from is (suc d) =
        let e : q + suc d ≡ suc (q + d) = omega arith in
        ap (λ x. seen_by j (suc x)) e ∙ and_from _ _ (lt-ltb s (suc (suc (q + d))) (omega arith))
        (true-or-right _ _ (and_from _ _ (lt-ltb s (suc (q + d)) (omega arith))
        (seen-since j q from is d)))

    raw-last : (j : ℕ) → j < length net.latches →
        literal_value (path (s + c)) (raw net j) ≡ word (s + c) (latch_variable net j)
    raw-last j lt = at (s + c) (omega arith)
      where
        at : (n : ℕ) → 0 < n → literal_value (path n) (raw net j) ≡ word n (latch_variable net j)
        at zero pos = absurd (omega arith)
        at (suc n) pos = raw-value (suc n) j lt

    bad-all : (j : ℕ) → j < length (bad_wires net) →
        wire_value (path (s + c)) (wire_at (bad_wires net) j) ≡ true
    bad-all =
        append-listed (literal 0) (length net.fairs) (λ j. literal (seen net j))
        (listed 0 (length net.latches)
        (λ j. equal (literal (raw net j)) (literal (copied_latch net j))))
        (λ _ w. wire_value (path (s + c)) w ≡ true)
        (λ j lt.
        let (q, from, below, is) = fair j lt in
        let e : suc (q + (s + c - suc q)) ≡ s + c = omega arith in
        value-even (path (s + c)) (var (suc j)) ∙ path-seen (s + c) j lt ∙ ap (seen_by j) (sym e)
        ∙ seen-since j q from is (s + c - suc q))
        (each-listed (literal 0) (length net.latches)
        (λ j. equal (literal (raw net j)) (literal (copied_latch net j)))
        (λ _ w. wire_value (path (s + c)) w ≡ true)
        (λ j lt.
        true-equal _ _ (raw-last j lt ∙ back j lt
        ∙ sym (value-even (path (s + c))
        (var (suc (length net.fairs + (length net.latches + j)))) ∙ path-copy (s + c) j lt
        ∙ ap (λ b. b && word s (latch_variable net j)) (lt-ltb s (s + c) (omega arith))))))

    pub saved-path : IsBadPath (to_safe net) (s + c) path
    saved-path = record {
      starts = path-starts;
      along = record {
        right = λ i _. path-right i;
        kept = λ i _. path-kept i;
        goes =
            λ i _. path-steps i;
      };
      ends =
          bad-value net (path (s + c)) (path-right (s + c))
          ∙ all-of-holds (path (s + c)) (literal (saved net)) (bad_wires net)
          (saved-value (s + c) ∙ lt-ltb s (s + c) (omega arith)) bad-all;
    }

    pub saves-at : (literal_value (path s) (saved net) ≡ false)
        × (literal_value (path (suc s)) (saved net) ≡ true)
    saves-at = (
      saved-value s ∙ le-ltb s s (omega arith),
      saved-value (suc s)
          ∙ lt-ltb s (suc s) (omega arith),
    )

-- the path of a lasso execution
pub lasso-path : (net : Net) → IsNet net → (lasso : Lasso) → IsLassoExecution net lasso →
    (path : Word) × IsBadPath (to_safe net) (length lasso.stem + length lasso.cycle) path
    × (literal_value (path (length lasso.stem)) (saved net) ≡ false)
    × (literal_value (path (suc (length lasso.stem))) (saved net) ≡ true)
    × ((i u : ℕ) → u < variables net → shown_word net path i u ≡ gone lasso i u)
lasso-path net good lasso is =
    let s : ℕ = length lasso.stem in
    let c : ℕ = length lasso.cycle in
    let back : (j : ℕ) → j < length net.latches →
    gone lasso (s + c) (latch_variable net j) ≡ gone lasso s (latch_variable net j) =
    λ j lt. (gone-recurs lasso is.some).same s (latch_variable net j) (omega arith) in
    let fair : (j : ℕ) → j < length net.fairs →
    (q : ℕ) × (s ≤ q) × (q < s + c)
    × IsTrue (literal_value (gone lasso q) (literal_at net.fairs j)) =
    λ j lt. at j (is.fair j lt) in
    let saves = saves-at net good (gone lasso) (closed-run net lasso is) s c is.some back fair in (
      path net good (gone lasso) (closed-run net lasso is) s c is.some,
      saved-path net good
          (gone lasso)
          (closed-run net lasso is) s c is.some back fair,
      saves.0,
      saves.1,
      shows net good
          (gone lasso) (closed-run net lasso is) s c is.some,
    )
  where
    at : (j : ℕ) → (k : ℕ) × (k < length lasso.cycle)
        × IsTrue (literal_value (get_or lasso.cycle k no_values) (literal_at net.fairs j)) →
        (q : ℕ) × (length lasso.stem ≤ q) × (q < length lasso.stem + length lasso.cycle)
        × IsTrue (literal_value (gone lasso q) (literal_at net.fairs j))
    at j (k, lt, here) =
        let e : length lasso.stem + (k + 0 * length lasso.cycle) ≡ length lasso.stem + k =
        omega arith in
        let V : Valuation → Type 0 = λ v. IsTrue (literal_value v (literal_at net.fairs j)) in (
          length lasso.stem + k,
          omega arith,
          omega arith,
          subst V
              (sym (ap (gone lasso) (sym e) ∙ at-round lasso k 0 lt)) here,
        )

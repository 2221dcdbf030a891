-- Endless words that repeat, and the lassos that stand for them.
use Rattle.std.proofs.Common.{◌≡◌, ℕ, zero, suc, ◌+◌, ◌-◌, ◌*◌, ◌/◌, ◌%◌, ◌<◌, ◌≤◌, List, length, sym, ap, ◌∙◌, inl, inr, arith}
use Rattle.std.specs.FinSet.{empty}
use Rattle.std.proofs.Math.Nat.{mod-add-div, mod-lt, mod-eq_of_lt, mul_comm, add-mul-mod_self_right}
use Rattle.std.proofs.lemmas.Bool.{cases_lt}
use Rattle.hy_bits.specs.Letter.{Letter}
use Rattle.hy_formula.specs.Lassos.{Lasso}
use Rattle.hy_lasso.specs.Words.{letter_at}
use Rattle.hy_lasso.specs.Joint.{IsMultiple}
use Rattle.hy_lasso.specs.Rounds.{letter_of, RepeatsAfter, IsSharedEnd}
use Rattle.hy_lasso.proofs.LassoWords.{in-stem, in-cycle, lasso-repeats}

-- The word repeats after c positions, from s on.
abbrev pub Comes : (ℕ → Letter) → ℕ → ℕ → Type 0
Comes w s c = (i : ℕ) → s ≤ i → w (i + c) ≡ w i

pub rounds : (w : ℕ → Letter) (s c : ℕ) → Comes w s c → (n i : ℕ) → s ≤ i → w (i + n * c) ≡ w i
rounds w s c comes zero i le = let e : i + 0 * c ≡ i = omega arith in ap w e
rounds w s c comes (suc n) i le =
    let e : i + suc n * c ≡ i + n * c + c = omega arith in
    ap w e ∙ comes (i + n * c) (omega arith) ∙ rounds w s c comes n i le

-- a position in the first round
pub first-round : (w : ℕ → Letter) (s c : ℕ) → Comes w s c → (i : ℕ) → s ≤ i → w (s + (i - s) % c) ≡ w i
first-round w s c comes i le =
    let parts : (i - s) % c + c * ((i - s) / c) ≡ i - s = mod-add-div (i - s) c in
    let whole : s + (i - s) % c + (i - s) / c * c ≡ i = omega (arith, parts, mul_comm c ((i - s) / c)) in
    sym (rounds w s c comes ((i - s) / c) (s + (i - s) % c) (omega arith)) ∙ ap w whole

-- The stem and the cycle stand for the word.
pub record IsWordOf (stem cycle : List Letter) (w : ℕ → Letter) : Type 0 where
  pub some : 0 < length cycle
  pub front : (i : ℕ) → i < length stem → letter_of stem i ≡ w i
  pub back : (j : ℕ) → j < length cycle → letter_of cycle j ≡ w (length stem + j)
  pub comes : Comes w (length stem) (length cycle)

abbrev pub lasso_of : List Letter → List Letter → Lasso Letter
lasso_of stem cycle = record { stem = stem; cycle = cycle }

pub own-word : (stem cycle : List Letter) → 0 < length cycle → IsWordOf stem cycle (letter_at (lasso_of stem cycle))
own-word stem cycle some = record { some = some; front = λ i lt. sym (in-stem empty (lasso_of stem cycle) i lt); back = back; comes = comes }
  where
    back : (j : ℕ) → j < length cycle → letter_of cycle j ≡ letter_at (lasso_of stem cycle) (length stem + j)
    back j lt =
        let e : length stem + j - length stem ≡ j = omega arith in
        sym (in-cycle empty (lasso_of stem cycle) (length stem + j) (omega arith) ∙ ap (λ x. letter_of cycle (x % length cycle)) e ∙ ap (letter_of cycle) (mod-eq_of_lt lt))

    comes : Comes (letter_at (lasso_of stem cycle)) (length stem) (length cycle)
    comes i le =
        let e : i + length cycle ≡ i + 1 * length cycle = omega arith in
        ap (letter_at (lasso_of stem cycle)) e ∙ lasso-repeats empty (lasso_of stem cycle) 1 i le

pub word-is : (stem cycle : List Letter) (w : ℕ → Letter) → IsWordOf stem cycle w → (i : ℕ) → letter_at (lasso_of stem cycle) i ≡ w i
word-is stem cycle w of i =
    elim (cases_lt i (length stem)) [
      | inl before ↦ in-stem empty (lasso_of stem cycle) i before ∙ of.front i before
      | inr from ↦
          in-cycle empty (lasso_of stem cycle) i from
          ∙ of.back ((i - length stem) % length cycle) (mod-lt (i - length stem) of.some)
          ∙ first-round w (length stem) (length cycle) of.comes i from
    ]

-- ---- a cycle that is a repetition

pub repeats-many : (letters : List Letter) (d : ℕ) → RepeatsAfter letters d → (n y : ℕ) → y + n * d < length letters → letter_of letters (y + n * d) ≡ letter_of letters y
repeats-many letters d r zero y lt = let e : y + 0 * d ≡ y = omega arith in ap (letter_of letters) e
repeats-many letters d r (suc n) y lt =
    let e : y + suc n * d ≡ y + n * d + d = omega arith in
    ap (letter_of letters) e ∙ r (y + n * d) (omega (arith, lt)) ∙ repeats-many letters d r n y (omega (arith, lt))

comes-step : (stem cycle : List Letter) (w : ℕ → Letter) (d m i x q : ℕ) → IsWordOf stem cycle w → length cycle ≡ suc m * d → RepeatsAfter cycle d → x < length cycle → i ≡ length stem + x + q * length cycle → w (i + d) ≡ w i
comes-step stem cycle w d m i x q of e r below whole =
    ap w after ∙ rounds w (length stem) (length cycle) of.comes q (length stem + x + d) (omega arith)
    ∙ elim (cases_lt (x + d) (length cycle)) [ inl near ↦ inside near | inr far ↦ over far ]
    ∙ sym (rounds w (length stem) (length cycle) of.comes q (length stem + x) (omega arith))
    ∙ ap w (sym whole)
  where
    after : i + d ≡ length stem + x + d + q * length cycle
    after = omega (arith, whole)

    here : letter_of cycle x ≡ w (length stem + x)
    here = of.back x below

    inside : x + d < length cycle → w (length stem + x + d) ≡ w (length stem + x)
    inside near =
        let same : length stem + x + d ≡ length stem + (x + d) = omega arith in
        ap w same ∙ sym (of.back (x + d) near) ∙ r x near ∙ here

    over : length cycle ≤ x + d → w (length stem + x + d) ≡ w (length stem + x)
    over far =
        let once : length stem + x + d ≡ length stem + (x + d - length cycle) + length cycle = omega (arith, far) in
        let back_to : x + d - length cycle + m * d ≡ x = omega (arith, far, e) in
        let few : x + d - length cycle < length cycle = omega (arith, far, below, back_to) in
        let many : x + d - length cycle + m * d < length cycle = omega (arith, back_to, below) in
        ap w once
        ∙ of.comes (length stem + (x + d - length cycle)) (omega arith)
        ∙ sym (of.back (x + d - length cycle) few)
        ∙ sym (repeats-many cycle d r m (x + d - length cycle) many)
        ∙ ap (letter_of cycle) back_to
        ∙ here

-- The word comes again after as many positions as the cycle does.
pub comes-sooner : (stem cycle : List Letter) (w : ℕ → Letter) (d : ℕ) → IsWordOf stem cycle w → IsMultiple (length cycle) d → RepeatsAfter cycle d → Comes w (length stem) d
comes-sooner stem cycle w d of (zero, e) r i le = let lt = of.some in absurd (omega (arith, e, lt))
comes-sooner stem cycle w d of (suc m, e) r i le =
    let parts : (i - length stem) % length cycle + length cycle * ((i - length stem) / length cycle) ≡ i - length stem = mod-add-div (i - length stem) (length cycle) in
    comes-step stem cycle w d m i ((i - length stem) % length cycle) ((i - length stem) / length cycle) of e r (mod-lt (i - length stem) of.some)
    (omega (arith, parts, le, mul_comm (length cycle) ((i - length stem) / length cycle)))

-- ---- the stem rolled back into the cycle

pub rolled-comes : (stem cycle : List Letter) (w : ℕ → Letter) (k : ℕ) → IsWordOf stem cycle w → IsSharedEnd stem cycle k → Comes w (length stem - k) (length cycle)
rolled-comes stem cycle w k of shared i le =
    elim (cases_lt i (length stem)) [ inl before ↦ rolled (length stem - 1 - i) (omega arith) (omega arith) | inr from ↦ of.comes i from ]
  where
    rolled : (j : ℕ) → i ≡ length stem - 1 - j → j < k → w (i + length cycle) ≡ w i
    rolled j is lt = ap w there ∙ elim (cases_lt j (length cycle)) [ inl near ↦ near-by near | inr far ↦ far-off far ] ∙ here
      where
        there : i + length cycle ≡ length stem - 1 - j + length cycle
        there = let few = shared.few in omega (arith, is, few)

        here : letter_of cycle (length cycle - 1 - j % length cycle) ≡ w i
        here =
            let few = shared.few in
            let before : length stem - 1 - j < length stem = omega (arith, lt, few) in
            sym (shared.same j lt) ∙ of.front (length stem - 1 - j) before ∙ ap w (sym is)

        near-by : j < length cycle → w (length stem - 1 - j + length cycle) ≡ letter_of cycle (length cycle - 1 - j % length cycle)
        near-by near =
            let few = shared.few in
            let e : length stem - 1 - j + length cycle ≡ length stem + (length cycle - 1 - j) = omega (arith, lt, few, near) in
            ap w e ∙ sym (of.back (length cycle - 1 - j) (omega (arith, near))) ∙ ap (λ m. letter_of cycle (length cycle - 1 - m)) (sym (mod-eq_of_lt near))

        far-off : length cycle ≤ j → w (length stem - 1 - j + length cycle) ≡ letter_of cycle (length cycle - 1 - j % length cycle)
        far-off far =
            let few = shared.few in
            let some = of.some in
            let e : length stem - 1 - j + length cycle ≡ length stem - 1 - (j - length cycle) = omega (arith, lt, few, far) in
            let less : j - length cycle < k = omega (arith, lt, far, some) in
            let round : j - length cycle + 1 * length cycle ≡ j = omega (arith, far) in
            ap w e
            ∙ sym (of.front (length stem - 1 - (j - length cycle)) (omega (arith, less, few)))
            ∙ shared.same (j - length cycle) less
            ∙ ap (λ m. letter_of cycle (length cycle - 1 - m)) (sym (add-mul-mod_self_right (j - length cycle) 1 (length cycle)) ∙ ap (λ m. m % length cycle) round)

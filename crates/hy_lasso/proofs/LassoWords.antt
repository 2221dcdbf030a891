-- The words of lassos repeat.
use Rattle.std.proofs.Common.{◌≡◌, ℕ, zero, suc, ◌+◌, ◌-◌, ◌*◌, ◌%◌, ◌<◌, ◌≤◌, List, [], ◌∷◌, length, get_or, inl, inr, sym, ap, ◌∙◌, subst, arith}
use Rattle.std.specs.FinSet.{empty, contains}
use Rattle.std.proofs.Math.Nat.{add-mul-mod_self_right, mul-pos, mul_assoc}
use Rattle.std.proofs.lemmas.Bool.{cases_lt}
use Rattle.std.proofs.lemmas.List.{get_or_past}
use Rattle.hy_base.proofs.Truths.{cond-below, cond-above}
use Rattle.hy_bits.specs.Letter.{Letter}
use Rattle.hy_formula.specs.Lassos.{Lasso, lasso_at}
use Rattle.hy_formula.specs.Temporal.{endless, Repeats, IsDecided}
use Rattle.hy_formula.proofs.Repeating.{decided-repeating}
use Rattle.hy_lasso.specs.Words.{no_lasso, letter_at, lasso_words, AreLassos}
use Rattle.hy_lasso.specs.Joint.{IsMultiple, IsPeriod}

-- in the stem, and past it
pub in-stem : {A : Type 0} (none : A) (l : Lasso A) (i : ℕ) → i < length l.stem → lasso_at none l i ≡ get_or l.stem i none
in-stem none l i lt = cond-below i (length l.stem) _ _ lt

pub in-cycle : {A : Type 0} (none : A) (l : Lasso A) (i : ℕ) → length l.stem ≤ i → lasso_at none l i ≡ get_or l.cycle ((i - length l.stem) % length l.cycle) none
in-cycle none l i le = cond-above i (length l.stem) _ _ le

pub lasso-repeats : {A : Type 0} (none : A) (l : Lasso A) (m i : ℕ) → length l.stem ≤ i → lasso_at none l (i + m * length l.cycle) ≡ lasso_at none l i
lasso-repeats none l m i le =
    let there = in-cycle none l (i + m * length l.cycle) (omega arith) in
    let here = in-cycle none l i le in
    let apart : i + m * length l.cycle - length l.stem ≡ i - length l.stem + m * length l.cycle = omega arith in
    let same : (i + m * length l.cycle - length l.stem) % length l.cycle ≡ (i - length l.stem) % length l.cycle =
    ap (λ x. x % length l.cycle) apart ∙ add-mul-mod_self_right (i - length l.stem) m (length l.cycle) in
    there ∙ ap (λ x. get_or l.cycle x none) same ∙ sym here

pub tuple-repeats : (tuple : List (Lasso Letter)) (s c : ℕ) → IsPeriod tuple s c → Repeats (lasso_words tuple) s c
tuple-repeats tuple s c period = record { some = period.some; same = same }
  where
    at : (l : Lasso Letter) (name i : ℕ) → s ≤ i → length l.stem ≤ s → IsMultiple c (length l.cycle) → contains (letter_at l (i + c)) name ≡ contains (letter_at l i) name
    at l name i le short (m, e) =
        ap (λ x. contains (letter_at l (i + x)) name) e ∙ ap (λ x. contains x name) (lasso-repeats empty l m i (omega arith))

    same : (name variable i : ℕ) → s ≤ i → lasso_words tuple name variable (i + c) ≡ lasso_words tuple name variable i
    same name v i le =
        elim (cases_lt v (length tuple)) [
          | inl lt ↦ at (get_or tuple v no_lasso) name i le (period.stems v lt) (period.cycles v lt)
          | inr past ↦
              let P : Lasso Letter → Type 0 = λ l. contains (letter_at l (i + c)) name ≡ contains (letter_at l i) name in
              subst P (sym (get_or_past tuple v no_lasso past)) (ap (λ x. contains x name) (in-cycle empty no_lasso (i + c) (omega arith) ∙ sym (in-cycle empty no_lasso i (omega arith))))
        ]

-- a period: the stems together, and the product of the cycles
pub has-period : (tuple : List (Lasso Letter)) → AreLassos tuple → (s c : ℕ) × IsPeriod tuple s c
has-period [] good = (0, 1, record { some = omega arith; stems = λ v lt. absurd (omega arith); cycles = λ v lt. absurd (omega arith) })
has-period (l ∷ ls) good = step (has-period ls (λ v lt. good (suc v) (omega arith)))
  where
    step : ((s c : ℕ) × IsPeriod ls s c) → (s c : ℕ) × IsPeriod (l ∷ ls) s c
    step (s, c, p) = (length l.stem + s, length l.cycle * c, record { some = mul-pos (good 0 (omega arith)) p.some; stems = long; cycles = multiple })
      where
        long : (v : ℕ) → v < length (l ∷ ls) → length (get_or (l ∷ ls) v no_lasso).stem ≤ length l.stem + s
        long zero lt = omega arith
        long (suc v) lt = let le = p.stems v (omega arith) in omega arith

        multiple : (v : ℕ) → v < length (l ∷ ls) → IsMultiple (length l.cycle * c) (length (get_or (l ∷ ls) v no_lasso).cycle)
        multiple zero lt = (c, omega arith)
        multiple (suc v) lt =
            let (m, e) = p.cycles v (omega arith) in
            (length l.cycle * m, ap (λ x. length l.cycle * x) e ∙ sym (mul_assoc (length l.cycle) m _))

pub decided-lassos : (tuple : List (Lasso Letter)) → AreLassos tuple → IsDecided endless (lasso_words tuple)
decided-lassos tuple good =
    let (s, c, p) = has-period tuple good in
    decided-repeating s c (lasso_words tuple) (tuple-repeats tuple s c p)

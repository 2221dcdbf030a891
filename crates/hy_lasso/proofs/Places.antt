-- Rows that are gone round: what holds at their places holds at all positions where it repeats.
use Rattle.std.proofs.Common.{◌≡◌, ℕ, zero, suc, ◌+◌, ◌-◌, ◌*◌, ◌/◌, ◌%◌, ◌<◌, ◌≤◌, ◌↔◌, Bool, List, length, sym, ap, ◌∙◌, inl, inr, subst, arith}
use Rattle.std.specs.Bool.{Decides}
use Rattle.std.proofs.Math.Nat.{mod-add-div, mod-lt, mod-eq_of_lt, add-mul-mod_self_right, mul_comm}
use Rattle.std.proofs.lemmas.Bool.{cases_lt}
use Rattle.std.proofs.lemmas.Bool.Decides.{Decides-at, Decides-like}
use Rattle.hy_base.proofs.Truths.{cond-below, cond-above}
use Rattle.hy_formula.proofs.Repeating.{Steady}
use Rattle.hy_lasso.specs.Rows.{value_at, place, around, Says, Tells}

-- a position before the cycle is a place, and so is one in the first round
pub place-first : (s c i : ℕ) → i < s + c → place s c i ≡ i
place-first s c i lt =
    elim (cases_lt i s) [
      | inl before ↦ cond-below i s _ _ before
      | inr from ↦
          let few : i - s < c = omega arith in
          let same : s + (i - s) ≡ i = omega arith in
          cond-above i s _ _ from ∙ ap (λ x. s + x) (mod-eq_of_lt few) ∙ same
    ]

pub place-within : (s c i : ℕ) → 0 < c → place s c i < s + c
place-within s c i some =
    elim (cases_lt i s) [
      | inl before ↦ let e : place s c i ≡ i = cond-below i s _ _ before in omega (arith, e)
      | inr from ↦
          let e : place s c i ≡ s + (i - s) % c = cond-above i s _ _ from in
          let lt : (i - s) % c < c = mod-lt (i - s) some in
          omega (arith, e, lt)
    ]

place-round : (s c i : ℕ) → s ≤ i → place s c (i + c) ≡ place s c i
place-round s c i le =
    let apart : i + c - s ≡ i - s + 1 * c = omega arith in
    cond-above (i + c) s _ _ (omega arith)
    ∙ ap (λ x. s + x % c) apart
    ∙ ap (λ x. s + x) (add-mul-mod_self_right (i - s) 1 c)
    ∙ sym (cond-above i s _ _ le)

-- what a row says repeats
pub says-steady : (s : ℕ) (row : List Bool) → Steady s (length row - s) (Says s row)
says-steady s row i le =
    let e = ap (value_at row) (place-round s (length row - s) i le) in (λ h. sym e ∙ h, λ h. e ∙ h)

many-rounds : (s c : ℕ) (P : ℕ → Type 0) → Steady s c P → (n i : ℕ) → s ≤ i → P (i + n * c) ↔ P i
many-rounds s c P steady zero i le = let e : i + 0 * c ≡ i = omega arith in (λ h. subst P e h, λ h. subst P (sym e) h)
many-rounds s c P steady (suc n) i le =
    let e : i + suc n * c ≡ i + n * c + c = omega arith in
    let once = steady (i + n * c) (omega arith) in
    let rest = many-rounds s c P steady n i le in
    (λ h. rest.0 (once.0 (subst P e h)), λ h. subst P (sym e) (once.1 (rest.1 h)))

-- what repeats holds at a position where it holds at its place
pub at-place : (s c : ℕ) (P : ℕ → Type 0) → Steady s c P → (i : ℕ) → P (place s c i) ↔ P i
at-place s c P steady i =
    elim (cases_lt i s) [
      | inl before ↦ let e : place s c i ≡ i = cond-below i s _ _ before in (λ h. subst P e h, λ h. subst P (sym e) h)
      | inr from ↦
          let e : place s c i ≡ s + (i - s) % c = cond-above i s _ _ from in
          let parts : (i - s) % c + c * ((i - s) / c) ≡ i - s = mod-add-div (i - s) c in
          let whole : s + (i - s) % c + (i - s) / c * c ≡ i = omega (arith, parts, mul_comm c ((i - s) / c)) in
          let rounds = many-rounds s c P steady ((i - s) / c) (s + (i - s) % c) (omega arith) in
          (λ h. subst P whole (rounds.1 (subst P e h)), λ h. subst P (sym e) (rounds.0 (subst P (sym whole) h)))
    ]

-- A row that says at its places whether what repeats holds says it at all positions.
pub tells-everywhere : (s m : ℕ) (row : List Bool) (P : ℕ → Type 0) → s < m → length row ≡ m → Steady s (m - s) P → ((i : ℕ) → i < m → Decides (value_at row i) (P i)) → Tells s m row P
tells-everywhere s m row P some long steady right = record { some = some; long = long; right = all }
  where
    all : (i : ℕ) → Decides (around s row i) (P i)
    all i =
        let there = at-place s (m - s) P steady i in
        let here : Decides (value_at row (place s (m - s) i)) (P (place s (m - s) i)) =
        right (place s (m - s) i) (let lt = place-within s (m - s) i (omega arith) in omega (arith, lt)) in
        Decides-at _ _ (ap (λ n. value_at row (place s (n - s) i)) long) (Decides-like _ there.0 there.1 here)

-- the value at a place is that at the position
pub around-first : (s m : ℕ) (row : List Bool) → s < m → length row ≡ m → (i : ℕ) → i < m → around s row i ≡ value_at row i
around-first s m row some long i lt =
    ap (λ n. value_at row (place s (n - s) i)) long ∙ ap (value_at row) (place-first s (m - s) i (omega arith))

-- behind the last place stands the one at s
pub around-round : (s : ℕ) (row : List Bool) → s < length row → around s row (length row) ≡ value_at row s
around-round s row some =
    let e : length row ≡ s + (length row - s) = omega arith in
    ap (λ n. value_at row (place s (length row - s) n)) e
    ∙ ap (value_at row) (place-round s (length row - s) s (omega arith) ∙ place-first s (length row - s) s (omega arith))

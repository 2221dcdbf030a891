-- What until says at a position by what it says at the next one.
use Rattle.std.proofs.Common.{◌≡◌, ℕ, suc, ◌<◌, ◌≤◌, Bool, true, false, not, ◌&&◌, ◌||◌, inl, inr, refl, sym, subst, arith}
use Rattle.std.specs.Bool.{Decides}
use Rattle.std.proofs.lemmas.Bool.{cases_eq}
use Rattle.hy_formula.specs.Temporal.{below, IsUntil}

-- until at a position, when its right side holds there
until-now : (m i : ℕ) (P Q : ℕ → Type 0) → i < m → Q i → IsUntil (below m) P Q i
until-now m i P Q lt q = (i, omega arith, lt, q, λ k le under. absurd (omega arith))

-- until at a position, when its left side holds there and until at the next one
until-later : (m i : ℕ) (P Q : ℕ → Type 0) → P i → IsUntil (below m) P Q (suc i)
    → IsUntil (below m) P Q i
until-later m i P Q p (j, from, within, q, all) = (j, omega arith, within, q, before)
  where
    before : (k : ℕ) → i ≤ k → k < j → P k
    before k le lt =
        elim (cases_eq i k) [ inl e ↦ subst P e p | inr apart ↦ all k (omega arith) lt ]

-- until at a position where its right side does not hold
until-first : (m i : ℕ) (P Q : ℕ → Type 0) → ¬ Q i → IsUntil (below m) P Q i
    → P i × IsUntil (below m) P Q (suc i)
until-first m i P Q not_here (j, from, within, q, all) =
    elim (cases_eq i j) [
      | inl e ↦ absurd (not_here (subst Q (sym e) q))
      | inr apart ↦ (
        all i (omega arith) (omega arith),
        (j, omega arith, within, q, λ k le lt. all k (omega arith) lt),
      )
    ]

pub until-step : (m i : ℕ) (P Q : ℕ → Type 0) (p q later : Bool) → i < m → Decides p (P i)
    → Decides q (Q i) → Decides later (IsUntil (below m) P Q (suc i))
    → Decides (q || (p && later)) (IsUntil (below m) P Q i)
until-step m i P Q p true later lt dp dq dl = (λ _. until-now m i P Q lt (dq.0 refl), λ _. refl)
until-step m i P Q true false later lt dp dq dl = (
  λ e. until-later m i P Q (dp.0 refl) (dl.0 e),
  λ u. dl.1 ((until-first m i P Q
      (λ h. let e : false ≡ true = dq.1 h in cc) u).1),
)
until-step m i P Q false false later lt dp dq dl = (
  λ e. absurd (cc),
  λ u. dp.1 ((until-first m i P Q (λ h. let e : false ≡ true = dq.1 h in
      cc) u).0),
)

-- until of facts that hold at the same places
pub until-like : (m i : ℕ) (P Q P' Q' : ℕ → Type 0) → ((k : ℕ) → k < m → P k → P' k) → ((k : ℕ)
    → k < m → Q k → Q' k) → IsUntil (below m) P Q i → IsUntil (below m) P' Q' i
until-like m i P Q P' Q' f g (j, from, within, q, all) =
    (j, from, within, g j within q, λ k le lt. f k (omega arith) (all k le lt))

-- What comes in turn: a cause that is met answers, and else what stands behind it.
use Rattle.std.proofs.Common.{◌⊎◌, inl, inr}

module _ {X : Type 0} (Met : X → Type 0) (Passed : Type 0) (Behind : X → Type 0) where
  abbrev pub Turn : X → Type 0
  Turn a = Met a ⊎ (Passed × Behind a)

  -- What comes in turn is related where what answers is.
  pub turn_once : (R : X → X → Type 0) → ((a b : X) → Met a → Met b → R a b) → ((a : X) → Met a → ¬ Passed)
      → (Passed → (a b : X) → Behind a → Behind b → R a b) → (a b : X) → Turn a → Turn b → R a b
  turn_once R met apart behind a b (inl one) (inl two) = met a b one two
  turn_once R met apart behind a b (inl one) (inr (passed, two)) = absurd (apart a one passed)
  turn_once R met apart behind a b (inr (passed, one)) (inl two) = absurd (apart b two passed)
  turn_once R met apart behind a b (inr (passed, one)) (inr (also, two)) = behind passed a b one two

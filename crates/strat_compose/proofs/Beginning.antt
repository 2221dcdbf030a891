-- First latch values of a driven net: those of given words, and the resets.
use Rattle.std.proofs.Common.{◌≡◌, ℕ, ◌+◌, ◌*◌, ◌<◌, ◌≤◌, Bool, true, false, cond, nat_lt, List, ◌++◌, map, length, length-append, inl, inr, sym, ap, ◌∙◌, subst, arith}
use Rattle.std.proofs.lemmas.Bool.{cases_lt}
use Rattle.std.proofs.lemmas.List.{length-map}
use Rattle.std.proofs.lemmas.Nat.{mul-add-lt}
use Rattle.hy_base.proofs.Truths.{cond-above, cond-below}
use Rattle.aig_net.specs.declared.parts.Reset.{Reset}
use Rattle.aig_net.specs.declared.parts.Reset.TheVariants.{Zero, One, Free}
use Rattle.aig_net.specs.Nets.{IsNet, Net, ResetTo, reset_at}
use Rattle.hy_base.proofs.Listed.{at-map, each-append}
use Rattle.aig_net.specs.Copies.{copied}
use Rattle.aig_net.proofs.Copying.{each-copied, length-copied}
use Rattle.strat_compose.specs.Driving.{IsStrategy, driven_resets, parts_of, same_reset, settled}
use Rattle.strat_compose.proofs.Agreeing.{settled-set}

abbrev pub is_one : Reset → Bool
is_one One = true
is_one _ = false

reset-own : (r : Reset) → (r ≡ Free → ⊥) → ResetTo r (is_one r)
reset-own Zero set = λ i. false
reset-own One set = λ i. true
reset-own Free set = tt

module _ (net strategy : Net) (m e : ℕ) (good : IsNet net)
    (shape : IsStrategy net strategy m e) (given : ℕ → Bool) where
  abbrev resets : List Reset
  resets = driven_resets net strategy (parts_of net strategy m e)

  abbrev own : ℕ
  own = length net.latches * m

  -- given for the latches of the universal copies
  abbrev pub latches : ℕ → Bool
  latches k = cond (nat_lt k own) (given k) (is_one (reset_at resets k))

  abbrev Begins : ℕ → Reset → Type 0
  Begins k r = (k < own → ResetTo r (given k)) × (own ≤ k → r ≡ Free → ⊥)

  abbrev first : List Reset
  first = copied m same_reset net.resets

  abbrev second : List Reset
  second = copied e same_reset (map settled net.resets)

  abbrev third : List Reset
  third = copied 1 same_reset strategy.resets

  many : length first ≡ own
  many = length-copied m same_reset net.resets ∙ ap (λ k. k * m) good.resets

  second-begins : (k : ℕ) → k < length second → Begins (length first + k) (reset_at second k)
  second-begins =
      each-copied e same_reset (map settled net.resets) Zero Zero
      (λ k r. Begins (length first + k) r)
      (λ d j few row.
      let here = at-map settled Zero Zero net.resets j
      (omega (arith, row, length-map net.resets settled)) in (
        λ small. absurd (omega (arith, many, small)),
        λ _ free. settled-set (reset_at net.resets j) (sym here ∙ free),
      ))

  third-begins : (k : ℕ) → k < length third →
      Begins (length (first ++ second) + k) (reset_at third k)
  third-begins =
      let two = length-append first second in
      each-copied 1 same_reset strategy.resets Zero Zero
      (λ k r. Begins (length (first ++ second) + k) r)
      (λ d j few row. (
        λ small. absurd (omega (arith, many, two, small)),
        λ _ free. shape.starts j row free,
      ))

  -- The resets allow these values, where those of the universal copies do.
  pub begins : ((c j : ℕ) → c < m → j < length net.latches →
      ResetTo (reset_at net.resets j) (given (j * m + c))) → (k : ℕ) → k < length resets →
      ResetTo (reset_at resets k) (latches k)
  begins starts k lt =
      let first-begins : (k : ℕ) → k < length first → Begins k (reset_at first k) =
      each-copied m same_reset net.resets Zero Zero Begins
      (λ c j few row.
      let low = mul-add-lt j m c (length net.latches) (omega (arith, row, good.resets)) few in (
        λ _. starts c j few (omega (arith, row, good.resets)),
        λ le _. omega (arith, low, le),
      )) in
      let (early, late) = each-append Zero (first ++ second) third Begins
      (each-append Zero first second Begins first-begins second-begins) third-begins k lt in
      let P : Bool → Type 0 = ResetTo (reset_at resets k) in
      elim (cases_lt k own) [
        | inl small ↦ subst P (sym (cond-below k own _ _ small)) (early small)
        | inr large ↦ subst P (sym (cond-above k own _ _ large))
            (reset-own (reset_at resets k) (late large))
      ]

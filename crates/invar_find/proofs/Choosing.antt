-- The candidates that are left, one after the other.
use Rattle.std.proofs.Common.{◌≡◌, ◌≢◌, ℕ, suc, ◌+◌, ◌<◌, Bool, true, false, List, [], ◌∷◌, ◌++◌, length, min, inl, inr, sym, ap, ◌∙◌, subst, arith, append_assoc}
use Rattle.std.proofs.lemmas.List.{append-nil}
use Rattle.std.proofs.lemmas.List.Elements.{Contains-append_cases}
use Rattle.std.specs.Prelude.{Contains, slice_index}
use Rattle.hy_base.specs.Rows.{row}
use Rattle.cnf_frames.specs.declared.facts.Fact.{Fact}
use Rattle.cnf_frames.specs.declared.facts.Fact.TheVariants.{Zero, One, Same, Differ}
use Rattle.cnf_frames.specs.Facts.{HoldsIn}
use Rattle.chain_check.specs.FewClauses.{for_each}
use Rattle.invar_find.specs.declared.seen.Seen.{Seen}
use Rattle.invar_find.specs.Candidates.{candidates, pairs_with, single_facts}
use Rattle.invar_find.specs.Parts.{AreThose}
use Rattle.invar_find.specs.Standing.{AddsThose, IsAlive, IsFresh, Stands}
use Rattle.invar_find.proofs.Starting.{for_each-all, two-all}
use Rattle.invar_find.proofs.Sublists.{those-less, those-more}

module _ (seen : Seen) (none : seen.others ≡ []) where
  -- There are no facts of other kinds.
  no-other : (f : Fact) → ¬ IsAlive seen f
  no-other f (k, lt, e, is) =
      let few : length seen.others ≡ 0 = ap length none in omega (arith, few, lt)

  both-apart : (all : List Fact) (f g : Fact) → (all ++ f ∷ []) ++ g ∷ [] ≡ all ++ f ∷ g ∷ []
  both-apart all f g = append_assoc all (f ∷ []) (g ∷ [])

  -- a fact that may be left, and one that never is
  first-left : (all some more : List Fact) (f g : Fact) → Stands seen f → ¬ Stands seen g →
      AreThose (Stands seen) all some → more ≡ some ++ f ∷ [] →
      AreThose (Stands seen) (all ++ f ∷ g ∷ []) more
  first-left all some more f g stands never those e =
      let A : List Fact → Type 0 = λ all. AreThose (Stands seen) all more in
      let M : List Fact → Type 0 = AreThose (Stands seen) ((all ++ f ∷ []) ++ g ∷ []) in
      subst A (both-apart all f g) (subst M (sym e) (those-less (Stands seen) (all ++ f ∷ [])
      (some ++ f ∷ []) g (those-more (Stands seen) all some f those stands) never))

  none-left : (all some more : List Fact) (f g : Fact) → ¬ Stands seen f → ¬ Stands seen g →
      AreThose (Stands seen) all some → more ≡ some →
      AreThose (Stands seen) (all ++ f ∷ g ∷ []) more
  none-left all some more f g fails never those e =
      let A : List Fact → Type 0 = λ all. AreThose (Stands seen) all more in
      let M : List Fact → Type 0 = AreThose (Stands seen) ((all ++ f ∷ []) ++ g ∷ []) in
      subst A (both-apart all f g) (subst M (sym e) (those-less (Stands seen) (all ++ f ∷ [])
      some g (those-less (Stands seen) all some f those fails) never))

  at-next : (j : ℕ) (more : List Fact) → AreThose (Stands seen) (single_facts (suc j)) more →
      AreThose (Stands seen) (single_facts (j + 1)) more
  at-next j more those =
      let A : ℕ → Type 0 = λ n. AreThose (Stands seen) (single_facts n) more in
      let next : suc j ≡ j + 1 = omega arith in subst A next those

  pub zero-left : (j : ℕ) (some more : List Fact) → row seen.ones j ≡ false →
      AreThose (Stands seen) (single_facts j) some → more ≡ some ++ Zero j ∷ [] →
      AreThose (Stands seen) (single_facts (j + 1)) more
  zero-left j some more stands those e =
      at-next j more
      (first-left (single_facts j) some more (Zero j) (One j) stands (no-other (One j)) those e)

  pub zero-gone : (j : ℕ) (some more : List Fact) → row seen.ones j ≢ false →
      AreThose (Stands seen) (single_facts j) some → more ≡ some →
      AreThose (Stands seen) (single_facts (j + 1)) more
  zero-gone j some more fails those e =
      at-next j more
      (none-left (single_facts j) some more (Zero j) (One j) fails (no-other (One j)) those e)

  -- where the pair of latch i is settled whatever comes before
  pair-next : (i j : ℕ) (old some more : List Fact) →
      AddsThose (Stands seen) (for_each (λ i. Same i j ∷ Differ i j ∷ []) i) old some →
      ((all : List Fact) → AreThose (Stands seen) all some →
      AreThose (Stands seen) (all ++ Same i j ∷ Differ i j ∷ []) more) →
      AddsThose (Stands seen) (for_each (λ i. Same i j ∷ Differ i j ∷ []) (i + 1)) old more
  pair-next i j old some more adds settled =
      let N : ℕ → Type 0 = λ n.
      AddsThose (Stands seen) (for_each (λ i. Same i j ∷ Differ i j ∷ []) n) old more in
      let next : suc i ≡ i + 1 = omega arith in
      subst N next (λ all those.
      let A : List Fact → Type 0 = λ all. AreThose (Stands seen) all more in
      subst A (append_assoc all (for_each (λ i. Same i j ∷ Differ i j ∷ []) i)
      (Same i j ∷ Differ i j ∷ []))
      (settled (all ++ for_each (λ i. Same i j ∷ Differ i j ∷ []) i) (adds all those)))

  pub pair-left : (i j : ℕ) (old some more : List Fact) →
      slice_index seen.classes i ≡ slice_index seen.classes j →
      AddsThose (Stands seen) (for_each (λ i. Same i j ∷ Differ i j ∷ []) i) old some →
      more ≡ some ++ Same i j ∷ [] →
      AddsThose (Stands seen) (for_each (λ i. Same i j ∷ Differ i j ∷ []) (i + 1)) old more
  pair-left i j old some more stands adds e = pair-next i j old some more adds (λ all those.
      first-left all some more (Same i j) (Differ i j) stands (no-other (Differ i j)) those e)

  pub pair-gone : (i j : ℕ) (old some more : List Fact) →
      slice_index seen.classes i ≢ slice_index seen.classes j →
      AddsThose (Stands seen) (for_each (λ i. Same i j ∷ Differ i j ∷ []) i) old some →
      more ≡ some →
      AddsThose (Stands seen) (for_each (λ i. Same i j ∷ Differ i j ∷ []) (i + 1)) old more
  pair-gone i j old some more fails adds e = pair-next i j old some more adds (λ all those.
      none-left all some more (Same i j) (Differ i j) fails (no-other (Differ i j)) those e)

pub pairs-none : (P : Fact → Type 0) (facts : List Fact) → AddsThose P [] facts facts
pairs-none P facts all those = let A : List Fact → Type 0 = λ all. AreThose P all facts in
    subst A (sym (append-nil all)) those

-- pairs of one more latch
pub pairs-more : (P : Fact → Type 0) (front old new : List Fact) (j : ℕ) →
    AreThose P (front ++ for_each pairs_with j) old → AddsThose P (pairs_with j) old new →
    AreThose P (front ++ for_each pairs_with (j + 1)) new
pairs-more P front old new j those adds =
    let A : List Fact → Type 0 = λ all. AreThose P all new in
    let N : ℕ → Type 0 = λ n. AreThose P (front ++ for_each pairs_with n) new in
    let next : suc j ≡ j + 1 = omega arith in
    subst N next (subst A (append_assoc front (for_each pairs_with j) (pairs_with j)) (adds _ those))

-- ---- before any state

-- Of the candidates those that are true at the start are there.
pub fresh-stands : (n : ℕ) (first : Seen) (state : ℕ → Bool) →
    ((j : ℕ) → j < n → state j ≡ false) → IsFresh n (min n 512) first → (f : Fact) →
    Contains (candidates n) f → HoldsIn state f → Stands first f
fresh-stands n first state zeros fresh f has =
    let P : Fact → Type 0 = λ f. HoldsIn state f → Stands first f in
    elim (Contains-append_cases (single_facts n) (for_each pairs_with (min n 512)) f has) [
      | inl single ↦
          for_each-all P (λ j. Zero j ∷ One j ∷ []) n
          (λ j lt. two-all P (Zero j) (One j) (λ h. fresh.zeros j lt)
          (λ h. let zero = zeros j lt in let clash : false ≡ true = sym zero ∙ h in absurd (cc)))
          f single
      | inr pair ↦
          for_each-all P pairs_with (min n 512)
          (λ j lt. for_each-all P (λ i. Same i j ∷ Differ i j ∷ []) j
          (λ i less. two-all P (Same i j) (Differ i j)
          (λ h. fresh.same i j (omega arith) lt)
          (λ h. absurd (h (zeros i (omega arith) ∙ sym (zeros j (omega arith))))))) f pair
    ]

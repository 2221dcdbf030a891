-- Under ranks that pass no walk is fair: along a cycle the rank stays, and its reason forbids that.
use Rattle.std.proofs.Common.{◌≡◌, ℕ, zero, suc, ◌+◌, ◌-◌, ◌%◌, ◌<◌, ◌≤◌, List, Option, Some, None, IsSome, length, get_or, refl, sym, ap, ◌∙◌, subst, arith}
use Rattle.std.proofs.lemmas.Bool.{true≢false, le-ltb, cond-false}
use Rattle.std.proofs.lemmas.List.{get_or_default}
use Rattle.std.proofs.Math.Nat.{mod-eq_of_lt, mod_self, zero-mod}
use Rattle.rank_check.specs.declared.ranks.Ranks.{Ranks}
use Rattle.rank_check.specs.Graphs.{Shape, place_of, IsWalk, IsFair}
use Rattle.rank_check.specs.Ranking.{rank_of, reason_of, Explains, IsRanked}

-- a rank that is there
rank-there : (o : Option ℕ) → IsSome o → (k : ℕ) × (o ≡ Some k)
rank-there (Some k) is = (k, refl)
rank-there None is = absurd (true≢false (sym is))

-- the place of a node of the cycle, once the stem is gone
in_cycle : (stem cycle : List ℕ) (q : ℕ) → q < length cycle
    → place_of stem cycle (length stem + q) ≡ get_or cycle q 0
in_cycle stem cycle q lt =
    cond-false _ _ _ (le-ltb (length stem + q) (length stem) (omega arith))
    ∙ (let same : (length stem + q - length stem) % length cycle ≡ q = ap (λ n. n % length cycle)
    (omega arith) ∙ mod-eq_of_lt lt in ap (λ n. get_or cycle n 0) same)

after_cycle : (stem cycle : List ℕ) → 0 < length cycle
    → place_of stem cycle (length stem + length cycle) ≡ place_of stem cycle (length stem)
after_cycle stem cycle some =
    cond-false _ _ _ (le-ltb (length stem + length cycle) (length stem) (omega arith))
    ∙ ap (λ n. get_or cycle n 0) turn
    ∙ sym (cond-false _ _ _ (le-ltb (length stem) (length stem) (omega arith)))
  where
    turn : (length stem + length cycle - length stem) % length cycle ≡ (length stem - length stem) %
        length cycle
    turn =
        ap (λ n. n % length cycle) (omega arith)
        ∙ mod_self (length cycle)
        ∙ sym (zero-mod (length cycle))
        ∙ ap (λ n. n % length cycle) (omega arith)

module _ (g : Shape) (r : Ranks) (ranked : IsRanked g r) (stem cycle : List ℕ)
    (walk : IsWalk g stem cycle) where
  -- the rank at a place
  abbrev Ranked : ℕ → ℕ → Type 0
  Ranked i k = rank_of r (place_of stem cycle i) ≡ Some k

  -- from a place on, each rank is not higher
  onward : (i k : ℕ) → Ranked i k → (d : ℕ) → (j : ℕ) × Ranked (i + d) j × (j ≤ k)
  onward i k at zero = let P : ℕ → Type 0 = λ n. Ranked n k in let same : i ≡ i + 0 = omega arith in
      (k, subst P same at, omega arith)
  onward i k at (suc d) =
      let (j, here, below) = onward i k at d in
      let (j', there, lower) = ranked.falls _ _ j (walk.goes (i + d)) here in
      let P : ℕ → Type 0 = λ n. Ranked n j' in
      let same : (i + d) + 1 ≡ i + suc d = omega arith in
      (j', subst P same there, omega arith)

  one_rank : (i j k : ℕ) → Ranked i j → Ranked i k → j ≡ k
  one_rank i j k a b = let e : Some j ≡ Some k = sym a ∙ b in cc

  -- the rank where the cycle begins, which is the rank of each place of the cycle
  turned : (k : ℕ) → Ranked (length stem) k → (d : ℕ) → d ≤ length cycle
      → Ranked (length stem + d) k
  turned k at d le =
      let (j, here, below) = onward (length stem) k at d in
      let (l, there, lower) = onward (length stem + d) j here (length cycle - d) in
      let same : (length stem + d) + (length cycle - d) ≡ length stem + length cycle = omega arith
      in
      let P : ℕ → Type 0 = λ n. Ranked n l in
      let Q : ℕ → Type 0 = λ v. rank_of r v ≡ Some l in
      let e : l ≡ k = one_rank (length stem) l k
      (subst Q (after_cycle stem cycle walk.some) (subst P same there)) at in
      let R : ℕ → Type 0 = Ranked (length stem + d) in
      let same' : j ≡ k = omega arith in
      subst R same' here

  forbidden : IsFair g cycle → (k : ℕ) → Ranked (length stem) k → (reason : Option ℕ)
      → Explains g r k reason → ⊥
  forbidden fair k at (Some until) why =
      let (v, (q, lt, is), free) = fair until in
      let here : get_or cycle q 0 ≡ v = get_or_default cycle q 0 v lt ∙ is in
      let at_v : rank_of r v ≡ Some k =
      ap (rank_of r) (sym here) ∙ ap (rank_of r) (sym (in_cycle stem cycle q lt))
      ∙ turned k at q (omega arith)
      in
      let Q : ℕ → Type 0 = λ n. n < length g.nodes in
      free (why v (subst Q (in_cycle stem cycle q lt ∙ here) (walk.goes (length stem + q)).0) at_v)
  forbidden fair k at None why =
      why _ _ (walk.goes (length stem)) at (turned k at 1 walk.some)

  pub no-fair : ¬ IsFair g cycle
  no-fair fair =
      let (k, first) = rank-there _ (ranked.starts _ walk.starts) in
      let (j, at, below) = onward 0 k first (length stem) in
      let P : ℕ → Type 0 = λ n. Ranked n j in
      let same : 0 + length stem ≡ length stem = omega arith in
      forbidden fair j (subst P same at) (reason_of r j) (ranked.explained j)

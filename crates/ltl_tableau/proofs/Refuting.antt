-- Under a rank proof no run is fair.
use Rattle.std.proofs.Common.{◌≡◌, ℕ, zero, suc, ◌+◌, ◌-◌, ◌<◌, ◌≤◌, true, false, List, Option, Some, None, get_or, inl, inr, refl, sym, ◌∙◌, subst, arith}
use Rattle.std.specs.List.{Contains}
use Rattle.std.proofs.lemmas.Bool.{cases_eq}
use Rattle.ltl_closure.specs.Nodes.{Node}
use Rattle.ltl_tableau.specs.Branches.{Members, Branch, IsBranch, postpones, IsRun, IsFair}
use Rattle.ltl_tableau.specs.Ranks.{Ranked, RankProof, Explains, IsRankProof}

module _ (nodes : List Node) (roots : Members) (proof : RankProof) (valid : IsRankProof nodes roots proof) (run : ℕ → Branch) (goes : IsRun nodes roots run) (fair : IsFair nodes run) where
  -- the entry of the branch at a position, with its rank
  abbrev Entry : ℕ → ℕ → Type 0
  Entry i r = (e : Ranked) × Contains proof.entries e × (e.branch ≡ run i) × (e.rank ≡ r)

  -- the next one, of a rank that is not higher
  onward : (i r : ℕ) → Entry i r → (s : ℕ) × (s ≤ r) × Entry (suc i) s
  onward i r (e, there, same, rank) =
      let P : Branch → Type 0 = λ b. IsBranch nodes b.later (run (suc i)) in
      let edge : IsBranch nodes e.branch.later (run (suc i)) = subst P (sym same) (goes.goes i) in
      let (e', there', same') = valid.closed e there (run (suc i)) edge in
      let Q : Branch → Type 0 = IsBranch nodes e.branch.later in
      let below : e'.rank ≤ e.rank = valid.falls e e' there there' (subst Q (sym same') edge) in
      (e'.rank, omega arith, (e', there', same', refl))

  -- The ranks below r are not met. Then d positions on the rank is still r.
  stays : (r : ℕ) → ((i s : ℕ) → s < r → ¬ Entry i s) → (d i : ℕ) → Entry i r → Entry (i + d) r
  stays r none zero i e = let P : ℕ → Type 0 = λ j. Entry j r in let same : i ≡ i + 0 = omega arith in subst P same e
  stays r none (suc d) i e =
      let (s, le, e') = onward i r e in
      let P : ℕ → Type 0 = λ j. Entry j r in
      let Q : ℕ → Type 0 = Entry (suc i) in
      let same : suc i + d ≡ i + suc d = omega arith in
      elim (cases_eq s r) [
        | inl eq ↦ subst P same (stays r none d (suc i) (subst Q eq e'))
        | inr apart ↦ absurd (none (suc i) s (omega arith) e')
      ]

  unmet-at : (r : ℕ) → ((i s : ℕ) → s < r → ¬ Entry i s) → (i : ℕ) → Entry i r → (reason : Option ℕ) → Explains nodes proof.entries r reason → ⊥
  unmet-at r none i entry (Some k) why =
      let (j, from, kept) = fair k i in
      let P : ℕ → Type 0 = λ q. Entry q r in
      let there : i + (j - i) ≡ j = omega arith in
      let (e, listed, same, rank) = subst P there (stays r none (j - i) i entry) in
      let Q : Branch → Type 0 = λ b. postpones nodes b k ≡ true in
      let late : postpones nodes (run j) k ≡ true = subst Q same (why e listed rank) in
      let clash : true ≡ false = sym late ∙ kept in
      cc
  unmet-at r none i entry None why =
      let (e, listed, same, rank) = entry in
      let P : ℕ → Type 0 = λ q. Entry q r in
      let next : i + 1 ≡ suc i = omega arith in
      let (e', listed', same', rank') = subst P next (stays r none 1 i entry) in
      let Q : Branch → Type 0 = λ b. IsBranch nodes b.later (run (suc i)) in
      let R : Branch → Type 0 = IsBranch nodes e.branch.later in
      why e e' listed listed' rank rank' (subst R (sym same') (subst Q (sym same) (goes.goes i)))

  unmet : (n r i : ℕ) → r < n → ¬ Entry i r
  unmet zero r i lt e = absurd (omega arith)
  unmet (suc n) r i lt e = unmet-at r (λ j s below. unmet n s j (omega arith)) i e (get_or proof.reasons r None) (valid.explained r)

  pub no-fair_run : ⊥
  no-fair_run = let (e, there, same) = valid.begins (run 0) goes.starts in unmet (suc e.rank) e.rank 0 (omega arith) (e, there, same, refl)

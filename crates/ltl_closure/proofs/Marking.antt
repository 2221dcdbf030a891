-- Members that are marked by the rules of their nodes hold.
use Rattle.std.proofs.Common.{◌≡◌, ℕ, zero, suc, ◌+◌, ◌-◌, ◌<◌, ◌≤◌, ◌⊎◌, Bool, List, length, IsTrue, inl, inr, refl, sym, subst, arith, add-one}
use Rattle.hy_formula.specs.Temporal.{endless, Words, IsUntil}
use Rattle.hy_formula.specs.Normals.{Normal, HoldsAt}
use Rattle.ltl_closure.specs.Nodes.{Node, always, never, literal, and, or, next, weak_next, until, release, node_at, form_of, PartsBelow, Numbers, Local, AreMarks}
use Rattle.hy_formula.proofs.Unrolling.{until-unrolled}

module _ (nodes : List Node) (form : ℕ → Normal) (numbers : Numbers nodes form) (words : Words) (Now : ℕ → ℕ → Type 0) (rules : (k i : ℕ) → k < length nodes → Now k i → Local (λ q. Now q i) (λ q. Now q (suc i)) (λ n v. words n v i) k (node_at nodes k)) (ends : (k g h i : ℕ) → node_at nodes k ≡ until g h → (j : ℕ) × (i ≤ j) × (Now k j → Now h j)) where
  abbrev True : ℕ → ℕ → Type 0
  True k i = HoldsAt endless words (form k) i

  rule : (k : ℕ) → k < length nodes → (node : Node) (i : ℕ) → node_at nodes k ≡ node → Now k i → Local (λ q. Now q i) (λ q. Now q (suc i)) (λ n v. words n v i) k node
  rule k lt node i e here = let P : Node → Type 0 = Local (λ q. Now q i) (λ q. Now q (suc i)) (λ n v. words n v i) k in subst P e (rules k i lt here)

  module _ (k g h : ℕ) (lt : k < length nodes) (hg : (i : ℕ) → Now g i → True g i) (hh : (i : ℕ) → Now h i → True h i) where
    until-walk : node_at nodes k ≡ until g h → (j d i : ℕ) → i + d ≡ j → Now k i → (Now k j → Now h j) → IsUntil endless (True g) (True h) i
    until-walk e j zero i at here end =
        let same : j ≡ i = omega arith in
        let P : ℕ → Type 0 = λ x. Now k x → Now h x in
        (until-unrolled endless (True g) (True h) i tt).1 (inl (hh i (subst P same end here)))
    until-walk e j (suc d) i at here end =
        elim (rule k lt (until g h) i e here) [
          | inl q ↦ (until-unrolled endless (True g) (True h) i tt).1 (inl (hh i q))
          | inr (p, more) ↦
              let P : ℕ → Type 0 = IsUntil endless (True g) (True h) in
              let later : IsUntil endless (True g) (True h) (suc i) = until-walk e j d (suc i) (omega arith) more end in
              (until-unrolled endless (True g) (True h) i tt).1 (inr (hg i p, (tt, subst P (sym (add-one i)) later)))
        ]

    release-walk : node_at nodes k ≡ release g h → (j d i : ℕ) → i + d ≡ j → Now k i → True h j ⊎ ((q : ℕ) × (i ≤ q) × (q < j) × True g q)
    release-walk e j zero i at here = let P : ℕ → Type 0 = True h in let same : i ≡ j = omega arith in inl (subst P same (hh i (rule k lt (release g h) i e here).0))
    release-walk e j (suc d) i at here =
        elim (rule k lt (release g h) i e here).1 [
          | inl p ↦ inr (i, omega arith, omega arith, hg i p)
          | inr more ↦
              elim (release-walk e j d (suc i) (omega arith) more) [
                | inl there ↦ inl there
                | inr (q, from, below, p) ↦ inr (q, omega arith, below, p)
              ]
        ]

  marked-at : (k : ℕ) → k < length nodes → ((q : ℕ) → q < k → (i : ℕ) → Now q i → True q i) → (node : Node) → node_at nodes k ≡ node → PartsBelow k node → (i : ℕ) → Now k i → HoldsAt endless words (form_of form node) i
  marked-at k lt ih always e below i here = tt
  marked-at k lt ih never e below i here = absurd (rule k lt never i e here)
  marked-at k lt ih (literal b n v) e below i here = rule k lt (literal b n v) i e here
  marked-at k lt ih (and g h) e (p, q) i here = let both = rule k lt (and g h) i e here in (ih g p i both.0, ih h q i both.1)
  marked-at k lt ih (or g h) e (p, q) i here = elim (rule k lt (or g h) i e here) [ inl x ↦ inl (ih g p i x) | inr y ↦ inr (ih h q i y) ]
  marked-at k lt ih (next g) e p i here = let Q : ℕ → Type 0 = True g in (tt, subst Q (sym (add-one i)) (ih g p (suc i) (rule k lt (next g) i e here)))
  marked-at k lt ih (weak_next g) e p i here = let Q : ℕ → Type 0 = True g in λ _. subst Q (sym (add-one i)) (ih g p (suc i) (rule k lt (weak_next g) i e here))
  marked-at k lt ih (until g h) e (p, q) i here = let (j, from, end) = ends k g h i e in until-walk k g h lt (ih g p) (ih h q) e j (j - i) i (omega arith) here end
  marked-at k lt ih (release g h) e (p, q) i here = λ j from _. release-walk k g h lt (ih g p) (ih h q) e j (j - i) i (omega arith) here

  marked-below : (n k : ℕ) → k < n → k < length nodes → (i : ℕ) → Now k i → True k i
  marked-below zero k few lt i here = absurd (omega arith)
  marked-below (suc n) k few lt i here =
      let P : Normal → Type 0 = λ f. HoldsAt endless words f i in
      subst P (sym (numbers.forms k lt)) (marked-at k lt (λ q below. marked-below n q (omega arith) (omega arith)) (node_at nodes k) refl (numbers.parts k lt) i here)

  pub marked : (k : ℕ) → k < length nodes → (i : ℕ) → Now k i → True k i
  marked k lt i here = marked-below (suc k) k (omega arith) lt i here

pub marks-hold : (nodes : List Node) (form : ℕ → Normal) (words : Words) (marks : ℕ → ℕ → Bool) → Numbers nodes form → AreMarks nodes words marks → (k i : ℕ) → k < length nodes → IsTrue (marks k i) → HoldsAt endless words (form k) i
marks-hold nodes form words marks numbers are k i lt here = marked nodes form numbers words (λ q j. IsTrue (marks q j)) are.local are.ends k lt i here

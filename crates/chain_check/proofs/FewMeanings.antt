-- What the few clauses say of which larger questions are made.
use Rattle.std.proofs.Common.{◌≡◌, ◌≢◌, ℕ, ◌↔◌, Bool, true, false, not, ◌&&◌, ◌||◌, List, [], ◌∷◌, refl, sym, ap, ◌∙◌}
use Rattle.std.specs.Prelude.{ℤ, neg_ℤ}
use Rattle.std.proofs.lemmas.Bool.{not-true, not_from_false}
use Rattle.hy_base.proofs.Truths.{or-false, implied}
use Rattle.chain_check.specs.Clauses.{Clause}
use Rattle.chain_check.specs.FewClauses.{further, alone, and_clauses, next_clauses, same_clauses, differ_clauses, guarded}
use Rattle.chain_check.specs.Values.{Assignment, number_value, clause_value, AllMet, Means}

pub further-means : (a : Assignment) (d : ℕ) → Means a (further d) (a d)
further-means a d = record { is = refl; other = refl }

one-value : (a : Assignment) (l : ℤ) (x : Bool) → number_value a l ≡ x →
    clause_value a (l ∷ []) ≡ x
one-value a l x e = or-false (number_value a l) ∙ e

two-value : (a : Assignment) (l m : ℤ) (x y : Bool) → number_value a l ≡ x →
    number_value a m ≡ y → clause_value a (l ∷ m ∷ []) ≡ (x || y)
two-value a l m x y e f =
    ap (λ b. b || clause_value a (m ∷ [])) e ∙ ap (λ b. x || b) (one-value a m y f)

three-value : (a : Assignment) (l m n : ℤ) (x y z : Bool) → number_value a l ≡ x →
    number_value a m ≡ y → number_value a n ≡ z →
    clause_value a (l ∷ m ∷ n ∷ []) ≡ (x || (y || z))
three-value a l m n x y z e f g =
    ap (λ b. b || clause_value a (m ∷ n ∷ [])) e ∙ ap (λ b. x || b) (two-value a m n y z f g)

-- ---- tests

gate-true : (l a b : Bool) → (not l || a) ≡ true → (not l || b) ≡ true →
    (l || (not a || not b)) ≡ true → l ≡ (a && b)
gate-true true true true p q r = refl
gate-true true true false p q r = absurd (cc)
gate-true true false b p q r = absurd (cc)
gate-true false true true p q r = absurd (cc)
gate-true false true false p q r = refl
gate-true false false b p q r = refl

true-gate : (l a b : Bool) → l ≡ (a && b) →
    ((not l || a) ≡ true) × ((not l || b) ≡ true) × ((l || (not a || not b)) ≡ true)
true-gate true true true e = (refl, refl, refl)
true-gate true true false e = absurd (cc)
true-gate true false b e = absurd (cc)
true-gate false true true e = absurd (cc)
true-gate false true false e = (refl, refl, refl)
true-gate false false b e = (refl, refl, refl)

same-true : (y n : Bool) → (not y || n) ≡ true → (y || not n) ≡ true → y ≡ n
same-true true true p q = refl
same-true true false p q = absurd (cc)
same-true false true p q = absurd (cc)
same-true false false p q = refl

true-same : (y n : Bool) → y ≡ n → ((not y || n) ≡ true) × ((y || not n) ≡ true)
true-same true true e = (refl, refl)
true-same true false e = absurd (cc)
true-same false true e = absurd (cc)
true-same false false e = (refl, refl)

differ-true : (x y : Bool) → (x || y) ≡ true → (not x || not y) ≡ true → x ≢ y
differ-true true true p q e = cc
differ-true true false p q e = cc
differ-true false true p q e = cc
differ-true false false p q e = cc

true-differ : (x y : Bool) → x ≢ y → ((x || y) ≡ true) × ((not x || not y) ≡ true)
true-differ true true n = absurd (n refl)
true-differ true false n = (refl, refl)
true-differ false true n = (refl, refl)
true-differ false false n = absurd (n refl)

guard-true : (d c : Bool) → d ≡ true → (not d || c) ≡ true → c ≡ true
guard-true true c e h = h
guard-true false c e h = absurd (cc)

-- ---- clauses

module _ (a : Assignment) where
  pub alone-met : (l : ℤ) (x : Bool) → Means a l x → AllMet a (alone l) ↔ (x ≡ true)
  alone-met l x m = (
    λ (h, _). sym (one-value a l x m.is) ∙ h,
    λ h. (one-value a l x m.is ∙ h, tt),
  )

  pub opposite-met : (l : ℤ) (x : Bool) → Means a l x → AllMet a (alone (neg_ℤ l)) ↔ (x ≡ false)
  opposite-met l x m = (
    λ (h, _). not-true _ (sym (one-value a (neg_ℤ l) (not x) m.other) ∙ h),
    λ h. (one-value a (neg_ℤ l) (not x) m.other ∙ not_from_false x h, tt),
  )

  pub and-met : (l m n : ℤ) (x y z : Bool) → Means a l x → Means a m y → Means a n z →
      AllMet a (and_clauses l m n) ↔ (x ≡ (y && z))
  and-met l m n x y z p q r =
      let one = two-value a (neg_ℤ l) m (not x) y p.other q.is in
      let two = two-value a (neg_ℤ l) n (not x) z p.other r.is in
      let three = three-value a l (neg_ℤ m) (neg_ℤ n) x (not y) (not z) p.is q.other r.other in (
        λ (h, (i, (k, _))). gate-true x y z (sym one ∙ h) (sym two ∙ i) (sym three ∙ k),
        λ e. let (h, i, k) = true-gate x y z e in (one ∙ h, (two ∙ i, (three ∙ k, tt))),
      )

  pub next-met : (l m : ℤ) (x y : Bool) → Means a l x → Means a m y →
      AllMet a (next_clauses l m) ↔ (x ≡ y)
  next-met l m x y p q =
      let one = two-value a (neg_ℤ l) m (not x) y p.other q.is in
      let two = two-value a l (neg_ℤ m) x (not y) p.is q.other in (
        λ (h, (i, _)). same-true x y (sym one ∙ h) (sym two ∙ i),
        λ e. let (h, i) = true-same x y e in (one ∙ h, (two ∙ i, tt)),
      )

  pub same-met : (l m : ℤ) (x y : Bool) → Means a l x → Means a m y →
      AllMet a (same_clauses l m) ↔ (x ≡ y)
  same-met l m x y p q =
      let one = two-value a l (neg_ℤ m) x (not y) p.is q.other in
      let two = two-value a (neg_ℤ l) m (not x) y p.other q.is in (
        λ (h, (i, _)). same-true x y (sym two ∙ i) (sym one ∙ h),
        λ e. let (h, i) = true-same x y e in (one ∙ i, (two ∙ h, tt)),
      )

  pub differ-met : (l m : ℤ) (x y : Bool) → Means a l x → Means a m y →
      AllMet a (differ_clauses l m) ↔ (x ≢ y)
  differ-met l m x y p q =
      let one = two-value a l m x y p.is q.is in
      let two = two-value a (neg_ℤ l) (neg_ℤ m) (not x) (not y) p.other q.other in (
        λ (h, (i, _)). differ-true x y (sym one ∙ h) (sym two ∙ i),
        λ n. let (h, i) = true-differ x y n in (one ∙ h, (two ∙ i, tt)),
      )

  pub guarded-met : (d : ℕ) (cs : List Clause) →
      AllMet a (guarded (further d) cs) ↔ (a d ≡ true → AllMet a cs)
  guarded-met d [] = (λ _ _. tt, λ _. tt)
  guarded-met d (c ∷ cs) =
      let rest = guarded-met d cs in (
        λ (h, more) e. (guard-true (a d) (clause_value a c) e h, rest.0 more e),
        λ f. (implied (a d) (clause_value a c) (λ e. (f e).0), rest.1 (λ e. (f e).1)),
      )

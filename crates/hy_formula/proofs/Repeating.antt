-- Where the words repeat, each tree repeats and is decided.
use Rattle.std.proofs.Common.{◌≡◌, ℕ, zero, suc, ◌+◌, ◌-◌, ◌<◌, ◌≤◌, ◌⊎◌, ◌↔◌, inl, inr, sym, ◌∙◌, subst, arith}
use Rattle.std.proofs.lemmas.Bool.{cases_lt}
use Rattle.hy_formula.specs.Trees.{Tree, always, never, atom, not, next, finally, globally, and, or, implies, iff, until, release, weak}
use Rattle.hy_formula.specs.Temporal.{endless, below, Words, IsUntil, IsRelease, SatisfiesAt, Decided, IsDecided, Repeats}
use Rattle.hy_formula.proofs.Deciding.{decided-not, decided-and, decided-or, decided-implies, decided-like, decided-true, decided-until_below}

-- P repeats after c from s on
abbrev pub Steady : ℕ → ℕ → (ℕ → Type 0) → Type 0
Steady s c P = (i : ℕ) → s ≤ i → P (i + c) ↔ P i

module _ (s c : ℕ) where
  up : (P : ℕ → Type 0) → Steady s c P → (k : ℕ) → s + c ≤ k → P (k - c) → P k
  up P steady k le p = let e : k - c + c ≡ k = omega arith in subst P e ((steady (k - c) (omega arith)).1 p)

  down : (P : ℕ → Type 0) → Steady s c P → (k : ℕ) → s + c ≤ k → P k → P (k - c)
  down P steady k le p = let e : k - c + c ≡ k = omega arith in (steady (k - c) (omega arith)).0 (subst P (sym e) p)

  pub steady-not : (P : ℕ → Type 0) → Steady s c P → Steady s c (λ k. ¬ P k)
  steady-not P p i le = (λ n h. n ((p i le).1 h), λ n h. n ((p i le).0 h))

  pub steady-or : (P Q : ℕ → Type 0) → Steady s c P → Steady s c Q → Steady s c (λ k. P k ⊎ Q k)
  steady-or P Q p q i le =
      (λ h. elim h [ inl a ↦ inl ((p i le).0 a) | inr b ↦ inr ((q i le).0 b) ], λ h. elim h [ inl a ↦ inl ((p i le).1 a) | inr b ↦ inr ((q i le).1 b) ])

  pub steady-until : (P Q : ℕ → Type 0) → Steady s c P → Steady s c Q → Steady s c (IsUntil endless P Q)
  steady-until P Q p q i le = (
    λ (j, from, _, here, all).
        (j - c, omega arith, tt, down Q q j (omega arith) here, λ k a b. (p k (omega arith)).0 (all (k + c) (omega arith) (omega arith))),
    λ (j, from, _, here, all).
        (j + c, omega arith, tt, (q j (omega arith)).1 here, λ k a b. up P p k (omega arith) (all (k - c) (omega arith) (omega arith))),
  )

  pub steady-release : (P Q : ℕ → Type 0) → Steady s c P → Steady s c Q → Steady s c (IsRelease endless P Q)
  steady-release P Q p q = steady-not _ (steady-until _ _ (steady-not P p) (steady-not Q q))

  -- an until comes true within a period
  near-from : (m : ℕ) → 0 < c → (P Q : ℕ → Type 0) → Steady s c P → Steady s c Q → (i : ℕ) → s + c ≤ m → i + c ≤ m → (n j : ℕ) → j ≤ n → i ≤ j → Q j → ((k : ℕ) → i ≤ k → k < j → P k) → IsUntil (below m) P Q i
  near-from m some P Q p q i long far zero j few from here all = (j, from, omega arith, here, all)
  near-from m some P Q p q i long far (suc n) j few from here all =
      elim (cases_lt j m) [
        | inl near ↦ (j, from, near, here, all)
        | inr past ↦ near-from m some P Q p q i long far n (j - c) (omega arith) (omega arith) (down Q q j (omega arith) here) (λ k a b. all k a (omega arith))
      ]

  pub until-near : (m : ℕ) → 0 < c → (P Q : ℕ → Type 0) → Steady s c P → Steady s c Q → (i : ℕ) → s + c ≤ m → i + c ≤ m → IsUntil endless P Q i ↔ IsUntil (below m) P Q i
  until-near m some P Q p q i long far =
      (λ (j, from, _, here, all). near-from m some P Q p q i long far j j (omega arith) from here all, λ (j, from, lt, here, all). (j, from, tt, here, all))

  pub decided-until_repeating : 0 < c → (P Q : ℕ → Type 0) → Steady s c P → Steady s c Q → ((k : ℕ) → Decided (P k)) → ((k : ℕ) → Decided (Q k)) → (i : ℕ) → Decided (IsUntil endless P Q i)
  decided-until_repeating some P Q p q dp dq i =
      let near = until-near (i + s + c) some P Q p q i (omega arith) (omega arith) in
      decided-like near.1 near.0 (decided-until_below (i + s + c) P Q dp dq i)

  pub decided-release_repeating : 0 < c → (P Q : ℕ → Type 0) → Steady s c P → Steady s c Q → ((k : ℕ) → Decided (P k)) → ((k : ℕ) → Decided (Q k)) → (i : ℕ) → Decided (IsRelease endless P Q i)
  decided-release_repeating some P Q p q dp dq i =
      decided-not (decided-until_repeating some _ _ (steady-not P p) (steady-not Q q) (λ k. decided-not (dp k)) (λ k. decided-not (dq k)) i)

pub steady-tree : (s c : ℕ) (words : Words) → Repeats words s c → (f : Tree) → Steady s c (SatisfiesAt endless words f)
steady-tree s c words r always i le = (λ h. h, λ h. h)
steady-tree s c words r never i le = (λ h. h, λ h. h)
steady-tree s c words r (atom n v) i le = (λ h. sym (r.same n v i le) ∙ h, λ h. r.same n v i le ∙ h)
steady-tree s c words r (not f) i le = steady-not s c _ (steady-tree s c words r f) i le
steady-tree s c words r (next f) i le =
    let e : i + 1 + c ≡ i + c + 1 = omega arith in
    let P : ℕ → Type 0 = SatisfiesAt endless words f in
    let h : P (i + 1 + c) ↔ P (i + 1) = steady-tree s c words r f (i + 1) (omega arith) in
    (λ (_, x). (tt, h.0 (subst P (sym e) x)), λ (_, x). (tt, subst P e (h.1 x)))
steady-tree s c words r (finally g) i le = steady-until s c _ _ (λ k a. (λ h. h, λ h. h)) (steady-tree s c words r g) i le
steady-tree s c words r (globally g) i le = steady-release s c _ _ (λ k a. (λ h. h, λ h. h)) (steady-tree s c words r g) i le
steady-tree s c words r (and f g) i le =
    let p = steady-tree s c words r f i le in
    let q = steady-tree s c words r g i le in
    (λ h. (p.0 h.0, q.0 h.1), λ h. (p.1 h.0, q.1 h.1))
steady-tree s c words r (or f g) i le = steady-or s c _ _ (steady-tree s c words r f) (steady-tree s c words r g) i le
steady-tree s c words r (implies f g) i le =
    let p = steady-tree s c words r f i le in
    let q = steady-tree s c words r g i le in
    (λ h a. q.0 (h (p.1 a)), λ h a. q.1 (h (p.0 a)))
steady-tree s c words r (iff f g) i le =
    let p = steady-tree s c words r f i le in
    let q = steady-tree s c words r g i le in
    (λ h. (λ a. q.0 (h.0 (p.1 a)), λ a. p.0 (h.1 (q.1 a))), λ h. (λ a. q.1 (h.0 (p.0 a)), λ a. p.1 (h.1 (q.0 a))))
steady-tree s c words r (until f g) i le = steady-until s c _ _ (steady-tree s c words r f) (steady-tree s c words r g) i le
steady-tree s c words r (release f g) i le = steady-release s c _ _ (steady-tree s c words r f) (steady-tree s c words r g) i le
steady-tree s c words r (weak f g) i le =
    steady-release s c _ _ (steady-tree s c words r g) (steady-or s c _ _ (steady-tree s c words r f) (steady-tree s c words r g)) i le

pub decided-repeating : (s c : ℕ) (words : Words) → Repeats words s c → IsDecided endless words
decided-repeating s c words r always i = inl tt
decided-repeating s c words r never i = inr (λ h. h)
decided-repeating s c words r (atom n v) i = decided-true (words n v i)
decided-repeating s c words r (not f) i = decided-not (decided-repeating s c words r f i)
decided-repeating s c words r (next f) i = decided-and (inl tt) (decided-repeating s c words r f (i + 1))
decided-repeating s c words r (finally g) i =
    decided-until_repeating s c r.some _ _ (λ k a. (λ h. h, λ h. h)) (steady-tree s c words r g) (λ k. inl tt) (λ k. decided-repeating s c words r g k) i
decided-repeating s c words r (globally g) i =
    decided-release_repeating s c r.some _ _ (λ k a. (λ h. h, λ h. h)) (steady-tree s c words r g) (λ k. inr (λ h. h)) (λ k. decided-repeating s c words r g k) i
decided-repeating s c words r (and f g) i = decided-and (decided-repeating s c words r f i) (decided-repeating s c words r g i)
decided-repeating s c words r (or f g) i = decided-or (decided-repeating s c words r f i) (decided-repeating s c words r g i)
decided-repeating s c words r (implies f g) i = decided-implies (decided-repeating s c words r f i) (decided-repeating s c words r g i)
decided-repeating s c words r (iff f g) i =
    decided-and (decided-implies (decided-repeating s c words r f i) (decided-repeating s c words r g i)) (decided-implies (decided-repeating s c words r g i) (decided-repeating s c words r f i))
decided-repeating s c words r (until f g) i =
    decided-until_repeating s c r.some _ _ (steady-tree s c words r f) (steady-tree s c words r g) (λ k. decided-repeating s c words r f k) (λ k. decided-repeating s c words r g k) i
decided-repeating s c words r (release f g) i =
    decided-release_repeating s c r.some _ _ (steady-tree s c words r f) (steady-tree s c words r g) (λ k. decided-repeating s c words r f k) (λ k. decided-repeating s c words r g k) i
decided-repeating s c words r (weak f g) i =
    decided-release_repeating s c r.some _ _ (steady-tree s c words r g) (steady-or s c _ _ (steady-tree s c words r f) (steady-tree s c words r g)) (λ k. decided-repeating s c words r g k) (λ k. decided-or (decided-repeating s c words r f k) (decided-repeating s c words r g k)) i

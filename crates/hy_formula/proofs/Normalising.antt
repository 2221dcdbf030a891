-- The meaning of a normal form is that of its tree.
use Rattle.std.proofs.Common.{ℕ, ◌+◌, ◌↔◌, Bool, true, false, inl, inr}
use Rattle.std.proofs.lemmas.Bool.{false_from_ne_true}
use Rattle.hy_formula.specs.Trees.{Tree, always, never, atom, not, next, finally, globally, and, or, implies, iff, until, release, weak}
use Rattle.hy_formula.specs.Temporal.{Span, Words, IsUntil, IsRelease, SatisfiesAt, Decided, IsDecided}
use Rattle.hy_formula.specs.Normals.{normal_form, IsHeld, HoldsAt, Signed}
use Rattle.hy_formula.proofs.Deciding.{decided-not, decided-some_between}

-- ---- until and release of facts that hold at the same positions

pub until-like : (span : Span) (P Q R S : ℕ → Type 0) → ((k : ℕ) → P k → R k) → ((k : ℕ) → Q k → S k) → (i : ℕ) → IsUntil span P Q i → IsUntil span R S i
until-like span P Q R S f g i (j, from, within, here, all) = (j, from, within, g j here, λ k le lt. f k (all k le lt))

pub held-like : (span : Span) (P Q R S : ℕ → Type 0) → ((k : ℕ) → P k → R k) → ((k : ℕ) → Q k → S k) → (i : ℕ) → IsHeld span P Q i → IsHeld span R S i
held-like span P Q R S f g i held j from within = elim (held j from within) [ inl q ↦ inl (g j q) | inr (k, le, lt, p) ↦ inr (k, le, lt, f k p) ]

-- a release, said of what holds
pub held-release : (span : Span) (P Q : ℕ → Type 0) → ((k : ℕ) → Decided (P k)) → ((k : ℕ) → Decided (Q k)) → (i : ℕ) → IsHeld span P Q i ↔ IsRelease span P Q i
held-release span P Q p q i = (there, back)
  where
    there : IsHeld span P Q i → IsRelease span P Q i
    there held (j, from, within, not_q, all) = elim (held j from within) [ inl here ↦ not_q here | inr (k, le, lt, before) ↦ all k le lt before ]

    back : IsRelease span P Q i → IsHeld span P Q i
    back released j from within =
        elim (q j) [
          | inl here ↦ inl here
          | inr not_q ↦
              elim (decided-some_between P p i j) [
                | inl found ↦ inr found
                | inr none ↦ absurd (released (j, from, within, not_q, λ k le lt before. none (k, le, lt, before)))
              ]
        ]

-- what is negated is held on, or released by what is negated
pub held-not_until : (span : Span) (P Q : ℕ → Type 0) → ((k : ℕ) → Decided (P k)) → ((k : ℕ) → Decided (Q k)) → (i : ℕ) → IsHeld span (λ k. ¬ P k) (λ k. ¬ Q k) i ↔ (¬ IsUntil span P Q i)
held-not_until span P Q p q i = (there, back)
  where
    there : IsHeld span (λ k. ¬ P k) (λ k. ¬ Q k) i → ¬ IsUntil span P Q i
    there held (j, from, within, here, all) = elim (held j from within) [ inl not_q ↦ not_q here | inr (k, le, lt, not_p) ↦ not_p (all k le lt) ]

    back : (¬ IsUntil span P Q i) → IsHeld span (λ k. ¬ P k) (λ k. ¬ Q k) i
    back refused j from within =
        elim (q j) [
          | inr not_q ↦ inl not_q
          | inl here ↦
              elim (decided-some_between (λ k. ¬ P k) (λ k. decided-not (p k)) i j) [
                | inl found ↦ inr found
                | inr none ↦ absurd (refused (j, from, within, here, λ k le lt. elim (p k) [ inl before ↦ before | inr not_p ↦ absurd (none (k, le, lt, not_p)) ]))
              ]
        ]

-- ---- the law

-- P and Q hold at the same positions
abbrev pub Same : (ℕ → Type 0) → (ℕ → Type 0) → Type 0
Same P Q = (i : ℕ) → P i ↔ Q i

module _ (span : Span) (R S P Q : ℕ → Type 0) (i : ℕ) where
  pub until-right : Same R P → Same S Q → IsUntil span R S i ↔ IsUntil span P Q i
  until-right p q = (until-like span R S P Q (λ k. (p k).0) (λ k. (q k).0) i, until-like span P Q R S (λ k. (p k).1) (λ k. (q k).1) i)

  held-right : Same R P → Same S Q → IsHeld span R S i ↔ IsHeld span P Q i
  held-right p q = (held-like span R S P Q (λ k. (p k).0) (λ k. (q k).0) i, held-like span P Q R S (λ k. (p k).1) (λ k. (q k).1) i)

  pub release-right : Same R P → Same S Q → ((k : ℕ) → Decided (P k)) → ((k : ℕ) → Decided (Q k)) → IsHeld span R S i ↔ IsRelease span P Q i
  release-right p q dp dq =
      let h = held-right p q in
      let r = held-release span P Q dp dq i in
      (λ x. r.0 (h.0 x), λ x. h.1 (r.1 x))

not_until-right : (span : Span) (R S P Q : ℕ → Type 0) (i : ℕ) → Same R (λ k. ¬ P k) → Same S (λ k. ¬ Q k) → ((k : ℕ) → Decided (P k)) → ((k : ℕ) → Decided (Q k)) → IsHeld span R S i ↔ (¬ IsUntil span P Q i)
not_until-right span R S P Q i p q dp dq =
    let h = held-right span R S (λ k. ¬ P k) (λ k. ¬ Q k) i p q in
    let r = held-not_until span P Q dp dq i in
    (λ x. r.0 (h.0 x), λ x. h.1 (r.1 x))

not_release-right : (span : Span) (R S P Q : ℕ → Type 0) (i : ℕ) → Same R (λ k. ¬ P k) → Same S (λ k. ¬ Q k) → Decided (IsUntil span (λ k. ¬ P k) (λ k. ¬ Q k) i) → IsUntil span R S i ↔ (¬ IsRelease span P Q i)
not_release-right span R S P Q i p q d =
    let u = until-right span R S (λ k. ¬ P k) (λ k. ¬ Q k) i p q in
    (λ x released. released (u.0 x), λ refused. elim d [ inl x ↦ u.1 x | inr n ↦ absurd (refused n) ])

-- what the law says of a tree at each position
abbrev pub Right : Span → Words → Bool → Tree → Type 0
Right span words b f = (i : ℕ) → HoldsAt span words (normal_form b f) i ↔ Signed b (SatisfiesAt span words f i)

module _ (span : Span) (words : Words) (d : IsDecided span words) where
  known : (f : Tree) (i : ℕ) → ¬ ¬ SatisfiesAt span words f i → SatisfiesAt span words f i
  known f i h = elim (d f i) [ inl s ↦ s | inr n ↦ absurd (h n) ]

  pub normal-right : (b : Bool) (f : Tree) → Right span words b f
  normal-right true always i = (λ h. h, λ h. h)
  normal-right false always i = (λ h _. h, λ h. h tt)
  normal-right true never i = (λ h. h, λ h. h)
  normal-right false never i = (λ _ h. h, λ _. tt)
  normal-right true (atom n v) i = (λ h. h, λ h. h)
  normal-right false (atom n v) i = (λ e h. cc, λ h. false_from_ne_true _ h)
  normal-right true (not f) i = normal-right false f i
  normal-right false (not f) i =
      let p : Right span words true f = normal-right true f in
      (λ h n. n ((p i).0 h), λ h. (p i).1 (known f i h))
  normal-right true (next f) i =
      let p : Right span words true f = normal-right true f in
      (λ (w, h). (w, (p (i + 1)).0 h), λ (w, h). (w, (p (i + 1)).1 h))
  normal-right false (next f) i =
      let p : Right span words false f = normal-right false f in
      (λ h (w, x). (p (i + 1)).0 (h w) x, λ n w. (p (i + 1)).1 (λ x. n (w, x)))
  normal-right true (finally g) i = until-right span _ _ _ _ i (λ k. (λ h. h, λ h. h)) (normal-right true g)
  normal-right false (finally g) i = not_until-right span _ _ _ _ i (λ k. (λ h _. h, λ h. h tt)) (normal-right false g) (λ k. inl tt) (d g)
  normal-right true (globally g) i = release-right span _ _ _ _ i (λ k. (λ h. h, λ h. h)) (normal-right true g) (λ k. inr (λ h. h)) (d g)
  normal-right false (globally g) i = not_release-right span _ _ _ _ i (λ k. (λ _ h. h, λ _. tt)) (normal-right false g) (d (until (not never) (not g)) i)
  normal-right true (and f g) i =
      let p : Right span words true f = normal-right true f in
      let q : Right span words true g = normal-right true g in
      (λ (a, b). ((p i).0 a, (q i).0 b), λ (a, b). ((p i).1 a, (q i).1 b))
  normal-right false (and f g) i =
      let p : Right span words false f = normal-right false f in
      let q : Right span words false g = normal-right false g in (
        λ h (a, b). elim h [ inl x ↦ (p i).0 x a | inr y ↦ (q i).0 y b ],
        λ n. elim (d f i) [ inl a ↦ inr ((q i).1 (λ b. n (a, b))) | inr x ↦ inl ((p i).1 x) ],
      )
  normal-right true (or f g) i =
      let p : Right span words true f = normal-right true f in
      let q : Right span words true g = normal-right true g in
      (λ h. elim h [ inl a ↦ inl ((p i).0 a) | inr b ↦ inr ((q i).0 b) ], λ h. elim h [ inl a ↦ inl ((p i).1 a) | inr b ↦ inr ((q i).1 b) ])
  normal-right false (or f g) i =
      let p : Right span words false f = normal-right false f in
      let q : Right span words false g = normal-right false g in
      (λ (x, y) h. elim h [ inl a ↦ (p i).0 x a | inr b ↦ (q i).0 y b ], λ n. ((p i).1 (λ a. n (inl a)), (q i).1 (λ b. n (inr b))))
  normal-right true (implies f g) i =
      let p : Right span words false f = normal-right false f in
      let q : Right span words true g = normal-right true g in (
        λ h a. elim h [ inl x ↦ absurd ((p i).0 x a) | inr y ↦ (q i).0 y ],
        λ h. elim (d f i) [ inl a ↦ inr ((q i).1 (h a)) | inr x ↦ inl ((p i).1 x) ],
      )
  normal-right false (implies f g) i =
      let p : Right span words true f = normal-right true f in
      let q : Right span words false g = normal-right false g in (
        λ (a, y) h. (q i).0 y (h ((p i).0 a)),
        λ n. ((p i).1 (known f i (λ x. n (λ a. absurd (x a)))), (q i).1 (λ b. n (λ a. b))),
      )
  normal-right true (iff f g) i =
      let p : Right span words true f = normal-right true f in
      let q : Right span words true g = normal-right true g in
      let x : Right span words false f = normal-right false f in
      let y : Right span words false g = normal-right false g in (
        λ h.
            elim h [
              | inl (a, b) ↦ (λ _. (q i).0 b, λ _. (p i).0 a)
              | inr (a, b) ↦ (λ s. absurd ((x i).0 a s), λ s. absurd ((y i).0 b s))
            ],
        λ h.
            elim (d f i) [
              | inl s ↦ inl ((p i).1 s, (q i).1 (h.0 s))
              | inr n ↦ inr ((x i).1 n, (y i).1 (λ s. n (h.1 s)))
            ],
      )
  normal-right false (iff f g) i =
      let p : Right span words true f = normal-right true f in
      let q : Right span words true g = normal-right true g in
      let x : Right span words false f = normal-right false f in
      let y : Right span words false g = normal-right false g in (
        λ h e.
            elim h [
              | inl (a, b) ↦ (y i).0 b (e.0 ((p i).0 a))
              | inr (a, b) ↦ (x i).0 a (e.1 ((q i).0 b))
            ],
        λ n.
            elim (d f i) [
              | inl s ↦ inl ((p i).1 s, (y i).1 (λ t. n (λ _. t, λ _. s)))
              | inr m ↦ inr ((x i).1 m, (q i).1 (known g i (λ m'. n (λ s. absurd (m s), λ t. absurd (m' t)))))
            ],
      )
  normal-right true (until f g) i = until-right span _ _ _ _ i (normal-right true f) (normal-right true g)
  normal-right false (until f g) i = not_until-right span _ _ _ _ i (normal-right false f) (normal-right false g) (d f) (d g)
  normal-right true (release f g) i = release-right span _ _ _ _ i (normal-right true f) (normal-right true g) (d f) (d g)
  normal-right false (release f g) i = not_release-right span _ _ _ _ i (normal-right false f) (normal-right false g) (d (until (not f) (not g)) i)
  normal-right true (weak f g) i =
      let p : Right span words true f = normal-right true f in
      let q : Right span words true g = normal-right true g in
      release-right span _ _ _ _ i q
      (λ k. (λ h. elim h [ inl a ↦ inl ((p k).0 a) | inr b ↦ inr ((q k).0 b) ], λ h. elim h [ inl a ↦ inl ((p k).1 a) | inr b ↦ inr ((q k).1 b) ]))
      (d g) (d (or f g))
  normal-right false (weak f g) i =
      let p : Right span words false f = normal-right false f in
      let q : Right span words false g = normal-right false g in
      not_release-right span _ _ _ _ i q
      (λ k. (λ (x, y) h. elim h [ inl a ↦ (p k).0 x a | inr b ↦ (q k).0 y b ], λ n. ((p k).1 (λ a. n (inl a)), (q k).1 (λ b. n (inr b)))))
      (d (until (not g) (not (or f g))) i)

-- What is decided, and that trees are where the positions end.
use Rattle.std.proofs.Common.{◌≡◌, ℕ, zero, suc, ◌+◌, ◌<◌, ◌≤◌, ◌⊎◌, Bool, true, false, inl, inr, refl, subst, arith}
use Rattle.std.proofs.lemmas.Bool.{cases_eq, cases_lt}
use Rattle.hy_formula.specs.Trees.{always, never, atom, not, next, finally, globally, and, or, implies, iff, until, release, weak}
use Rattle.hy_formula.specs.Temporal.{Span, endless, below, Within, Words, IsUntil, IsRelease, Decided, IsDecided}

pub decided-not : {P : Type 0} → Decided P → Decided (¬ P)
decided-not (inl p) = inr (λ n. n p)
decided-not (inr n) = inl n

pub decided-and : {P Q : Type 0} → Decided P → Decided Q → Decided (P × Q)
decided-and (inl p) (inl q) = inl (p, q)
decided-and (inl p) (inr n) = inr (λ h. n h.1)
decided-and (inr n) _ = inr (λ h. n h.0)

pub decided-or : {P Q : Type 0} → Decided P → Decided Q → Decided (P ⊎ Q)
decided-or (inl p) _ = inl (inl p)
decided-or (inr n) (inl q) = inl (inr q)
decided-or (inr n) (inr m) = inr (λ h. elim h [ inl p ↦ n p | inr q ↦ m q ])

pub decided-implies : {P Q : Type 0} → Decided P → Decided Q → Decided (P → Q)
decided-implies _ (inl q) = inl (λ p. q)
decided-implies (inl p) (inr m) = inr (λ f. m (f p))
decided-implies (inr n) (inr m) = inl (λ p. absurd (n p))

pub decided-like : {P Q : Type 0} → (P → Q) → (Q → P) → Decided P → Decided Q
decided-like f g (inl p) = inl (f p)
decided-like f g (inr n) = inr (λ q. n (g q))

pub decided-true : (b : Bool) → Decided (b ≡ true)
decided-true true = inl refl
decided-true false = inr (λ e. cc)

pub decided-le : (m n : ℕ) → Decided (m ≤ n)
decided-le m n = elim (cases_lt n m) [ inl lt ↦ inr (λ le. omega arith) | inr le ↦ inl le ]

pub decided-lt : (m n : ℕ) → Decided (m < n)
decided-lt m n = elim (cases_lt m n) [ inl lt ↦ inl lt | inr le ↦ inr (λ lt. omega arith) ]

pub decided-within : (span : Span) (i : ℕ) → Decided (Within span i)
decided-within endless i = inl tt
decided-within (below m) i = decided-lt i m

-- some number below n with P
pub decided-some : (P : ℕ → Type 0) → ((k : ℕ) → Decided (P k)) → (n : ℕ) → Decided ((k : ℕ) × (k < n) × P k)
decided-some P d zero = inr (λ (k, lt, p). omega arith)
decided-some P d (suc n) = step (d n) (decided-some P d n)
  where
    step : Decided (P n) → Decided ((k : ℕ) × (k < n) × P k) → Decided ((k : ℕ) × (k < suc n) × P k)
    step (inl p) _ = inl (n, omega arith, p)
    step (inr not_p) (inl (k, lt, p)) = inl (k, omega arith, p)
    step (inr not_p) (inr none) =
        inr (λ (k, lt, p). elim (cases_eq k n) [ inl e ↦ not_p (subst P e p) | inr apart ↦ none (k, omega arith, p) ])

-- some number from i on and below j with P
pub decided-some_between : (P : ℕ → Type 0) → ((k : ℕ) → Decided (P k)) → (i j : ℕ) → Decided ((k : ℕ) × (i ≤ k) × (k < j) × P k)
decided-some_between P d i j =
    decided-like (λ (k, lt, (le, p)). (k, le, lt, p)) (λ (k, le, lt, p). (k, lt, (le, p)))
    (decided-some (λ k. (i ≤ k) × P k) (λ k. decided-and (decided-le i k) (d k)) j)

-- each number from i on and below j has P
pub decided-all_between : (P : ℕ → Type 0) → ((k : ℕ) → Decided (P k)) → (i j : ℕ) → Decided ((k : ℕ) → i ≤ k → k < j → P k)
decided-all_between P d i j =
    elim (decided-some_between (λ k. ¬ P k) (λ k. decided-not (d k)) i j) [
      | inl (k, le, lt, not_p) ↦ inr (λ all. not_p (all k le lt))
      | inr none ↦ inl (λ k le lt. elim (d k) [ inl p ↦ p | inr not_p ↦ absurd (none (k, le, lt, not_p)) ])
    ]

pub decided-until_below : (m : ℕ) (P Q : ℕ → Type 0) → ((k : ℕ) → Decided (P k)) → ((k : ℕ) → Decided (Q k)) → (i : ℕ) → Decided (IsUntil (below m) P Q i)
decided-until_below m P Q p q i =
    decided-like (λ (j, lt, (le, here, all)). (j, le, lt, here, all)) (λ (j, le, lt, here, all). (j, lt, (le, here, all)))
    (decided-some (λ j. (i ≤ j) × Q j × ((k : ℕ) → i ≤ k → k < j → P k))
    (λ j. decided-like (λ (le, (here, all)). (le, here, all)) (λ (le, here, all). (le, (here, all))) (decided-and (decided-le i j) (decided-and (q j) (decided-all_between P p i j)))) m)

pub decided-release_below : (m : ℕ) (P Q : ℕ → Type 0) → ((k : ℕ) → Decided (P k)) → ((k : ℕ) → Decided (Q k)) → (i : ℕ) → Decided (IsRelease (below m) P Q i)
decided-release_below m P Q p q i = decided-not (decided-until_below m _ _ (λ k. decided-not (p k)) (λ k. decided-not (q k)) i)

-- Where the positions end, each tree is decided.
pub decided-below : (m : ℕ) (words : Words) → IsDecided (below m) words
decided-below m words always i = inl tt
decided-below m words never i = inr (λ h. h)
decided-below m words (atom n v) i = decided-true (words n v i)
decided-below m words (not f) i = decided-not (decided-below m words f i)
decided-below m words (next f) i = decided-and (decided-lt (i + 1) m) (decided-below m words f (i + 1))
decided-below m words (finally g) i = decided-until_below m _ _ (λ k. inl tt) (λ k. decided-below m words g k) i
decided-below m words (globally g) i = decided-release_below m _ _ (λ k. inr (λ h. h)) (λ k. decided-below m words g k) i
decided-below m words (and f g) i = decided-and (decided-below m words f i) (decided-below m words g i)
decided-below m words (or f g) i = decided-or (decided-below m words f i) (decided-below m words g i)
decided-below m words (implies f g) i = decided-implies (decided-below m words f i) (decided-below m words g i)
decided-below m words (iff f g) i =
    decided-and (decided-implies (decided-below m words f i) (decided-below m words g i)) (decided-implies (decided-below m words g i) (decided-below m words f i))
decided-below m words (until f g) i = decided-until_below m _ _ (λ k. decided-below m words f k) (λ k. decided-below m words g k) i
decided-below m words (release f g) i = decided-release_below m _ _ (λ k. decided-below m words f k) (λ k. decided-below m words g k) i
decided-below m words (weak f g) i =
    decided-release_below m _ _ (λ k. decided-below m words g k) (λ k. decided-or (decided-below m words f k) (decided-below m words g k)) i

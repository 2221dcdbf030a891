-- A path of pairwise distinct states gives an assignment of the step query.
use Rattle.std.proofs.Common.{◌≡◌, ◌≢◌, ◌||◌, ◌∷◌, ℕ, zero, suc, ◌+◌, ◌-◌, ◌*◌, ◌/◌, ◌%◌, ◌<◌, ◌≤◌, ◌⊎◌, Bool, true, false, not, cond, List, [], ◌++◌, length, get_or, inl, inr, refl, sym, ap, ◌∙◌, subst, arith, length-append}
use Rattle.std.proofs.lemmas.Bool.{cases_eq}
use Rattle.std.specs.Prelude.{All}
use Rattle.std.proofs.lemmas.List.Elements.{All-head, All-tail}
use Rattle.std.proofs.lemmas.List.{get_or_append_left, get_or-append_right}
use Rattle.std.proofs.lemmas.Nat.{mod-mul-add, div-mul-add}
use Rattle.hy_base.proofs.Places.{below-row}
use Rattle.aig_net.specs.Nets.{Net, Valuation, Below, literal_value, latch_variable, variables}
use Rattle.aig_net.specs.Executions.{Word}
use Rattle.hy_base.specs.Rows.{listed}
use Rattle.aig_net.proofs.Literals.{value-same}
use Rattle.hy_base.proofs.Listed.{length-listed, at-listed}
use Rattle.live_safe.specs.declared.safe_net.SafeNet.{SafeNet}
use Rattle.cnf_frames.specs.declared.facts.Fact.{Fact}
use Rattle.cnf_frames.specs.declared.facts.Fact.TheVariants.{Zero, One, Same, Differ, AnyOf}
use Rattle.cnf_frames.specs.Facts.{FactHolds, IsIn, AllIn, IsSafe, any_true}
use Rattle.cnf_frames.specs.Queries.{pairs_before, pair_start, step_clauses}
use Rattle.cnf_frames.specs.QueryPaths.{IsStepPath}
use Rattle.chain_check.specs.Values.{Assignment, AllMet}
use Rattle.cnf_frames.proofs.Meanings.{path_of}
use Rattle.cnf_frames.proofs.Distinct.{Marked, parts-met}
use Rattle.cnf_frames.proofs.Likeness.{path-alike}
use Rattle.cnf_frames.proofs.Pairs.{pairs-more}
use Rattle.cnf_frames.proofs.Choosing.{chosen, chosen-path, chosen-extra}

-- ---- pairs of frames

pub record Pair : Type 0 where
  pub first : ℕ
  pub second : ℕ

abbrev pair : ℕ → ℕ → Pair
pair i m = record { first = i; second = m }

-- those up to k with the first below n
abbrev pairs : ℕ → ℕ → List Pair
pairs k zero = []
pairs k (suc i) = pairs k i ++ listed 0 (k - i) (λ q. pair i (suc i + q))

many-pairs : (k n : ℕ) → length (pairs k n) ≡ pairs_before k n
many-pairs k zero = refl
many-pairs k (suc i) =
    let a = length-append (pairs k i) (listed 0 (k - i) (λ q. pair i (suc i + q))) in
    let b = length-listed 0 (k - i) (λ q. pair i (suc i + q)) in
    let c = many-pairs k i in
    omega (arith, a, b, c)

pair-at : (k n i q : ℕ) → i < n → q < k - i →
    get_or (pairs k n) (pairs_before k i + q) (pair 0 0) ≡ pair i (suc i + q)
pair-at k zero i q lt few = absurd (omega arith)
pair-at k (suc n) i q lt few =
    elim (cases_eq i n) [
      | inl e ↦
          let P : ℕ → Type 0 = λ i. q < k - i →
          get_or (pairs k (suc n)) (pairs_before k i + q) (pair 0 0) ≡ pair i (suc i + q) in
          subst P (sym e) here few
      | inr apart ↦
          let m = many-pairs k n in
          let more = pairs-more k i n (omega arith) in
          get_or_append_left (pairs k n) (listed 0 (k - n) (λ q. pair n (suc n + q))) (pair 0 0)
          (pairs_before k i + q) (omega (arith, m, more, few))
          ∙ pair-at k n i q (omega arith) few
    ]
  where
    here : q < k - n →
        get_or (pairs k (suc n)) (pairs_before k n + q) (pair 0 0) ≡ pair n (suc n + q)
    here small =
        let f : ℕ → Pair = λ q. pair n (suc n + q) in
        let m = many-pairs k n in
        let at : pairs_before k n + q - pairs_before k n ≡ q = omega arith in
        let e : 0 + q ≡ q = omega arith in
        get_or-append_right (pairs k n) (listed 0 (k - n) f) (pairs_before k n)
        (pairs_before k n + q) (pair 0 0) m (omega arith)
        ∙ ap (λ x. get_or (listed 0 (k - n) f) x (pair 0 0)) at
        ∙ at-listed 0 (k - n) f (pair 0 0) q small ∙ ap f e

-- ---- the assignment

differs : Bool → Bool → Bool
differs x y = cond x (not y) y

differs-apart : (x y : Bool) → differs x y ≡ true → x ≢ y
unfolding differs
differs-apart true true e h = absurd (cc)
differs-apart true false e h = cc
differs-apart false true e h = cc
differs-apart false false e h = absurd (cc)

differs-same : (x y : Bool) → differs x y ≡ false → x ≡ y
unfolding differs
differs-same true true e = refl
differs-same true false e = absurd (cc)
differs-same false true e = absurd (cc)
differs-same false false e = refl

-- some number below n with the value, or none
find : (f : ℕ → Bool) (n : ℕ) →
    ((j : ℕ) × (j < n) × (f j ≡ true)) ⊎ ((j : ℕ) → j < n → f j ≡ false)
find f zero = inr (λ j lt. absurd (omega arith))
find f (suc n) = at (f n) refl (find f n)
  where
    at : (b : Bool) → f n ≡ b →
        ((j : ℕ) × (j < n) × (f j ≡ true)) ⊎ ((j : ℕ) → j < n → f j ≡ false) →
        ((j : ℕ) × (j < suc n) × (f j ≡ true)) ⊎ ((j : ℕ) → j < suc n → f j ≡ false)
    at true e h = inl (n, omega arith, e)
    at false e (inl (j, lt, is)) = inl (j, omega arith, is)
    at false e (inr none) = inr (λ j lt. elim (cases_eq j n)
        [ inl same ↦ ap f same ∙ e | inr apart ↦ none j (omega arith) ])

-- literals look at their latches alone
pub any-alike : (n : ℕ) (s t : ℕ → Bool) → ((j : ℕ) → j < n → s j ≡ t j) → (ls : List ℕ) →
    All (Below n) ls → any_true s ls ≡ any_true t ls
any-alike n s t same [] all = refl
any-alike n s t same (l ∷ ls) all =
    ap (λ b. b || any_true s ls) (value-same s t l (same (l / 2) (All-head (Below n) l ls all)))
    ∙ ap (λ b. literal_value t l || b)
    (any-alike n s t same ls (All-tail (Below n) l ls all))

-- a fact looks at its latches alone
pub fact-alike : (net : Net) (v w : Valuation) → ((j : ℕ) → j < length net.latches →
    v (latch_variable net j) ≡ w (latch_variable net j)) → (fact : Fact) →
    IsIn (length net.latches) fact → FactHolds net v fact → FactHolds net w fact
fact-alike net v w same (Zero j) lt h = sym (same j lt) ∙ h
fact-alike net v w same (One j) lt h = sym (same j lt) ∙ h
fact-alike net v w same (Same i j) (p, q) h = sym (same i p) ∙ h ∙ same j q
fact-alike net v w same (Differ i j) (p, q) h = λ e. h (same i p ∙ e ∙ sym (same j q))
fact-alike net v w same (AnyOf ls) (some, inside) h =
    sym (any-alike (length net.latches) (λ j. v (latch_variable net j))
    (λ j. w (latch_variable net j)) same ls inside) ∙ h

module _ (safe : SafeNet) (good : IsSafe safe) (facts : List Fact)
    (inside : AllIn (length safe.net.latches) facts) (k : ℕ) (path : Word)
    (is : IsStepPath safe facts k path) where
  abbrev V : ℕ
  V = variables safe.net

  abbrev L : ℕ
  L = length safe.net.latches

  abbrev D : ℕ
  D = (k + 2) * V

  abbrev differ_at : Pair → ℕ → Bool
  differ_at p j = differs (path p.first (latch_variable safe.net j))
      (path p.second (latch_variable safe.net j))

  abbrev mark : ℕ → Bool
  mark y = differ_at (get_or (pairs k (suc k)) (y / L) (pair 0 0)) (y % L)

  a : Assignment
  a = chosen V D path mark

  abbrev W : Word
  W = path_of V a

  a-path : (i v : ℕ) → i ≤ suc k → v < V → W i v ≡ path i v
  unfolding a
  a-path i v le lt =
      chosen-path V D path mark i v lt (below-row V v i (k + 2) lt (omega arith))

  a-mark : (i q j : ℕ) → i ≤ k → q < k - i → j < L → a (pair_start safe.net k i q + j)
      ≡ differs (path i (latch_variable safe.net j)) (path (suc i + q) (latch_variable safe.net j))
  unfolding a
  a-mark i q j le few lt =
      let p : ℕ = pairs_before k i + q in
      let at : pair_start safe.net k i q + j ≡ D + (p * L + j) = omega arith in
      ap (chosen V D path mark) at ∙ chosen-extra V D path mark (p * L + j)
      ∙ ap (λ y. differ_at (get_or (pairs k (suc k)) y (pair 0 0)) ((p * L + j) % L))
      (div-mul-add p L j lt)
      ∙ ap (differ_at (get_or (pairs k (suc k)) p (pair 0 0))) (mod-mul-add p L j lt)
      ∙ ap (λ y. differ_at y j) (pair-at k (suc k) i q (omega arith) few)

  latch-same : (i j : ℕ) → i ≤ suc k → j < L →
      path i (latch_variable safe.net j) ≡ W i (latch_variable safe.net j)
  latch-same i j le lt = sym (a-path i (latch_variable safe.net j) le (omega arith))

  marked : (i q : ℕ) → i ≤ k → q < k - i →
      Marked safe.net a i (suc i + q) (pair_start safe.net k i q)
  marked i q le few = (
    each,
    found (find (λ j. differs (path i (latch_variable safe.net j))
        (path (suc i + q) (latch_variable safe.net j))) L),
  )
    where
      each : (j : ℕ) → j < L → a (pair_start safe.net k i q + j) ≡ true →
          W i (latch_variable safe.net j) ≢ W (suc i + q) (latch_variable safe.net j)
      each j lt e h = differs-apart _ _ (sym (a-mark i q j le few lt) ∙ e)
          (latch-same i j (omega arith) lt ∙ h ∙ sym (latch-same (suc i + q) j (omega arith) lt))

      found : ((j : ℕ) × (j < L) × (differs (path i (latch_variable safe.net j))
          (path (suc i + q) (latch_variable safe.net j)) ≡ true)) ⊎ ((j : ℕ) → j < L →
          differs (path i (latch_variable safe.net j))
          (path (suc i + q) (latch_variable safe.net j)) ≡ false) →
          (j : ℕ) × (j < L) × (a (pair_start safe.net k i q + j) ≡ true)
      found (inl (j, lt, e)) = (j, lt, a-mark i q j le few lt ∙ e)
      found (inr none) = absurd (is.apart i (suc i + q) (omega arith) (omega arith)
          (λ j lt. differs-same _ _ (none j lt)))

  bad-same : (i : ℕ) → i ≤ suc k → literal_value (W i) safe.bad ≡ literal_value (path i) safe.bad
  bad-same i le = value-same (W i) (path i) safe.bad (a-path i (safe.bad / 2) le good.bad)

  pub step-exists : (a : Assignment) × AllMet a (step_clauses safe facts k)
  step-exists = (
    a,
    (parts-met safe facts a k).1 (
      path-alike safe.net good.net (suc k) path W (λ i le u lt. sym (a-path i u le lt)) is.along,
      (
        λ i le. (
          λ f there. fact-alike safe.net (path i) (W i)
              (λ j lt. latch-same i j (omega arith) lt) f (inside f there) (is.known i le f there),
          bad-same i (omega arith) ∙ is.good i le,
        ),
        (bad-same (suc k) (omega arith) ∙ is.ends, marked),
      ),
    ),
  )

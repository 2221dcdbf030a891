-- The clauses of a step query say that an assignment is a path of pairwise distinct good states.
use Rattle.std.proofs.Common.{◌≡◌, ◌≢◌, ℕ, suc, ◌||◌, [], ◌∷◌, map, refl, ap, ◌+◌, ◌-◌, ◌<◌, ◌≤◌, ◌↔◌, Bool, true, false, List, ◌++◌, length, IsTrue, sym, ◌∙◌, subst, arith}
use Rattle.std.specs.Prelude.{neg_ℤ}
use Rattle.std.specs.List.{Contains}
use Rattle.std.proofs.lemmas.List.{get_or_default}
use Rattle.std.proofs.lemmas.List.Elements.{Contains-get_or}
use Rattle.aig_net.specs.Nets.{Net, literal_value, latch_variable, variables}
use Rattle.aig_net.specs.Executions.{Word}
use Rattle.live_safe.specs.declared.safe_net.SafeNet.{SafeNet}
use Rattle.live_safe.specs.Paths.{IsPath}
use Rattle.chain_check.specs.Clauses.{Clause}
use Rattle.cnf_frames.specs.declared.facts.Fact.{Fact}
use Rattle.cnf_frames.specs.declared.facts.Fact.TheVariants.{Zero, One, Same, Differ, AnyOf}
use Rattle.cnf_frames.specs.Facts.{FactHolds, AllHold, any_true, fact_at}
use Rattle.cnf_frames.specs.Queries.{latch_in, literal_in, frames, bad_in, fact_clauses, facts_clauses, good_clauses, latch_differs, apart_clauses, apart_from, pair_start, step_clauses}
use Rattle.chain_check.specs.FewClauses.{for_each, further, alone, differ_clauses, some_further}
use Rattle.cnf_frames.specs.QueryPaths.{IsStepPath}
use Rattle.chain_check.proofs.Values.{met-append, met-each, each-met, some-value, value-some}
use Rattle.chain_check.specs.Values.{Assignment, AllMet, Means, clause_value}
use Rattle.cnf_frames.proofs.Meanings.{path_of, frame-means, literal-means}
use Rattle.chain_check.proofs.FewMeanings.{alone-met, opposite-met, same-met, differ-met, guarded-met}
use Rattle.cnf_frames.proofs.FramePaths.{frames-met, variable-means}

-- what holds at each place holds of each fact
pub each-fact : (P : Fact → Type 0) (facts : List Fact) →
    ((i : ℕ) → i < length facts → P (fact_at facts i)) → (f : Fact) → Contains facts f → P f
each-fact P facts all f (i, lt, e) =
    subst P (sym (get_or_default facts i f (Zero 0) lt) ∙ e) (all i lt)

pub at-each : (P : Fact → Type 0) (facts : List Fact) → ((f : Fact) → Contains facts f → P f) →
    (i : ℕ) → i < length facts → P (fact_at facts i)
at-each P facts all i lt = all (fact_at facts i) (Contains-get_or facts i (Zero 0) lt)

module _ (net : Net) (a : Assignment) where
  abbrev V : ℕ
  V = variables net

  abbrev L : ℕ
  L = length net.latches

  abbrev word : Word
  word = path_of V a

  abbrev pub state : ℕ → ℕ → Bool
  state j i = word j (latch_variable net i)

  pub latch-means : (j i : ℕ) → Means a (latch_in net j i) (word j (latch_variable net i))
  latch-means j i = variable-means net a j (latch_variable net i)

  any-value : (j : ℕ) (ls : List ℕ) →
      clause_value a (map (literal_in net j) ls) ≡ any_true (state j) ls
  any-value j [] = refl
  any-value j (l ∷ ls) =
      ap (λ b. b || clause_value a (map (literal_in net j) ls)) (literal-means net a j l).is
      ∙ ap (λ b. literal_value (state j) l || b) (any-value j ls)

  pub fact-met : (j : ℕ) (fact : Fact) →
      AllMet a (fact_clauses net j fact) ↔ FactHolds net (word j) fact
  fact-met j (Zero x) = opposite-met a _ _ (latch-means j x)
  fact-met j (One x) = alone-met a _ _ (latch-means j x)
  fact-met j (Same x y) = same-met a _ _ _ _ (latch-means j x) (latch-means j y)
  fact-met j (Differ x y) = differ-met a _ _ _ _ (latch-means j x) (latch-means j y)
  fact-met j (AnyOf ls) = (λ (h, _). sym (any-value j ls) ∙ h, λ h. (any-value j ls ∙ h, tt))

  pub facts-met : (j : ℕ) (facts : List Fact) →
      AllMet a (facts_clauses net j facts) ↔ AllHold net facts (word j)
  facts-met j facts =
      let f : ℕ → List Clause = λ i. fact_clauses net j (fact_at facts i) in
      let P : Fact → Type 0 = FactHolds net (word j) in (
        λ h. each-fact P facts
            (λ i lt. (fact-met j (fact_at facts i)).0 (met-each a f (length facts) h i lt)),
        λ all. each-met a f (length facts)
            (λ i lt. (fact-met j (fact_at facts i)).1 (at-each P facts all i lt)),
      )

  differs-met : (j m d i : ℕ) → AllMet a (latch_differs net j m d i) ↔
      (a (d + i) ≡ true → word j (latch_variable net i) ≢ word m (latch_variable net i))
  differs-met j m d i =
      let guard = guarded-met a (d + i) (differ_clauses (latch_in net j i) (latch_in net m i)) in
      let inner = differ-met a _ _ _ _ (latch-means j i) (latch-means m i) in (
        λ h e. inner.0 (guard.0 h e),
        λ n. guard.1 (λ e. inner.1 (n e)),
      )

  pub some-met : (d n : ℕ) → AllMet a (some_further d n) ↔
      ((i : ℕ) × (i < n) × (a (d + i) ≡ true))
  some-met d n = (
    λ (h, _). some-value a (λ i. further (d + i)) n h,
    λ (i, lt, is). (value-some a (λ i. further (d + i)) n i lt is, tt),
  )

  -- Some latch differs, and its further variable is true.
  abbrev pub Marked : ℕ → ℕ → ℕ → Type 0
  Marked j m d =
      ((i : ℕ) → i < L → a (d + i) ≡ true →
      word j (latch_variable net i) ≢ word m (latch_variable net i))
      × ((i : ℕ) × (i < L) × (a (d + i) ≡ true))

  apart-met : (j m d : ℕ) → AllMet a (apart_clauses net j m d) ↔ Marked j m d
  apart-met j m d =
      let both = met-append a (for_each (latch_differs net j m d) L) (some_further d L) in (
        λ h.
            let (ds, c) = both.0 h in (
              λ i lt. (differs-met j m d i).0 (met-each a (latch_differs net j m d) L ds i lt),
              (some-met d L).0 c,
            ),
        λ (each, some). both.1 (
          each-met a (latch_differs net j m d) L (λ i lt. (differs-met j m d i).1 (each i lt)),
          (some-met d L).1 some,
        ),
      )

  abbrev pub AllMarked : ℕ → Type 0
  AllMarked k = (i q : ℕ) → i ≤ k → q < k - i → Marked i (suc i + q) (pair_start net k i q)

  all-apart-met : (k : ℕ) → AllMet a (for_each (apart_from net k) (suc k)) ↔ AllMarked k
  all-apart-met k =
      let f : ℕ → ℕ → List Clause =
      λ i q. apart_clauses net i (suc i + q) (pair_start net k i q) in (
        λ h i q le lt. (apart-met i (suc i + q) (pair_start net k i q)).0
            (met-each a (f i) (k - i)
            (met-each a (apart_from net k) (suc k) h i (omega arith)) q lt),
        λ all. each-met a (apart_from net k) (suc k) (λ i lt. each-met a (f i) (k - i)
            (λ q few. (apart-met i (suc i + q) (pair_start net k i q)).1
            (all i q (omega arith) few))),
      )

module _ (safe : SafeNet) (facts : List Fact) (a : Assignment) where
  abbrev W : Word
  W = path_of (variables safe.net) a

  abbrev Good : ℕ → Type 0
  Good j = AllHold safe.net facts (W j) × (literal_value (W j) safe.bad ≡ false)

  good-met : (j : ℕ) → AllMet a (good_clauses safe facts j) ↔ Good j
  good-met j =
      let both = met-append a (facts_clauses safe.net j facts) (alone (neg_ℤ (bad_in safe j))) in
      let bad = opposite-met a (bad_in safe j) _ (frame-means a (variables safe.net) j safe.bad) in (
        λ h. let (f, g) = both.0 h in ((facts-met safe.net a j facts).0 f, bad.0 g),
        λ (f, g). both.1 ((facts-met safe.net a j facts).1 f, bad.1 g),
      )

  -- the parts of the query
  abbrev pub Parts : ℕ → Type 0
  Parts k =
      IsPath safe.net (suc k) W × (((i : ℕ) → i ≤ k → Good i)
      × (IsTrue (literal_value (W (suc k)) safe.bad) × AllMarked safe.net a k))

  pub parts-met : (k : ℕ) → AllMet a (step_clauses safe facts k) ↔ Parts k
  parts-met k =
      let goods : List Clause = for_each (good_clauses safe facts) (suc k) in
      let aparts : List Clause = for_each (apart_from safe.net k) (suc k) in
      let one = met-append a (frames safe.net (suc k))
      (goods ++ (alone (bad_in safe (suc k)) ++ aparts)) in
      let two = met-append a goods (alone (bad_in safe (suc k)) ++ aparts) in
      let three = met-append a (alone (bad_in safe (suc k))) aparts in
      let bad = alone-met a (bad_in safe (suc k)) _
      (frame-means a (variables safe.net) (suc k) safe.bad) in (
        λ h.
            let (f, more) = one.0 h in
            let (g, rest) = two.0 more in
            let (b, d) = three.0 rest in (
              (frames-met safe.net a (suc k)).0 f,
              (
                λ i le. (good-met i).0
                    (met-each a (good_clauses safe facts) (suc k) g i (omega arith)),
                (bad.0 b, (all-apart-met safe.net a k).0 d),
              ),
            ),
        λ (f, (g, (b, d))). one.1 (
          (frames-met safe.net a (suc k)).1 f,
          two.1 (
            each-met a (good_clauses safe facts) (suc k)
                (λ i lt. (good-met i).1 (g i (omega arith))),
            three.1 (bad.1 b, (all-apart-met safe.net a k).1 d),
          ),
        ),
      )

  pub step-right : (k : ℕ) → AllMet a (step_clauses safe facts k) → IsStepPath safe facts k W
  step-right k h =
      let (f, (g, (b, d))) = (parts-met k).0 h in
      record {
        along = f;
        known = λ i le. (g i le).0;
        good = λ i le. (g i le).1;
        apart = λ i m lt le same.
            let q : ℕ = m - suc i in
            let e : suc i + q ≡ m = omega arith in
            let (each, (j, few, is)) = d i q (omega arith) (omega arith) in
            let v : ℕ = latch_variable safe.net j in
            let S : ℕ → Type 0 = λ x. W i v ≡ W x v in
            each j few is (subst S (sym e) (same j few));
        ends = b;
      }

-- How many literals the clauses of queries have.
use Rattle.std.proofs.Common.{◌≡◌, ℕ, zero, suc, ◌+◌, ◌-◌, ◌*◌, ◌<◌, ◌≤◌, ◌↔◌, map, List, [], ◌∷◌, ◌++◌, length, refl, sym, ap, ◌∙◌, arith, length-append}
use Rattle.std.specs.Prelude.{ℤ, neg_ℤ}
use Rattle.std.proofs.lemmas.List.{length-map}
use Rattle.hy_base.specs.declared.limit.Kind.TheVariants.{CnfLiterals}
use Rattle.hy_base.specs.Limits.{most}
use Rattle.aig_net.specs.Nets.{Net, variables}
use Rattle.chain_check.specs.Clauses.{Clause}
use Rattle.live_safe.specs.declared.safe_net.SafeNet.{SafeNet}
use Rattle.cnf_frames.specs.declared.facts.Fact.{Fact}
use Rattle.cnf_frames.specs.declared.facts.Fact.TheVariants.{Zero, One, Same, Differ, AnyOf}
use Rattle.cnf_frames.specs.declared.queries.Asked.TheVariants.{Base, Step, Keep}
use Rattle.cnf_frames.specs.Facts.{fact_at}
use Rattle.cnf_frames.specs.Counts.{capped, sum_for, pairs, frames_literals, fact_literals, facts_literals, one_failing, failing_literals, base_literals, step_literals, keep_literals}
use Rattle.cnf_frames.specs.Queries.{in_frame, latch_in, gate_clauses, frame_gates, constraint_clauses, latch_clauses, frame_step, frames, start_clauses, bad_in, fact_clauses, failing_clauses, literal_in, facts_clauses, good_clauses, latch_differs, apart_clauses, pairs_before, pair_start, apart_from, group_of, fails_clauses, clauses_of}
use Rattle.chain_check.specs.FewClauses.{for_each, further, alone, some_further, guarded, literals_in}
use Rattle.cnf_frames.proofs.Pairs.{pairs-counted}

pub both : (xs ys : List Clause) → literals_in (xs ++ ys) ≡ literals_in xs + literals_in ys
both [] ys = omega arith
both (c ∷ xs) ys = omega (arith, both xs ys)

-- lists with so many literals each
each : (f : ℕ → List Clause) (g : ℕ → ℕ) (n : ℕ) →
    ((i : ℕ) → i < n → literals_in (f i) ≡ g i) → literals_in (for_each f n) ≡ sum_for g n
each f g zero all = refl
each f g (suc n) all =
    let a = each f g n (λ i lt. all i (omega arith)) in
    let b = all n (omega arith) in
    both (for_each f n) (f n) ∙ omega (arith, a, b)

same : (g : ℕ → ℕ) (c n : ℕ) → ((i : ℕ) → i < n → g i ≡ c) → sum_for g n ≡ n * c
same g c zero all = omega arith
same g c (suc n) all = omega (arith, same g c n (λ i lt. all i (omega arith)), all n (omega arith))

as-many : (f : ℕ → List Clause) (c n : ℕ) → ((i : ℕ) → i < n → literals_in (f i) ≡ c) →
    literals_in (for_each f n) ≡ n * c
as-many f c n all = each f (λ _. c) n all ∙ same (λ _. c) c n (λ i lt. refl)

long : (f : ℕ → ℤ) (n : ℕ) → length (for_each (λ i. f i ∷ []) n) ≡ n
long f zero = refl
long f (suc n) =
    length-append (for_each (λ i. f i ∷ []) n) (f n ∷ []) ∙ omega (arith, long f n)

pub some-literals : (d n : ℕ) → literals_in (some_further d n) ≡ n
some-literals d n = omega (arith, long (λ i. further (d + i)) n)

module _ (net : Net) where
  abbrev A : ℕ
  A = length net.ands

  abbrev C : ℕ
  C = length net.constraints

  abbrev L : ℕ
  L = length net.latches

  gates : (j : ℕ) → literals_in (frame_gates net j) ≡ 1 + 7 * A
  gates j =
      both (alone (in_frame (variables net) j 1)) (for_each (gate_clauses net j) A)
      ∙ omega (arith, as-many (gate_clauses net j) 7 A (λ i lt. refl))

  step : (j : ℕ) → literals_in (frame_step net j) ≡ 1 + 7 * A + (C + 4 * L)
  step j =
      let cs : List Clause = for_each (constraint_clauses net j) C in
      let ls : List Clause = for_each (latch_clauses net j) L in
      both (frame_gates net j) (cs ++ ls)
      ∙ omega (
        arith,
        gates j,
        both cs ls,
        as-many (constraint_clauses net j) 1 C (λ i lt. refl),
        as-many (latch_clauses net j) 4 L (λ i lt. refl),
      )

  pub framed : (k : ℕ) → literals_in (frames net k) ≡ frames_literals net k
  framed k =
      both (for_each (frame_step net) k) (frame_gates net k)
      ∙ sum k A C L _ _ (as-many (frame_step net) (1 + 7 * A + (C + 4 * L)) k (λ i lt. step i))
      (gates k)
    where
      sum : (k A C L x y : ℕ) → x ≡ k * (1 + 7 * A + (C + 4 * L)) → y ≡ 1 + 7 * A →
          x + y ≡ (k + 1) * (1 + 7 * A) + k * (C + 4 * L)
      sum k A C L x y e f = omega (arith, e, f)

  started : literals_in (start_clauses net) ≡ L
  started = as-many (λ i. alone (neg_ℤ (latch_in net 0 i))) 1 L (λ i lt. refl)
      ∙ omega arith

  fact : (j : ℕ) (f : Fact) → literals_in (fact_clauses net j f) ≡ fact_literals f
  fact j (Zero a) = refl
  fact j (One a) = refl
  fact j (Same a b) = refl
  fact j (Differ a b) = refl
  fact j (AnyOf ls) = omega (arith, length-map ls (literal_in net j))

  none : (d : ℤ) (ls : List ℕ) →
      literals_in (guarded d (map (λ l. neg_ℤ (literal_in net 1 l) ∷ []) ls)) ≡ 2 * length ls
  none d [] = refl
  none d (l ∷ ls) = omega (arith, none d ls)

  failing : (d : ℤ) (f : Fact) →
      literals_in (guarded d (failing_clauses net 1 f)) ≡ one_failing f
  failing d (Zero a) = refl
  failing d (One a) = refl
  failing d (Same a b) = refl
  failing d (Differ a b) = refl
  failing d (AnyOf ls) = none d ls

  factual : (j : ℕ) (facts : List Fact) →
      literals_in (facts_clauses net j facts) ≡ facts_literals facts
  factual j facts = each (λ i. fact_clauses net j (fact_at facts i))
      (λ i. fact_literals (fact_at facts i)) (length facts) (λ i lt. fact j (fact_at facts i))

  failings : (group : List Fact) →
      literals_in (for_each (fails_clauses net group) (length group)) ≡ failing_literals group
  failings group = each (fails_clauses net group) (λ i. one_failing (fact_at group i))
      (length group) (λ i lt. failing (further (2 * variables net + i)) (fact_at group i))

  apart : (j m d : ℕ) → literals_in (apart_clauses net j m d) ≡ 7 * L
  apart j m d =
      both (for_each (latch_differs net j m d) L) (some_further d L)
      ∙ omega (arith, as-many (latch_differs net j m d) 6 L (λ i lt. refl), some-literals d L)

  aparts : (k n : ℕ) → literals_in (for_each (apart_from net k) n) ≡ pairs_before k n * (7 * L)
  aparts k zero = omega arith
  aparts k (suc n) =
      let here : literals_in (apart_from net k n) ≡ (k - n) * (7 * L) =
      as-many (λ q. apart_clauses net n (suc n + q) (pair_start net k n q)) (7 * L) (k - n)
      (λ q lt. apart n (suc n + q) (pair_start net k n q)) in
      both (for_each (apart_from net k) n) (apart_from net k n)
      ∙ sum (pairs_before k n) (k - n) (7 * L) _ _ (aparts k n) here
    where
      sum : (p x c a b : ℕ) → a ≡ p * c → b ≡ x * c → a + b ≡ (p + x) * c
      sum p x c a b e f = omega (arith, e, f)

-- ---- what the limit of literals sees of a count

abbrev pub AreLike : ℕ → ℕ → Type 0
AreLike m n = (m ≤ most CnfLiterals) ↔ (n ≤ most CnfLiterals)

like-step : (f k x r n : ℕ) → n ≡ f + ((k + 1) * (x + 1) + r) →
    AreLike (f + ((k + 1) * (capped x + 1) + r)) n
like-step f k x r n e = (
  λ h.
      let same : capped x ≡ x = omega (arith, h) in
      omega (arith, e, h, ap (λ c. (k + 1) * (c + 1)) same),
  λ h.
      let same : capped x ≡ x = omega (arith, e, h) in
      omega (arith, e, h, ap (λ c. (k + 1) * (c + 1)) same),
)

like-keep : (f x y g n : ℕ) → n ≡ f + (x + (y + g)) →
    AreLike (f + capped x + (capped y + g)) n
like-keep f x y g n e = (λ h. omega (arith, e, h), λ h. omega (arith, e, h))

module _ (safe : SafeNet) where
  good : (facts : List Fact) (j : ℕ) →
      literals_in (good_clauses safe facts j) ≡ facts_literals facts + 1
  good facts j =
      both (facts_clauses safe.net j facts) (alone (neg_ℤ (bad_in safe j)))
      ∙ ap (λ x. x + 1) (factual safe.net j facts)

  pub base-counted : (k : ℕ) → base_literals safe.net k ≡ literals_in (clauses_of safe (Base k))
  unfolding clauses_of
  base-counted k =
      sym (both (frames safe.net k) (start_clauses safe.net ++ alone (bad_in safe k))
      ∙ omega (
        arith,
        framed safe.net k,
        both (start_clauses safe.net) (alone (bad_in safe k)),
        started safe.net,
      ))

  pub step-counted : (facts : List Fact) (k : ℕ) →
      AreLike (step_literals safe.net facts k) (literals_in (clauses_of safe (Step facts k)))
  unfolding clauses_of
  step-counted facts k =
      let up : k + 1 ≡ suc k = omega arith in
      let goods : List Clause = for_each (good_clauses safe facts) (suc k) in
      let ends : List Clause = for_each (apart_from safe.net k) (suc k) in
      let a : literals_in goods ≡ (k + 1) * (facts_literals facts + 1) =
      as-many (good_clauses safe facts) (facts_literals facts + 1) (suc k)
      (λ i lt. good facts i) ∙ ap (λ n. n * (facts_literals facts + 1)) (sym up) in
      let b : literals_in ends ≡ pairs k * (7 * length safe.net.latches) =
      aparts safe.net k (suc k) ∙ ap (λ n. pairs_before k n * (7 * length safe.net.latches))
      (sym up) ∙ ap (λ p. p * (7 * length safe.net.latches)) (pairs-counted k) in
      let c : literals_in (frames safe.net (suc k)) ≡ frames_literals safe.net (k + 1) =
      framed safe.net (suc k) ∙ ap (frames_literals safe.net) (sym up) in
      like-step (frames_literals safe.net (k + 1)) k (facts_literals facts)
      (1 + pairs k * (7 * length safe.net.latches)) _
      (both (frames safe.net (suc k)) (goods ++ (alone (bad_in safe (suc k)) ++ ends))
      ∙ sum _ _ _ _ _ _ _ _ c a b (both goods (alone (bad_in safe (suc k)) ++ ends))
      (both (alone (bad_in safe (suc k))) ends))
    where
      sum : (f g h f' g' h' r s : ℕ) → f ≡ f' → g ≡ g' → h ≡ h' → r ≡ g + s → s ≡ 1 + h →
          f + r ≡ f' + (g' + (1 + h'))
      sum f g h f' g' h' r s p q w e d = omega (arith, p, q, w, e, d)

  pub keep-counted : (facts : List Fact) (group : ℕ) →
      AreLike (keep_literals safe.net facts (group_of facts group))
      (literals_in (clauses_of safe (Keep facts group)))
  unfolding clauses_of
  keep-counted facts group =
      let g : List Fact = group_of facts group in
      let fails : List Clause = for_each (fails_clauses safe.net g) (length g) in
      let some : List Clause = some_further (2 * variables safe.net) (length g) in
      like-keep (frames_literals safe.net 1) (facts_literals facts) (failing_literals g)
      (length g) _ (both (frames safe.net 1) (facts_clauses safe.net 0 facts ++ (fails ++ some))
      ∙ sum _ _ _ _ _ _ _ _ _ _ (framed safe.net 1) (factual safe.net 0 facts)
      (failings safe.net g) (some-literals (2 * variables safe.net) (length g))
      (both (facts_clauses safe.net 0 facts) (fails ++ some)) (both fails some))
    where
      sum : (f g h i f' g' h' i' r s : ℕ) → f ≡ f' → g ≡ g' → h ≡ h' → i ≡ i' → r ≡ g + s →
          s ≡ h + i → f + r ≡ f' + (g' + (h' + i'))
      sum f g h i f' g' h' i' r s p q w z e d = omega (arith, p, q, w, z, e, d)

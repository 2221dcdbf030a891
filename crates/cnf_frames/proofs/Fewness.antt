-- Queries that can be asked of a net with a latch have no more clauses than literals.
use Rattle.std.proofs.Common.{ℕ, zero, suc, ◌+◌, ◌-◌, ◌*◌, ◌<◌, ◌≤◌, List, [], ◌∷◌, ◌++◌, map, length, drop, arith, length-append, length-drop}
use Rattle.std.specs.Prelude.{ℤ, neg_ℤ}
use Rattle.std.proofs.lemmas.List.{length-take, length-map}
use Rattle.std.proofs.lemmas.List.Elements.{Contains-get_or}
use Rattle.aig_net.specs.Nets.{Net, variables}
use Rattle.chain_check.specs.Clauses.{Clause}
use Rattle.live_safe.specs.declared.safe_net.SafeNet.{SafeNet}
use Rattle.cnf_frames.specs.declared.facts.Fact.{Fact}
use Rattle.cnf_frames.specs.declared.facts.Fact.TheVariants.{Zero, One, Same, Differ, AnyOf}
use Rattle.cnf_frames.specs.declared.queries.Asked.{Asked}
use Rattle.cnf_frames.specs.declared.queries.Asked.TheVariants.{Base, Step, Keep}
use Rattle.cnf_frames.specs.Facts.{IsIn, AllIn, fact_at}
use Rattle.cnf_frames.specs.Queries.{in_frame, latch_in, gate_clauses, frame_gates, constraint_clauses, latch_clauses, frame_step, frames, start_clauses, bad_in, fact_clauses, failing_clauses, literal_in, facts_clauses, good_clauses, latch_differs, apart_clauses, pair_start, apart_from, group_of, groups, fails_clauses, clauses_of}
use Rattle.chain_check.specs.FewClauses.{for_each, further, alone, some_further, guarded, literals_in}
use Rattle.cnf_frames.specs.QueryPaths.{CanAsk}
use Rattle.cnf_frames.proofs.Counting.{both, some-literals}

abbrev pub AreFew : List Clause → Type 0
AreFew clauses = length clauses ≤ literals_in clauses

few-both : (xs ys : List Clause) → AreFew xs → AreFew ys → AreFew (xs ++ ys)
few-both xs ys a b = omega (arith, a, b, length-append xs ys, both xs ys)

few-each : (f : ℕ → List Clause) (n : ℕ) → ((i : ℕ) → i < n → AreFew (f i)) →
    AreFew (for_each f n)
few-each f zero all = omega arith
few-each f (suc n) all =
    few-both (for_each f n) (f n) (few-each f n (λ i lt. all i (omega arith))) (all n (omega arith))

few-alone : (l : ℤ) → AreFew (alone l)
few-alone l = omega arith

few-some : (d n : ℕ) → 0 < n → AreFew (some_further d n)
few-some d n some = omega (arith, some, some-literals d n)

few-fact : (net : Net) (j : ℕ) (f : Fact) → IsIn (length net.latches) f →
    AreFew (fact_clauses net j f)
few-fact net j (Zero a) is = omega arith
few-fact net j (One a) is = omega arith
few-fact net j (Same a b) is = omega arith
few-fact net j (Differ a b) is = omega arith
few-fact net j (AnyOf ls) (some, all) = omega (arith, some, length-map ls (literal_in net j))

few-none : (net : Net) (d : ℤ) (ls : List ℕ) →
    AreFew (guarded d (map (λ l. neg_ℤ (literal_in net 1 l) ∷ []) ls))
few-none net d [] = omega arith
few-none net d (l ∷ ls) = omega (arith, few-none net d ls)

few-failing : (net : Net) (d : ℤ) (f : Fact) → AreFew (guarded d (failing_clauses net 1 f))
few-failing net d (Zero a) = omega arith
few-failing net d (One a) = omega arith
few-failing net d (Same a b) = omega arith
few-failing net d (Differ a b) = omega arith
few-failing net d (AnyOf ls) = few-none net d ls

module _ (net : Net) where
  few-gates : (j : ℕ) → AreFew (frame_gates net j)
  few-gates j = few-both (alone (in_frame (variables net) j 1))
      (for_each (gate_clauses net j) (length net.ands)) (few-alone (in_frame (variables net) j 1))
      (few-each (gate_clauses net j) (length net.ands) (λ i lt. omega arith))

  few-step : (j : ℕ) → AreFew (frame_step net j)
  few-step j =
      let cs : List Clause = for_each (constraint_clauses net j) (length net.constraints) in
      let ls : List Clause = for_each (latch_clauses net j) (length net.latches) in
      few-both (frame_gates net j) (cs ++ ls) (few-gates j)
      (few-both cs ls
      (few-each (constraint_clauses net j) (length net.constraints) (λ i lt. omega arith))
      (few-each (latch_clauses net j) (length net.latches) (λ i lt. omega arith)))

  few-frames : (k : ℕ) → AreFew (frames net k)
  few-frames k = few-both (for_each (frame_step net) k) (frame_gates net k)
      (few-each (frame_step net) k (λ j lt. few-step j)) (few-gates k)

  few-facts : (j : ℕ) (facts : List Fact) → AllIn (length net.latches) facts →
      AreFew (facts_clauses net j facts)
  few-facts j facts inside = few-each (λ i. fact_clauses net j (fact_at facts i)) (length facts)
      (λ i lt. few-fact net j (fact_at facts i)
      (inside (fact_at facts i) (Contains-get_or facts i (Zero 0) lt)))

  few-apart : 0 < length net.latches → (j m d : ℕ) → AreFew (apart_clauses net j m d)
  few-apart some j m d =
      few-both (for_each (latch_differs net j m d) (length net.latches))
      (some_further d (length net.latches))
      (few-each (latch_differs net j m d) (length net.latches) (λ i lt. omega arith))
      (few-some d (length net.latches) some)

  few-aparts : 0 < length net.latches → (k n : ℕ) → AreFew (for_each (apart_from net k) n)
  few-aparts some k n =
      few-each (apart_from net k) n (λ i lt.
      few-each (λ q. apart_clauses net i (suc i + q) (pair_start net k i q)) (k - i) (λ q lt.
      few-apart some i (suc i + q) (pair_start net k i q)))

-- a group has a fact
some-facts : (facts : List Fact) (g : ℕ) → g < groups facts → 0 < length (group_of facts g)
some-facts facts g few =
    let a = length-take 64 (drop (64 * g) facts) in
    let b = length-drop (64 * g) facts in
    omega (arith, a, b, few)

pub few-clauses : (safe : SafeNet) (asked : Asked) → CanAsk safe asked →
    0 < length safe.net.latches → AreFew (clauses_of safe asked)
unfolding clauses_of
few-clauses safe (Base k) can some =
    few-both (frames safe.net k) (start_clauses safe.net ++ alone (bad_in safe k))
    (few-frames safe.net k)
    (few-both (start_clauses safe.net) (alone (bad_in safe k))
    (few-each (λ i. alone (neg_ℤ (latch_in safe.net 0 i))) (length safe.net.latches)
    (λ i lt. few-alone (neg_ℤ (latch_in safe.net 0 i))))
    (few-alone (bad_in safe k)))
few-clauses safe (Step facts k) can some =
    let goods : List Clause = for_each (good_clauses safe facts) (suc k) in
    let ends : List Clause = for_each (apart_from safe.net k) (suc k) in
    let bad : List Clause = alone (bad_in safe (suc k)) in
    few-both (frames safe.net (suc k)) (goods ++ (bad ++ ends)) (few-frames safe.net (suc k))
    (few-both goods (bad ++ ends)
    (few-each (good_clauses safe facts) (suc k) (λ j lt.
    few-both (facts_clauses safe.net j facts) (alone (neg_ℤ (bad_in safe j)))
    (few-facts safe.net j facts can) (few-alone (neg_ℤ (bad_in safe j)))))
    (few-both bad ends (few-alone (bad_in safe (suc k))) (few-aparts safe.net some k (suc k))))
few-clauses safe (Keep facts group) (inside, few) some =
    let g : List Fact = group_of facts group in
    let fails : List Clause = for_each (fails_clauses safe.net g) (length g) in
    let last : List Clause = some_further (2 * variables safe.net) (length g) in
    few-both (frames safe.net 1) (facts_clauses safe.net 0 facts ++ (fails ++ last))
    (few-frames safe.net 1)
    (few-both (facts_clauses safe.net 0 facts) (fails ++ last) (few-facts safe.net 0 facts inside)
    (few-both fails last
    (few-each (fails_clauses safe.net g) (length g) (λ i lt.
    few-failing safe.net (further (2 * variables safe.net + i)) (fact_at g i)))
    (few-some (2 * variables safe.net) (length g) (some-facts facts group few))))

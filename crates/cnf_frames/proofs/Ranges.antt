-- The literals of a query are of its variables.
use Rattle.std.proofs.Common.{◌≡◌, ℕ, zero, suc, ◌+◌, ◌-◌, ◌*◌, ◌/◌, ◌%◌, ◌<◌, ◌≤◌, map, take, Bool, true, false, cond, List, [], ◌∷◌, ◌++◌, length, inl, inr, refl, sym, ◌∙◌, subst, arith}
use Rattle.std.specs.Prelude.{ℤ, pos, negsuc, neg_ℤ, All}
use Rattle.std.proofs.Math.Nat.{mul-le-mul_left}
use Rattle.std.proofs.lemmas.List.Elements.{All-head, All-tail, All-take, Contains-append_cases, Contains-get_or}
use Rattle.aig_net.specs.Nets.{Net, IsNet, Below, is_even, and_at, literal_at, first_and, latch_variable, variables}
use Rattle.chain_check.specs.Clauses.{Clause, IsLiteral, AreLiterals, AreClauses}
use Rattle.chain_check.proofs.Literals.{opposite-literal}
use Rattle.live_safe.specs.declared.safe_net.SafeNet.{SafeNet}
use Rattle.cnf_frames.specs.declared.facts.Fact.{Fact}
use Rattle.cnf_frames.specs.declared.facts.Fact.TheVariants.{Zero, One, Same, Differ, AnyOf}
use Rattle.cnf_frames.specs.declared.queries.Asked.{Asked}
use Rattle.cnf_frames.specs.declared.queries.Asked.TheVariants.{Base, Step, Keep}
use Rattle.cnf_frames.specs.Facts.{IsIn, AllIn, IsSafe, fact_at}
use Rattle.cnf_frames.specs.Queries.{in_frame, latch_in, gate_clauses, frame_gates, constraint_clauses, latch_clauses, frame_step, frames, start_clauses, bad_in, fact_clauses, failing_clauses, latch_literal, literal_in, facts_clauses, good_clauses, latch_differs, apart_clauses, pairs_before, pair_start, apart_from, group_of, fails_clauses, clauses_of, variables_of}
use Rattle.chain_check.specs.FewClauses.{for_each, further, alone, and_clauses, next_clauses, same_clauses, differ_clauses, guarded, some_further}
use Rattle.cnf_frames.specs.QueryPaths.{CanAsk}
use Rattle.cnf_frames.proofs.Pairs.{pairs-more}
use Rattle.cnf_frames.proofs.Groups.{group-in}

-- The literal is of the first n variables.
record IsOf (n : ℕ) (l : ℤ) : Type 0 where
  is : IsLiteral n l

-- The literals of all clauses are.
record AreOf (n : ℕ) (clauses : List Clause) : Type 0 where
  are : AreClauses n clauses

module _ (n : ℕ) where
  -- ---- lists

  literals-none : AreLiterals n []
  literals-none l (k, lt, e) = absurd (omega arith)

  literals-more : (l : ℤ) (c : Clause) → IsOf n l → AreLiterals n c → AreLiterals n (l ∷ c)
  literals-more l c right rest m (zero, lt, e) =
      let P : ℤ → Type 0 = IsLiteral n in subst P e right.is
  literals-more l c right rest m (suc k, lt, e) = rest m (k, omega arith, e)

  none : AreOf n []
  none = record { are = λ c (k, lt, e). absurd (omega arith) }

  more : (c : Clause) (cs : List Clause) → AreLiterals n c → AreOf n cs → AreOf n (c ∷ cs)
  more c cs right rest = record { are = at }
    where
      at : AreClauses n (c ∷ cs)
      at d (zero, lt, e) = let P : Clause → Type 0 = AreLiterals n in subst P e right
      at d (suc k, lt, e) = rest.are d (k, omega arith, e)

  both : (xs ys : List Clause) → AreOf n xs → AreOf n ys → AreOf n (xs ++ ys)
  both xs ys left right = record {
    are = λ c there. elim (Contains-append_cases xs ys c there)
        [ inl h ↦ left.are c h | inr h ↦ right.are c h ];
  }

  each : (f : ℕ → List Clause) (m : ℕ) → ((k : ℕ) → k < m → AreOf n (f k)) →
      AreOf n (for_each f m)
  each f zero all = none
  each f (suc m) all = both (for_each f m) (f m)
      (each f m (λ k lt. all k (omega arith))) (all m (omega arith))

  literals-each : (f : ℕ → ℤ) (m : ℕ) → ((k : ℕ) → k < m → IsOf n (f k)) →
      AreLiterals n (for_each (λ k. f k ∷ []) m)
  literals-each f zero all = literals-none
  literals-each f (suc m) all = λ l there.
      elim (Contains-append_cases (for_each (λ k. f k ∷ []) m) (f m ∷ []) l there) [
        | inl h ↦ literals-each f m (λ k lt. all k (omega arith)) l h
        | inr h ↦ literals-more (f m) [] (all m (omega arith)) literals-none l h
      ]

  -- ---- few clauses

  one : (l : ℤ) → IsOf n l → AreLiterals n (l ∷ [])
  one l p = literals-more l [] p literals-none

  two : (l m : ℤ) → IsOf n l → IsOf n m → AreLiterals n (l ∷ m ∷ [])
  two l m p q = literals-more l (m ∷ []) p (one m q)

  opp : (l : ℤ) → IsOf n l → IsOf n (neg_ℤ l)
  opp l p = record { is = opposite-literal n l p.is }

  alone-of : (l : ℤ) → IsOf n l → AreOf n (alone l)
  alone-of l p = more (l ∷ []) [] (one l p) none

  pair-of : (c d : Clause) → AreLiterals n c → AreLiterals n d → AreOf n (c ∷ d ∷ [])
  pair-of c d p q = more c (d ∷ []) p (more d [] q none)

  and-of : (l a b : ℤ) → IsOf n l → IsOf n a → IsOf n b → AreOf n (and_clauses l a b)
  and-of l a b p q r =
      more (neg_ℤ l ∷ a ∷ []) ((neg_ℤ l ∷ b ∷ []) ∷ (l ∷ neg_ℤ a ∷ neg_ℤ b ∷ []) ∷ [])
      (two (neg_ℤ l) a (opp l p) q)
      (pair-of (neg_ℤ l ∷ b ∷ []) (l ∷ neg_ℤ a ∷ neg_ℤ b ∷ []) (two (neg_ℤ l) b (opp l p) r)
      (literals-more l (neg_ℤ a ∷ neg_ℤ b ∷ []) p (two (neg_ℤ a) (neg_ℤ b) (opp a q) (opp b r))))

  next-of : (y m : ℤ) → IsOf n y → IsOf n m → AreOf n (next_clauses y m)
  next-of y m p q = pair-of (neg_ℤ y ∷ m ∷ []) (y ∷ neg_ℤ m ∷ [])
      (two (neg_ℤ y) m (opp y p) q) (two y (neg_ℤ m) p (opp m q))

  same-of : (x y : ℤ) → IsOf n x → IsOf n y → AreOf n (same_clauses x y)
  same-of x y p q = pair-of (x ∷ neg_ℤ y ∷ []) (neg_ℤ x ∷ y ∷ [])
      (two x (neg_ℤ y) p (opp y q)) (two (neg_ℤ x) y (opp x p) q)

  differ-of : (x y : ℤ) → IsOf n x → IsOf n y → AreOf n (differ_clauses x y)
  differ-of x y p q = pair-of (x ∷ y ∷ []) (neg_ℤ x ∷ neg_ℤ y ∷ [])
      (two x y p q) (two (neg_ℤ x) (neg_ℤ y) (opp x p) (opp y q))

  guarded-of : (d : ℤ) (cs : List Clause) → IsOf n d → AreOf n cs → AreOf n (guarded d cs)
  guarded-of d [] p all = none
  guarded-of d (c ∷ cs) p all = more (neg_ℤ d ∷ c) (guarded d cs)
      (literals-more (neg_ℤ d) c (opp d p) (all.are c (0, omega arith, refl)))
      (guarded-of d cs p (record { are = λ e (k, lt, is). all.are e (suc k, omega arith, is) }))

  further-of : (d : ℕ) → d < n → IsOf n (further d)
  further-of d lt = record { is = (omega arith, omega arith) }

  some-of : (d m : ℕ) → d + m ≤ n → AreOf n (some_further d m)
  some-of d m room = more (for_each (λ i. further (d + i) ∷ []) m) []
      (literals-each (λ i. further (d + i)) m (λ i lt. further-of (d + i) (omega arith))) none

  number-of : (b : Bool) (x : ℕ) → x < n → IsOf n (cond b (pos (suc x)) (negsuc x))
  number-of true x lt = record { is = (omega arith, omega arith) }
  number-of false x lt = record { is = (omega arith, omega arith) }

  -- ---- frames

  module _ (net : Net) (good : IsNet net) where
    abbrev V : ℕ
    V = variables net

    abbrev L : ℕ
    L = length net.latches

    frame-of : (j l : ℕ) → suc j * V ≤ n → Below V l → IsOf n (in_frame V j l)
    frame-of j l room below = number-of (is_even l) (j * V + l / 2) (omega (arith, room, below))

    latch-of : (j i : ℕ) → suc j * V ≤ n → i < L → IsOf n (latch_in net j i)
    latch-of j i room lt = frame-of j (2 * latch_variable net i) room (omega arith)

    lower : (j k : ℕ) → j ≤ k → suc k * V ≤ n → suc j * V ≤ n
    lower j k le room =
        let up : V * suc j ≤ V * suc k = mul-le-mul_left V (omega arith) in
        omega (arith, up, room)

    gates-of : (j : ℕ) → suc j * V ≤ n → AreOf n (frame_gates net j)
    gates-of j room =
        both (alone (in_frame V j 1)) (for_each (gate_clauses net j) (length net.ands))
        (alone-of (in_frame V j 1) (frame-of j 1 room (omega arith)))
        (each (gate_clauses net j) (length net.ands) (λ i lt.
        let (l, r) = good.ordered i lt in
        and-of (in_frame V j (2 * (first_and net + i))) (in_frame V j (and_at net.ands i).left)
        (in_frame V j (and_at net.ands i).right)
        (frame-of j (2 * (first_and net + i)) room (omega arith))
        (frame-of j (and_at net.ands i).left room (omega (arith, l)))
        (frame-of j (and_at net.ands i).right room (omega (arith, r)))))

    step-of : (j : ℕ) → suc (suc j) * V ≤ n → AreOf n (frame_step net j)
    step-of j room =
        let here : suc j * V ≤ n = lower j (suc j) (omega arith) room in
        both (frame_gates net j) (for_each (constraint_clauses net j) (length net.constraints)
        ++ for_each (latch_clauses net j) L) (gates-of j here)
        (both (for_each (constraint_clauses net j) (length net.constraints))
        (for_each (latch_clauses net j) L)
        (each (constraint_clauses net j) (length net.constraints)
        (λ i lt. alone-of (in_frame V j (literal_at net.constraints i))
        (frame-of j (literal_at net.constraints i) here (good.constraints i lt))))
        (each (latch_clauses net j) L
        (λ i lt. next-of (latch_in net (suc j) i) (in_frame V j (literal_at net.latches i))
        (latch-of (suc j) i room lt)
        (frame-of j (literal_at net.latches i) here (good.latches i lt)))))

    frames-of : (k : ℕ) → suc k * V ≤ n → AreOf n (frames net k)
    frames-of k room = both (for_each (frame_step net) k) (frame_gates net k)
        (each (frame_step net) k (λ j lt. step-of j (lower (suc j) k lt room)))
        (gates-of k room)

    start-of : V ≤ n → AreOf n (start_clauses net)
    start-of room = each (λ i. alone (neg_ℤ (latch_in net 0 i))) L
        (λ i lt. alone-of (neg_ℤ (latch_in net 0 i)) (opp (latch_in net 0 i)
        (latch-of 0 i (omega (arith, room)) lt)))

    literal-of : (j l : ℕ) → suc j * V ≤ n → Below L l → IsOf n (literal_in net j l)
    literal-of j l room lt = frame-of j (latch_literal net (l / 2) + l % 2) room (omega (arith, lt))

    any-of : (j : ℕ) (ls : List ℕ) → suc j * V ≤ n → All (Below L) ls →
        AreLiterals n (map (literal_in net j) ls)
    any-of j [] room all = literals-none
    any-of j (l ∷ ls) room all =
        literals-more (literal_in net j l) (map (literal_in net j) ls)
        (literal-of j l room (All-head (Below L) l ls all))
        (any-of j ls room (All-tail (Below L) l ls all))

    none-of : (j : ℕ) (ls : List ℕ) → suc j * V ≤ n → All (Below L) ls →
        AreOf n (map (λ l. neg_ℤ (literal_in net j l) ∷ []) ls)
    none-of j [] room all = none
    none-of j (l ∷ ls) room all =
        more (neg_ℤ (literal_in net j l) ∷ []) (map (λ l. neg_ℤ (literal_in net j l) ∷ []) ls)
        (one (neg_ℤ (literal_in net j l)) (opp (literal_in net j l)
        (literal-of j l room (All-head (Below L) l ls all))))
        (none-of j ls room (All-tail (Below L) l ls all))

    fact-of : (j : ℕ) (f : Fact) → suc j * V ≤ n → IsIn L f → AreOf n (fact_clauses net j f)
    fact-of j (Zero a) room lt =
        alone-of (neg_ℤ (latch_in net j a)) (opp (latch_in net j a) (latch-of j a room lt))
    fact-of j (One a) room lt = alone-of (latch_in net j a) (latch-of j a room lt)
    fact-of j (Same a b) room (p, q) = same-of (latch_in net j a) (latch_in net j b)
        (latch-of j a room p) (latch-of j b room q)
    fact-of j (Differ a b) room (p, q) = differ-of (latch_in net j a) (latch_in net j b)
        (latch-of j a room p) (latch-of j b room q)
    fact-of j (AnyOf ls) room (some, all) =
        more (map (literal_in net j) ls) [] (any-of j ls room all) none

    failing-of : (j : ℕ) (f : Fact) → suc j * V ≤ n → IsIn L f → AreOf n (failing_clauses net j f)
    failing-of j (Zero a) room lt = alone-of (latch_in net j a) (latch-of j a room lt)
    failing-of j (One a) room lt =
        alone-of (neg_ℤ (latch_in net j a)) (opp (latch_in net j a) (latch-of j a room lt))
    failing-of j (Same a b) room (p, q) = differ-of (latch_in net j a) (latch_in net j b)
        (latch-of j a room p) (latch-of j b room q)
    failing-of j (Differ a b) room (p, q) = same-of (latch_in net j a) (latch_in net j b)
        (latch-of j a room p) (latch-of j b room q)
    failing-of j (AnyOf ls) room (some, all) = none-of j ls room all

    facts-of : (j : ℕ) (facts : List Fact) → suc j * V ≤ n → AllIn L facts →
        AreOf n (facts_clauses net j facts)
    facts-of j facts room inside =
        each (λ i. fact_clauses net j (fact_at facts i)) (length facts)
        (λ i lt. fact-of j (fact_at facts i) room
        (inside (fact_at facts i) (Contains-get_or facts i (Zero 0) lt)))

    apart-of : (j m d : ℕ) → suc j * V ≤ n → suc m * V ≤ n → d + L ≤ n →
        AreOf n (apart_clauses net j m d)
    apart-of j m d first second room =
        both (for_each (latch_differs net j m d) L) (some_further d L)
        (each (latch_differs net j m d) L
        (λ i lt. guarded-of (further (d + i)) (differ_clauses (latch_in net j i) (latch_in net m i))
        (further-of (d + i) (omega arith))
        (differ-of (latch_in net j i) (latch_in net m i)
        (latch-of j i first lt) (latch-of m i second lt))))
        (some-of d L room)

    fails-of : (group : List Fact) → 2 * V + length group ≤ n → AllIn L group →
        AreOf n (for_each (fails_clauses net group) (length group)
        ++ some_further (2 * V) (length group))
    fails-of group room inside =
        both (for_each (fails_clauses net group) (length group)) (some_further (2 * V) (length group))
        (each (fails_clauses net group) (length group)
        (λ i lt. guarded-of (further (2 * V + i))
        (failing_clauses net 1 (fact_at group i)) (further-of (2 * V + i) (omega arith))
        (failing-of 1 (fact_at group i) (omega arith)
        (inside (fact_at group i) (Contains-get_or group i (Zero 0) lt)))))
        (some-of (2 * V) (length group) room)

  -- ---- step queries

  module _ (safe : SafeNet) (good : IsSafe safe) where
    abbrev W : ℕ
    W = variables safe.net

    bad-of : (j : ℕ) → suc j * W ≤ n → IsOf n (bad_in safe j)
    bad-of j room = frame-of safe.net good.net j safe.bad room good.bad

    good-of : (facts : List Fact) (j : ℕ) → AllIn (length safe.net.latches) facts →
        suc j * W ≤ n → AreOf n (good_clauses safe facts j)
    good-of facts j inside room =
        both (facts_clauses safe.net j facts) (alone (neg_ℤ (bad_in safe j)))
        (facts-of safe.net good.net j facts room inside)
        (alone-of (neg_ℤ (bad_in safe j)) (opp (bad_in safe j) (bad-of j room)))

    apart-from-of : (k i : ℕ) → i ≤ k →
        (k + 2) * W + pairs_before k (k + 1) * length safe.net.latches ≤ n →
        AreOf n (apart_from safe.net k i)
    apart-from-of k i le room =
        each (λ q. apart_clauses safe.net i (suc i + q) (pair_start safe.net k i q)) (k - i)
        (λ q few.
        let frames : (k + 2) * W ≤ n = omega (arith, room) in
        let up : suc (suc k) * W ≤ n = omega (arith, frames) in
        let next : suc k ≡ k + 1 = omega arith in
        let pairs : pairs_before k i + (k - i) ≤ pairs_before k (k + 1) =
        pairs-more k i (k + 1) (omega arith) in
        let below : length safe.net.latches * suc (pairs_before k i + q)
        ≤ length safe.net.latches * pairs_before k (k + 1) =
        mul-le-mul_left (length safe.net.latches) (omega (arith, pairs, few)) in
        apart-of safe.net good.net i (suc i + q) (pair_start safe.net k i q)
        (lower safe.net good.net i (suc k) (omega arith) up)
        (lower safe.net good.net (suc i + q) (suc k) (omega arith) up)
        (omega (arith, room, below)))

  query-of : (safe : SafeNet) (asked : Asked) → IsSafe safe → CanAsk safe asked →
      variables_of safe asked ≤ n → AreOf n (clauses_of safe asked)
  unfolding clauses_of
  query-of safe (Base k) good can room =
      let up : suc k * variables safe.net ≤ n = omega (arith, room) in
      both (frames safe.net k) (start_clauses safe.net ++ alone (bad_in safe k))
      (frames-of safe.net good.net k up)
      (both (start_clauses safe.net) (alone (bad_in safe k))
      (start-of safe.net good.net (first k up))
      (alone-of (bad_in safe k) (bad-of safe good k up)))
    where
      first : (k : ℕ) → suc k * variables safe.net ≤ n → variables safe.net ≤ n
      first k up = omega (arith, lower safe.net good.net 0 k (omega arith) up)
  query-of safe (Step inv k) good can room =
      let up : suc (suc k) * variables safe.net ≤ n = omega (arith, room) in
      let goods : List Clause = for_each (good_clauses safe inv) (suc k) in
      let aparts : List Clause = for_each (apart_from safe.net k) (suc k) in
      both (frames safe.net (suc k)) (goods ++ (alone (bad_in safe (suc k)) ++ aparts))
      (frames-of safe.net good.net (suc k) up)
      (both goods (alone (bad_in safe (suc k)) ++ aparts)
      (each (good_clauses safe inv) (suc k) (λ i lt. good-of safe good inv i can
      (lower safe.net good.net i (suc k) (omega arith) up)))
      (both (alone (bad_in safe (suc k))) aparts
      (alone-of (bad_in safe (suc k)) (bad-of safe good (suc k) up))
      (each (apart_from safe.net k) (suc k)
      (λ i lt. apart-from-of safe good k i (omega arith) room))))
  query-of safe (Keep inv group) good (inside, few) room =
      let g : List Fact = group_of inv group in
      let up : 2 * variables safe.net ≤ n = omega (arith, room) in
      both (frames safe.net 1) (facts_clauses safe.net 0 inv
      ++ (for_each (fails_clauses safe.net g) (length g)
      ++ some_further (2 * variables safe.net) (length g)))
      (frames-of safe.net good.net 1 (omega (arith, up)))
      (both (facts_clauses safe.net 0 inv) (for_each (fails_clauses safe.net g) (length g)
      ++ some_further (2 * variables safe.net) (length g))
      (facts-of safe.net good.net 0 inv (omega (arith, up)) inside)
      (fails-of safe.net good.net g room (group-in (length safe.net.latches) inv group inside)))

pub in-range : (safe : SafeNet) (asked : Asked) → IsSafe safe → CanAsk safe asked →
    AreClauses (variables_of safe asked) (clauses_of safe asked)
in-range safe asked good can =
    (query-of (variables_of safe asked) safe asked good can (omega arith)).are

-- the clause of literals of latches that are listed
pub any-literals : (n : ℕ) (net : Net) (j : ℕ) (ls : List ℕ) (i : ℕ) (clause shown : Clause) →
    IsNet net → shown ≡ clause → clause ≡ map (literal_in net j) (take i ls) →
    suc j * variables net ≤ n → All (Below (length net.latches)) ls → AreLiterals n shown
any-literals n net j ls i clause shown good e f room all =
    let P : Clause → Type 0 = AreLiterals n in
    subst P (sym (e ∙ f)) (any-of n net good j (take i ls) room
    (All-take (Below (length net.latches)) i ls all))

-- the clause of further variables that are listed
pub some-literals : (n d m i : ℕ) (clause shown : Clause) → shown ≡ clause →
    clause ≡ for_each (λ i. further (d + i) ∷ []) i → i ≤ m → d + m ≤ n → AreLiterals n shown
some-literals n d m i clause shown e f le room =
    let P : Clause → Type 0 = AreLiterals n in
    subst P (sym (e ∙ f)) (literals-each n (λ i. further (d + i)) i
    (λ k lt. further-of n (d + k) (omega arith)))

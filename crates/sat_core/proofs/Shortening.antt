-- From the one place of the level down to the clause that is learned.
use Rattle.std.proofs.Common.{◌≡◌, ℕ, suc, ◌+◌, ◌-◌, ◌<◌, ◌≤◌, Bool, true, false, max, List, [], ◌∷◌, ◌++◌, length, get_or, map, reverse, take, drop, inl, inr, sym, ap, ◌∙◌, subst, arith}
use Rattle.std.specs.Prelude.{ℤ, pos, neg_ℤ}
use Rattle.std.specs.List.{Contains}
use Rattle.std.proofs.lemmas.Bool.{cases_lt}
use Rattle.std.proofs.lemmas.List.Sorted.{Contains-permutation, IsPermutation-reverse, IsPermutation-sym}
use Rattle.std.proofs.lemmas.List.{take-append-drop}
use Rattle.std.proofs.lemmas.List.Elements.{Contains-append_left, Contains-append_right, Contains-append_cases, Contains-push, Contains-push_cases, Contains-get_or}
use Rattle.sat_core.specs.declared.analysis.Analysis.{Analysis}
use Rattle.sat_core.specs.declared.minimizing.Asserting.{Asserting}
use Rattle.chain_check.specs.Clauses.{Clause}
use Rattle.chain_check.specs.Chains.{Refutes}
use Rattle.sat_core.specs.Analyses.{seen_count, IsAnalysis, IsRefuting}
use Rattle.sat_core.specs.Points.{IsPoint, IsTopped, IsAsserting}
use Rattle.sat_core.specs.Minimizing.{IsMinimizing}
use Rattle.chain_check.proofs.Literals.{twice, opposites, opposite-there}
use Rattle.sat_core.proofs.Analysing.{count-none, count-few, counted-seen, pass-unseen, pass-seen, refuting-skips, refuting-keeps, refuting-sinks}

-- the point's opposite alone
topped-alone : (trail : List ℤ) (start p : ℕ) → start ≤ p → p < length trail →
    IsTopped trail start p (neg_ℤ (get_or trail p (pos 0)) ∷ []) 0
topped-alone trail start p level inside = record {
  level = level;
  inside = inside;
  top = Contains-push [] (neg_ℤ (get_or trail p (pos 0)));
  others = λ m there. elim (Contains-push_cases [] (neg_ℤ (get_or trail p (pos 0))) m there) [
    | inl (k, lt, e) ↦ absurd (omega arith)
    | inr same ↦ inl (sym same)
  ];
  reached = λ some. absurd (omega arith);
}

-- a literal more, of a place below the level
topped-more : (trail : List ℤ) (start p q : ℕ) (c : Clause) (highest : ℕ) →
    IsTopped trail start p c highest → q < start →
    IsTopped trail start p (c ++ neg_ℤ (get_or trail q (pos 0)) ∷ []) (max highest (q + 1))
topped-more trail start p q c highest topped low = record {
  level = topped.level;
  inside = topped.inside;
  top = Contains-append_left c (neg_ℤ (get_or trail q (pos 0)) ∷ []) _ topped.top;
  others = λ m there. elim (Contains-push_cases c (neg_ℤ (get_or trail q (pos 0))) m there) [
    | inl old ↦ elim (topped.others m old) [
      | inl same ↦ inl same
      | inr (i, a, b, e) ↦ inr (i, a, omega (arith, b), e)
    ]
    | inr same ↦
        inr (q, low, omega arith, sym (twice (get_or trail q (pos 0))) ∙ ap neg_ℤ same)
  ];
  reached = λ some. elim (cases_lt q highest) [
    | inl less ↦ let (i, a, b, e) = topped.reached (omega arith) in (
      i,
      omega (arith, a),
      b,
      Contains-append_left c (neg_ℤ (get_or trail q (pos 0)) ∷ []) _ e,
    )
    | inr more ↦ (q, omega arith, low, Contains-push c (neg_ℤ (get_or trail q (pos 0))))
  ];
}

pub minimizing-starts : (clauses : List Clause) (trail : List ℤ) (start p : ℕ) (a b : Analysis)
    (it : Asserting) → IsPoint clauses trail start p a → b.seen ≡ a.seen → b.lower.items ≡ [] →
    b.unsettled ≡ length a.lower.items → b.chain.items ≡ a.chain.items →
    it.clause ≡ neg_ℤ (get_or trail p (pos 0)) ∷ [] → it.highest ≡ 0 →
    IsMinimizing clauses trail start p start b it
minimizing-starts clauses trail start p a b it point seen lower unsettled chain clause highest =
    let top : ℤ = neg_ℤ (get_or trail p (pos 0)) in
    let L : List Bool → Type 0 = λ xs. length trail ≤ length xs in
    let T : Clause → Type 0 = λ c. IsTopped trail start p c it.highest in
    let U : ℕ → Type 0 = IsTopped trail start p (top ∷ []) in
    let R : Clause → Type 0 = λ c. IsRefuting clauses trail start c b.seen b.chain.items in
    let S : List Bool → Type 0 = λ xs. IsRefuting clauses trail start (top ∷ []) xs b.chain.items in
    let Q : List ℕ → Type 0 = IsRefuting clauses trail start (top ∷ []) a.seen in
    let one-left : seen_count a.seen start p ≡ 0 = omega (
      arith,
      point.only,
      counted-seen trail start p a.seen (length a.lower.items) a.unsettled point.is point.level
          point.seen,
    ) in
    record {
      below = omega arith;
      is = record {
        long = subst L (sym seen) point.is.long;
        below_end = omega (arith, point.level, point.inside);
        counted = unsettled ∙ point.is.below ∙ ap (λ xs. seen_count xs 0 start) (sym seen);
        below = ap length lower;
      };
      topped = subst T (sym clause) (subst U (sym highest)
          (topped-alone trail start p point.level point.inside));
      refuting = subst R (sym clause) (subst S (sym seen) (subst Q (sym chain)
          (refuting-sinks clauses trail start p (top ∷ []) a.seen a.chain.items one-left
          (refuting-keeps clauses trail p [] a.seen a.chain.items point.refuting))));
    }

-- where something is seen there is a place further down
pub minimizing-goes : (clauses : List Clause) (trail : List ℤ) (start p q : ℕ) (a : Analysis)
    (it : Asserting) → IsMinimizing clauses trail start p q a it → 0 < a.unsettled → 0 < q
minimizing-goes clauses trail start p q a it is some =
    omega (arith, is.is.counted, count-few a.seen 0 q, some)

-- one place further down, which is not seen
pub minimizing-skips : (clauses : List Clause) (trail : List ℤ) (start p q : ℕ) (a : Analysis)
    (it : Asserting) → 0 < q → get_or a.seen (q - 1) false ≡ false →
    IsMinimizing clauses trail start p q a it → IsMinimizing clauses trail start p (q - 1) a it
minimizing-skips clauses trail start p q a it some unseen is =
    let P : ℕ → Type 0 = λ k. IsAnalysis trail 0 k a.seen (length a.lower.items) a.unsettled in
    let Q : ℕ → Type 0 = λ k. IsRefuting clauses trail k it.clause a.seen a.chain.items in
    let same : q ≡ suc (q - 1) = omega arith in
    record {
      below = omega (arith, is.below);
      is = pass-unseen trail 0 (q - 1) a.seen (length a.lower.items) a.unsettled
          (subst P same is.is) unseen;
      topped = is.topped;
      refuting = refuting-skips clauses trail (q - 1) it.clause a.seen a.chain.items unseen
          (subst Q same is.refuting);
    }

-- the reason of the literal at q stands in its place
pub minimizing-resolves : (clauses : List Clause) (trail : List ℤ) (start p q : ℕ) (a b : Analysis)
    (it : Asserting) → IsAnalysis trail 0 q b.seen (length b.lower.items) b.unsettled →
    ((kept : List ℤ) → IsRefuting clauses trail (suc q) kept a.seen a.chain.items →
    IsRefuting clauses trail q kept b.seen b.chain.items) →
    IsMinimizing clauses trail start p (suc q) a it → IsMinimizing clauses trail start p q b it
minimizing-resolves clauses trail start p q a b it now goes is = record {
  below = omega (arith, is.below);
  is = now;
  topped = is.topped;
  refuting = goes it.clause is.refuting;
}

-- the literal at q stays
pub minimizing-keeps : (clauses : List Clause) (trail : List ℤ) (start p q : ℕ) (a b : Analysis)
    (it next : Asserting) → get_or a.seen q false ≡ true → b.seen ≡ a.seen →
    b.lower.items ≡ a.lower.items → b.unsettled ≡ a.unsettled - 1 →
    b.chain.items ≡ a.chain.items →
    next.clause ≡ it.clause ++ neg_ℤ (get_or trail q (pos 0)) ∷ [] →
    next.highest ≡ max it.highest (q + 1) → IsMinimizing clauses trail start p (suc q) a it →
    IsMinimizing clauses trail start p q b next
minimizing-keeps clauses trail start p q a b it next marked seen lower unsettled chain clause
    highest is =
    let more : Clause = it.clause ++ neg_ℤ (get_or trail q (pos 0)) ∷ [] in
    let A : List Bool → Type 0 = λ xs. IsAnalysis trail 0 q xs (length b.lower.items) b.unsettled in
    let B : List ℤ → Type 0 = λ xs. IsAnalysis trail 0 q a.seen (length xs) b.unsettled in
    let C : ℕ → Type 0 = IsAnalysis trail 0 q a.seen (length a.lower.items) in
    let T : Clause → Type 0 = λ c. IsTopped trail start p c next.highest in
    let U : ℕ → Type 0 = IsTopped trail start p more in
    let R : Clause → Type 0 = λ c. IsRefuting clauses trail q c b.seen b.chain.items in
    let S : List Bool → Type 0 = λ xs. IsRefuting clauses trail q more xs b.chain.items in
    let Q : List ℕ → Type 0 = IsRefuting clauses trail q more a.seen in
    record {
      below = omega (arith, is.below);
      is = subst A (sym seen) (subst B (sym lower) (subst C (sym unsettled)
          (pass-seen trail 0 q a.seen (length a.lower.items) a.unsettled is.is (omega arith)
          marked)));
      topped = subst T (sym clause) (subst U (sym highest)
          (topped-more trail start p q it.clause it.highest is.topped (omega (arith, is.below))));
      refuting = subst R (sym clause) (subst S (sym seen) (subst Q (sym chain)
          (refuting-keeps clauses trail q it.clause a.seen a.chain.items is.refuting)));
    }

swapped : (c d : Clause) (m : ℤ) → Contains (c ++ d) m → Contains (d ++ c) m
swapped c d m there = elim (Contains-append_cases c d m there) [
  | inl first ↦ Contains-append_right d c m first
  | inr second ↦ Contains-append_left d c m second
]

-- nothing is seen further down: the clause in another order is the one that is learned
pub minimized : (clauses : List Clause) (trail : List ℤ) (start p q : ℕ) (a : Analysis)
    (it : Asserting) (r c : Clause) (k : ℕ) → r ≡ reverse it.clause → c ≡ drop k r ++ take k r →
    a.unsettled ≡ 0 → IsMinimizing clauses trail start p q a it →
    IsAsserting clauses trail start p c it.highest a.chain.items
minimized clauses trail start p q a it r c k reversed rotated none is = record {
  topped = record {
    level = is.topped.level;
    inside = is.topped.inside;
    top = turned _ is.topped.top;
    others = λ m there. is.topped.others m (back m there);
    reached = λ some. let (i, at, low, there) = is.topped.reached some in
        (i, at, low, turned _ there);
  };
  refuted = refuted;
}
  where
    turned : (m : ℤ) → Contains it.clause m → Contains c m
    turned m there =
        let P : Clause → Type 0 = λ d. Contains d m in
        subst P (sym rotated) (swapped (take k r) (drop k r) m (subst P
        (sym (take-append-drop k r ∙ reversed)) (Contains-permutation it.clause
        (reverse it.clause) m (IsPermutation-reverse it.clause) there)))

    back : (m : ℤ) → Contains c m → Contains it.clause m
    back m there =
        let P : Clause → Type 0 = λ d. Contains d m in
        Contains-permutation (reverse it.clause) it.clause m
        (IsPermutation-sym it.clause (reverse it.clause) (IsPermutation-reverse it.clause))
        (subst P (take-append-drop k r ∙ reversed) (swapped (drop k r) (take k r) m
        (subst P rotated there)))

    on-trail : (m : ℤ) → Contains it.clause m → Contains trail (neg_ℤ m)
    on-trail m there =
        let P : ℤ → Type 0 = Contains trail in
        elim (is.topped.others m there) [
          | inl same' ↦ subst P (sym (twice (get_or trail p (pos 0))) ∙ ap neg_ℤ (sym same'))
              (Contains-get_or trail p (pos 0) is.topped.inside)
          | inr (i, a', b, e) ↦ subst P e (Contains-get_or trail i (pos 0)
              (omega (arith, a', is.topped.level, is.topped.inside)))
        ]

    unseen : (i : ℕ) → i < q → get_or a.seen i false ≡ false
    unseen i lt = count-none a.seen 0 q (sym is.is.counted ∙ none) i (omega arith) lt

    refuted : Refutes clauses (map neg_ℤ c) (reverse a.chain.items)
    refuted = is.refuting (map neg_ℤ c) (λ m there. opposite-there c m (turned m there))
        (λ i lt e. let clash : false ≡ true = sym (unseen i lt) ∙ e in absurd (cc))
        (λ l there. let P : ℤ → Type 0 = Contains trail in
        subst P (twice l) (on-trail (neg_ℤ l) (back _ (opposites c l there))))

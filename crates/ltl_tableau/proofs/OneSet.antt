-- The branches of a set are those where what is held is one set.
use Rattle.std.proofs.Common.{◌≡◌, ℕ, zero, suc, ◌<◌, ◌≤◌, Bool, true, false, not, cond, List, [], ◌∷◌, length, inl, inr, refl, sym, ap, ◌∙◌, subst, arith}
use Rattle.std.specs.Ordering.{nat_cmp}
use Rattle.std.specs.FinSet.{empty, insert, contains, contains-empty}
use Rattle.std.proofs.lemmas.Bool.{cases_eq, cases_lt}
use Rattle.hy_base.proofs.Truths.{not-not}
use Rattle.ltl_closure.specs.Nodes.{Node, always, never, literal, and, or, next, weak_next, until, release, node_at, PartsBelow}
use Rattle.ltl_tableau.specs.Branches.{Members, Has, Branch, is_literal, has_literal, expand, branches_below}
use Rattle.ltl_tableau.specs.Ways.{ways}
use Rattle.ltl_tableau.proofs.Sets.{has-new, has-old, has-cases, contains-other}
use Rattle.ltl_tableau.proofs.Choosing.{literal-some, literal-there}
use Rattle.ltl_tableau.proofs.Saturating.{literal-node, literal-itself}
use Rattle.ltl_tableau.proofs.WaysLemmas.{same-sets, within-itself, dies-literal}
use Rattle.ltl_tableau.proofs.Forcing.{both-same, cond-same}

-- What is to do below f is what is held there, and what is there now is what is held from f on.
record Splits (f : ℕ) (todo now held : Members) : Type 0 where
  below : (k : ℕ) → k < f → contains todo k ≡ contains held k
  there : (k : ℕ) → f ≤ k → Has held k → Has now k
  back : (k : ℕ) → Has now k → Has held k × (f ≤ k)

insert-same : (s t : Members) (g k : ℕ) → contains s k ≡ contains t k → contains (insert s g) k ≡ contains (insert t g) k
insert-same s t g k e =
    elim (cases_eq k g) [
      | inl at ↦ let P : ℕ → Type 0 = λ q. contains (insert s q) k ≡ contains (insert t q) k in
          subst P at (has-new s k ∙ sym (has-new t k))
      | inr apart ↦ contains-other s g k apart ∙ e ∙ sym (contains-other t g k apart)
    ]

-- member f is done
split-done : (f : ℕ) (todo now held : Members) → Has held f → Splits (suc f) todo now held → Splits f todo (insert now f) held
split-done f todo now held has s =
    record {
      below = λ k lt. s.below k (omega arith);
      there = λ k le h. elim (cases_eq k f) [
        | inl e ↦ let P : ℕ → Type 0 = Has (insert now f) in subst P (sym e) (has-new now f)
        | inr apart ↦ has-old now f k (s.there k (omega arith) h)
      ];
      back = λ k h. elim (has-cases now f k h) [
        | inl e ↦ let P : ℕ → Type 0 = λ q. Has held q × (f ≤ q) in subst P (sym e) (has, omega arith)
        | inr old ↦ ((s.back k old).0, let le : suc f ≤ k = (s.back k old).1 in omega arith)
      ];
    }

-- a member below f is put to what is held
split-more : (f g : ℕ) (todo now held : Members) → g < f → Splits f todo now held → Splits f (insert todo g) now (insert held g)
split-more f g todo now held lower s =
    record {
      below = λ k lt. insert-same todo held g k (s.below k lt);
      there = λ k le h. elim (has-cases held g k h) [
        | inl e ↦ absurd (omega arith)
        | inr old ↦ s.there k le old
      ];
      back = λ k h. (has-old held g k (s.back k h).0, (s.back k h).1);
    }

split-passed : (f : ℕ) (todo now held : Members) → contains held f ≡ false → Splits (suc f) todo now held → Splits f todo now held
split-passed f todo now held none s =
    record {
      below = λ k lt. s.below k (omega arith);
      there = λ k le h. elim (cases_eq k f) [
        | inl e ↦ let P : ℕ → Type 0 = Has held in let here : contains held f ≡ true = subst P e h in absurd (cc)
        | inr apart ↦ s.there k (omega arith) h
      ];
      back = λ k h. ((s.back k h).0, let le : suc f ≤ k = (s.back k h).1 in omega arith);
    }

module _ (nodes : List Node) (parts : (k : ℕ) → k < length nodes → PartsBelow k (node_at nodes k)) where
  module _ (f : ℕ) (lt : f < length nodes) (now held : Members)
      (ih : (todo held' later : Members) → Splits f todo (insert now f) held'
      → branches_below nodes f todo (insert now f) later ≡ ways nodes f held' later)
      (todo : Members) (s : Splits f todo (insert now f) held) where
    two : (g h : ℕ) (later : Members) → g < f → h < f
        → branches_below nodes f (insert (insert todo g) h) (insert now f) later ≡ ways nodes f (insert (insert held g) h) later
    two g h later p q =
        ih _ _ later (split-more f h (insert todo g) (insert now f) (insert held g) q (split-more f g todo (insert now f) held p s))

    one : (g : ℕ) (later : Members) → g < f
        → branches_below nodes f (insert todo g) (insert now f) later ≡ ways nodes f (insert held g) later
    one g later p = ih _ _ later (split-more f g todo (insert now f) held p s)

    literal-is : (later : Members) (b : Bool) (n v : ℕ) → node_at nodes f ≡ literal b n v → Has held f
        → ((k : ℕ) → Has now k → Has held k) → ((k : ℕ) → f < k → Has held k → Has now k)
        → (p q : Bool) → has_literal nodes now (not b) n v (length nodes) ≡ p → has_literal nodes held (not b) n v (length nodes) ≡ q
        → cond p [] (branches_below nodes f todo (insert now f) later) ≡ cond q [] (ways nodes f held later)
    literal-is later b n v e has more above true true p q = refl
    literal-is later b n v e has more above false false p q = ih todo held later s
    literal-is later b n v e has more above true false p q =
        let (k, lt', h, is) = literal-some nodes now (not b) n v (length nodes) p in
        let there : has_literal nodes held (not b) n v (length nodes) ≡ true =
        literal-there nodes held (not b) n v (length nodes) k lt' (more k h) is in
        absurd (cc)
    literal-is later b n v e has more above false true p q =
        let (k, lt', h, is) = literal-some nodes held (not b) n v (length nodes) q in
        elim (cases_lt f k) [
          | inl over ↦ let there : has_literal nodes now (not b) n v (length nodes) ≡ true =
              literal-there nodes now (not b) n v (length nodes) k lt' (above k over h) is in
              absurd (cc)
          | inr le ↦ elim (cases_eq k f) [
            | inl same ↦
                let P : ℕ → Type 0 = λ x. is_literal (not b) n v (node_at nodes x) ≡ true in
                let Q : Node → Type 0 = λ x. is_literal (not b) n v x ≡ true in
                absurd (not-itself b n v (subst Q e (subst P same is)))
            | inr apart ↦
                let lower : k < f = omega arith in
                let R : Node → Type 0 = λ x. is_literal b n v x ≡ true in
                let S : Bool → Type 0 = λ x. has_literal nodes held x n v (length nodes) ≡ true in
                let opposed : has_literal nodes held (not (not b)) n v (length nodes) ≡ true =
                subst S (sym (not-not b)) (literal-there nodes held b n v (length nodes) f lt has (subst R (sym e) (literal-itself b n v))) in
                let d = dies-literal nodes held k (not b) n v (literal-node (not b) n v (node_at nodes k) is) opposed in
                ih todo held later s ∙ d.none f held later lower (within-itself held) h
          ]
        ]
      where
        not-itself : (b : Bool) (n v : ℕ) → ¬ (is_literal (not b) n v (literal b n v) ≡ true)
        not-itself true n v e = cc
        not-itself false n v e = cc

    expanded : (later : Members) → Has held f → ((k : ℕ) → Has now k → Has held k) → ((k : ℕ) → f < k → Has held k → Has now k)
        → (node : Node) → node_at nodes f ≡ node → PartsBelow f node
        → expand nodes now f (λ t l. branches_below nodes f t (insert now f) l) todo later node
        ≡ expand nodes held f (ways nodes f) held later node
    expanded later has more above always e below = ih todo held later s
    expanded later has more above never e below = refl
    expanded later has more above (literal b n v) e below = literal-is later b n v e has more above _ _ refl refl
    expanded later has more above (and g h) e (p, q) = two g h later p q
    expanded later has more above (or g h) e (p, q) = both-same _ _ _ _ (one g later p) (one h later q)
    expanded later has more above (next g) e below = ih todo held _ s
    expanded later has more above (weak_next g) e below = ih todo held _ s
    expanded later has more above (until g h) e (p, q) = both-same _ _ _ _ (one h later q) (one g _ p)
    expanded later has more above (release g h) e (p, q) = both-same _ _ _ _ (two g h later p q) (one h _ q)

  as-ways : (n : ℕ) → n ≤ length nodes → (todo now held later : Members) → Splits n todo now held
      → branches_below nodes n todo now later ≡ ways nodes n held later
  as-ways zero le todo now held later s =
      let e : now ≡ held = same-sets now held (λ k h. (s.back k h).0) (λ k h. s.there k (omega arith) h) in
      ap (λ x. let made : Branch = record { now = x; later = later } in made ∷ []) e
  as-ways (suc f) le todo now held later s =
      let lt : f < length nodes = omega arith in
      cond-same (contains todo f) (contains held f) _ _ _ _ (s.below f (omega arith))
      (λ h.
      let has : Has held f = sym (s.below f (omega arith)) ∙ h in
      expanded f lt now held
      (λ todo' held' later' s'. as-ways f (omega arith) todo' (insert now f) held' later' s')
      todo (split-done f todo now held has s) later has (λ k h'. (s.back k h').0) (λ k over h'. s.there k (omega arith) h')
      (node_at nodes f) refl (parts f lt))
      (λ none.
      as-ways f (omega arith) todo now held later
      (split-passed f todo now held (sym (s.below f (omega arith)) ∙ none) s))

  -- the members of a set below the number of members, from the beginning
  pub from-start : (set held : Members) → ((k : ℕ) → k < length nodes → contains held k ≡ contains set k)
      → ((k : ℕ) → length nodes ≤ k → contains held k ≡ false)
      → branches_below nodes (length nodes) set empty empty ≡ ways nodes (length nodes) held empty
  from-start set held same none =
      as-ways (length nodes) (omega arith) set empty held empty
      (record {
        below = λ k lt. sym (same k lt);
        there = λ k le h. let no : contains held k ≡ false = none k le in absurd (cc);
        back = λ k h. let no : contains empty k ≡ false = contains-empty nat_cmp k in absurd (cc);
      })

-- One place more is seen.
use Rattle.std.proofs.Common.{◌≡◌, ◌≢◌, ℕ, zero, suc, ◌+◌, ◌-◌, ◌<◌, ◌≤◌, Bool, true, false, cond, ◌&&◌, List, [], ◌∷◌, ◌++◌, length, get_or, set, take, inl, inr, refl, sym, ap, ◌∙◌, subst, arith, get_or-set_same, get_or-set_other}
use Rattle.std.specs.Prelude.{ℤ, pos, neg_ℤ, unsigned_abs, nat_le}
use Rattle.std.specs.List.{Contains}
use Rattle.std.proofs.lemmas.Bool.{cases_eq, cases_lt, cases_Bool, le-leb, lt-leb}
use Rattle.std.proofs.lemmas.List.{length-set, reverse-append, get_or_default, get_or-take, length-take-le}
use Rattle.std.proofs.lemmas.List.Elements.{Contains-append_left, Contains-push, Contains-push_cases, Contains-get_or}
use Rattle.sat_core.specs.declared.analysis.Analysis.{Analysis}
use Rattle.chain_check.specs.Clauses.{Clause}
use Rattle.sat_core.specs.Trails.{ArePlaced}
use Rattle.chain_check.specs.Chains.{IsFalseIn, AllFalseIn, IsUnit, IsNumbered, Refutes, ends, goes}
use Rattle.sat_core.specs.Analyses.{seen_count, IsAnalysis, IsRefuting, AreMarked, AreMore}
use Rattle.chain_check.proofs.Literals.{twice, same-variable}
use Rattle.sat_core.proofs.Trailing.{IsConsistent}

-- the count with one place more
count-one : (seen : List Bool) (start p : ℕ) → start ≤ p → get_or seen p false ≡ true →
    seen_count seen start (suc p) ≡ suc (seen_count seen start p)
count-one seen start p le e =
    let P : Bool → Type 0 = λ b. cond (b && get_or seen p false) (suc (seen_count seen start p))
    (seen_count seen start p) ≡ suc (seen_count seen start p) in
    let Q : Bool → Type 0 = λ b. cond (true && b) (suc (seen_count seen start p))
    (seen_count seen start p) ≡ suc (seen_count seen start p) in
    subst P (sym (le-leb start p le)) (subst Q (sym e) refl)

pub count-unseen : (seen : List Bool) (start p : ℕ) → get_or seen p false ≡ false →
    seen_count seen start (suc p) ≡ seen_count seen start p
count-unseen seen start p e =
    let P : Bool → Type 0 = λ b. cond (nat_le start p && b) (suc (seen_count seen start p))
    (seen_count seen start p) ≡ seen_count seen start p in
    subst P (sym e) (cut (nat_le start p))
  where
    cut : (b : Bool) → cond (b && false) (suc (seen_count seen start p))
        (seen_count seen start p) ≡ seen_count seen start p
    cut true = refl
    cut false = refl

count-before : (seen : List Bool) (start p : ℕ) → p < start →
    seen_count seen start (suc p) ≡ seen_count seen start p
count-before seen start p lt =
    let P : Bool → Type 0 = λ b. cond (b && get_or seen p false) (suc (seen_count seen start p))
    (seen_count seen start p) ≡ seen_count seen start p in
    subst P (sym (lt-leb start p lt)) refl

-- one place counts as it is seen
count-place : (xs ys : List Bool) (start p : ℕ) → get_or xs p false ≡ get_or ys p false →
    seen_count xs start p ≡ seen_count ys start p →
    seen_count xs start (suc p) ≡ seen_count ys start (suc p)
count-place xs ys start p e f = ap (λ b. cond (nat_le start p && b) (suc (seen_count xs start p))
    (seen_count xs start p)) e ∙ ap (λ n. cond (nat_le start p && get_or ys p false) (suc n) n) f

count-apart : (seen : List Bool) (start q p : ℕ) → p ≤ q →
    seen_count (set seen q true) start p ≡ seen_count seen start p
count-apart seen start q zero le = refl
count-apart seen start q (suc p) le = count-place (set seen q true) seen start p
    (get_or-set_other seen q p true false (omega arith)) (count-apart seen start q p (omega arith))

pub count-lower : (seen : List Bool) (start q p : ℕ) → q < start →
    seen_count (set seen q true) start p ≡ seen_count seen start p
count-lower seen start q zero lt = refl
count-lower seen start q (suc p) lt =
    elim (cases_lt p start) [
      | inl below ↦ count-before (set seen q true) start p below ∙ count-lower seen start q p lt ∙
          sym (count-before seen start p below)
      | inr above ↦ count-place (set seen q true) seen start p
          (get_or-set_other seen q p true false (omega arith)) (count-lower seen start q p lt)
    ]

pub count-more : (seen : List Bool) (start q p : ℕ) → start ≤ q → q < p → q < length seen →
    get_or seen q false ≡ false → seen_count (set seen q true) start p ≡ suc
    (seen_count seen start p)
count-more seen start q zero le lt within none = absurd (omega arith)
count-more seen start q (suc p) le lt within none =
    elim (cases_eq p q) [
      | inl same ↦
          let P : ℕ → Type 0 = λ k. get_or (set seen q true) k false ≡ true in
          let Q : ℕ → Type 0 = λ k. get_or seen k false ≡ false in
          count-one (set seen q true) start p (omega arith)
          (subst P (sym same) (get_or-set_same seen q true false within)) ∙
          ap suc (count-apart seen start q p (omega arith) ∙
          sym (count-unseen seen start p (subst Q (sym same) none)))
      | inr apart ↦
          let e : get_or (set seen q true) p false ≡ get_or seen p false =
          get_or-set_other seen q p true false apart in
          let f : seen_count (set seen q true) start p ≡ suc (seen_count seen start p) =
          count-more seen start q p le (omega arith) within none in
          elim (cases_Bool (get_or seen p false)) [
            | inl yes' ↦ count-one (set seen q true) start p (omega arith) (e ∙ yes') ∙ ap suc f ∙
                sym (ap suc (count-one seen start p (omega arith) yes'))
            | inr no' ↦ count-unseen (set seen q true) start p (e ∙ no') ∙ f ∙
                sym (ap suc (count-unseen seen start p no'))
          ]
    ]

-- none is counted, so none is seen
pub count-none : (seen : List Bool) (start p : ℕ) → seen_count seen start p ≡ 0 → (i : ℕ) →
    start ≤ i → i < p → get_or seen i false ≡ false
count-none seen start zero e i le lt = absurd (omega arith)
count-none seen start (suc p) e i le lt =
    elim (cases_Bool (get_or seen p false)) [
      | inl yes' ↦ absurd (omega (arith, count-one seen start p (omega arith) yes', e))
      | inr no' ↦ elim (cases_eq i p) [
        | inl same ↦ let P : ℕ → Type 0 = λ k. get_or seen k false ≡ false in subst P (sym same) no'
        | inr apart ↦ count-none seen start p (sym (count-unseen seen start p no') ∙ e) i le
            (omega arith)
      ]
    ]

pub count-empty : (seen : List Bool) (start p : ℕ) → p ≤ start → seen_count seen start p ≡ 0
count-empty seen start zero le = refl
count-empty seen start (suc p) le = count-before seen start p (omega arith) ∙
    count-empty seen start p (omega arith)

module _ (trail : List ℤ) (start p : ℕ) (seen : List Bool) (lower unsettled : ℕ)
    (is : IsAnalysis trail start p seen lower unsettled) (q : ℕ) (under : q < p)
    (none : get_or seen q false ≡ false) where
  inside : q < length seen
  inside = omega (arith, is.long, is.below_end, under)

  -- a place below the level
  pub see-lower : q < start → IsAnalysis trail start p (set seen q true) (lower + 1) unsettled
  see-lower lt = record {
    long = omega (arith, is.long, length-set seen q true);
    below_end = is.below_end;
    counted = is.counted ∙ sym (count-lower seen start q p lt);
    below = omega (arith, is.below, count-more seen 0 q start (omega arith) lt inside none);
  }

  -- a place of the level
  pub see-level : start ≤ q → IsAnalysis trail start p (set seen q true) lower (unsettled + 1)
  see-level le = record {
    long = omega (arith, is.long, length-set seen q true);
    below_end = is.below_end;
    counted = omega (arith, is.counted, count-more seen start q p le under inside none);
    below = is.below ∙ sym (count-apart seen 0 q start le);
  }

-- the place is left behind
pub pass-unseen : (trail : List ℤ) (start p : ℕ) (seen : List Bool) (lower unsettled : ℕ) →
    IsAnalysis trail start (suc p) seen lower unsettled → get_or seen p false ≡ false →
    IsAnalysis trail start p seen lower unsettled
pass-unseen trail start p seen lower unsettled is e = record {
  long = is.long;
  below_end = omega (arith, is.below_end);
  counted = is.counted ∙ count-unseen seen start p e;
  below = is.below;
}

pub pass-seen : (trail : List ℤ) (start p : ℕ) (seen : List Bool) (lower unsettled : ℕ) →
    IsAnalysis trail start (suc p) seen lower unsettled → start ≤ p →
    get_or seen p false ≡ true → IsAnalysis trail start p seen lower (unsettled - 1)
pass-seen trail start p seen lower unsettled is le e = record {
  long = is.long;
  below_end = omega (arith, is.below_end);
  counted = omega (arith, is.counted, count-one seen start p le e);
  below = is.below;
}

pub counted-seen : (trail : List ℤ) (start p : ℕ) (seen : List Bool) (lower unsettled : ℕ) →
    IsAnalysis trail start (suc p) seen lower unsettled → start ≤ p →
    get_or seen p false ≡ true → unsettled ≡ suc (seen_count seen start p)
counted-seen trail start p seen lower unsettled is le e = is.counted ∙ count-one seen start p le e

pub false-at : (trail : List ℤ) (p : ℕ) (m : ℤ) → p ≤ length trail → IsFalseIn (take p trail) m →
    (i : ℕ) × (i < p) × (get_or trail i (pos 0) ≡ neg_ℤ m)
false-at trail p m le (k, lt, e) =
    let small : k < p = omega (arith, length-take-le p trail le) in (
      k,
      small,
      sym (get_or-take p trail k (pos 0) small) ∙
          get_or_default (take p trail) k (pos 0) (neg_ℤ m) lt ∙ e,
    )

-- the conflict's clause alone
pub refuting-starts : (clauses : List Clause) (trail : List ℤ) (seen : List Bool) (k : ℕ)
    (c : Clause) → IsNumbered clauses k c → AllFalseIn trail c →
    AreMarked trail (length trail) seen c → IsRefuting clauses trail (length trail) [] seen
    (k ∷ [])
refuting-starts clauses trail seen k c at all marked trues falses has within =
    ends c at (λ m there. let (i, lt, e) = all m there in
    let here : get_or trail i (pos 0) ≡ neg_ℤ m = get_or_default trail i (pos 0) (neg_ℤ m) lt ∙ e in
    let P : ℤ → Type 0 = Contains trues in
    subst P here (has i lt (marked m there i lt here)))

-- a reason before
pub refuting-goes : (clauses : List Clause) (trail : List ℤ) (p : ℕ) (kept : Clause)
    (old new : List Bool) (chain : List ℕ) (k : ℕ) (c : Clause) → IsConsistent trail → p < length trail →
    IsNumbered clauses k c → IsUnit (take p trail) c (get_or trail p (pos 0)) → AreMore old new →
    AreMarked trail p new c → IsRefuting clauses trail (suc p) kept old chain →
    IsRefuting clauses trail p kept new (chain ++ k ∷ [])
refuting-goes clauses trail p kept old new chain k c consistent lt at unit more marked before trues
    falses has within =
    let l : ℤ = get_or trail p (pos 0) in
    let there : Contains trail l = Contains-get_or trail p (pos 0) lt in
    let R : List ℕ → Type 0 = Refutes clauses trues in
    subst R (sym (reverse-append chain (k ∷ []))) (goes c l at
    (record {
      there = unit.there;
      open_yet = λ h. consistent l there (within (neg_ℤ l) h);
      others =
          others;
    })
    (before (trues ++ l ∷ []) (λ m h. Contains-append_left trues (l ∷ []) (neg_ℤ m) (falses m h))
    has' (λ m h. elim
    (Contains-push_cases trues l m h) [
      | inl o ↦ within m o
      | inr e ↦ let P : ℤ → Type 0 =
          Contains trail in subst P e there
    ])))
  where
    others : (m : ℤ) → Contains c m → m ≢ get_or trail p (pos 0) → IsFalseIn trues m
    others m of apart =
        let (i, less, e) = false-at trail p m (omega arith) (unit.others m of apart) in
        let P : ℤ → Type 0 = Contains trues in
        subst P e (has i less (marked m of i less e))

    has' : (i : ℕ) → i < suc p → get_or old i false ≡ true →
        Contains (trues ++ get_or trail p (pos 0) ∷ []) (get_or trail i (pos 0))
    has' i less e =
        elim (cases_eq i p) [
          | inl same ↦ let P : ℕ → Type 0 = λ k. Contains (trues ++ get_or trail p (pos 0) ∷ [])
              (get_or trail k (pos 0)) in subst P (sym same)
              (Contains-push trues (get_or trail p (pos 0)))
          | inr apart ↦ Contains-append_left trues (get_or trail p (pos 0) ∷ []) _
              (has i (omega arith) (more i e))
        ]

pub refuting-skips : (clauses : List Clause) (trail : List ℤ) (p : ℕ) (kept : Clause)
    (seen : List Bool) (chain : List ℕ) → get_or seen p false ≡ false →
    IsRefuting clauses trail (suc p) kept seen chain → IsRefuting clauses trail p kept seen chain
refuting-skips clauses trail p kept seen chain none before trues falses has within =
    before trues falses (λ i less e. elim (cases_eq i p) [
      | inl same ↦ let clash : true ≡ false = sym e ∙ ap (λ k. get_or seen k false) same ∙ none in
          absurd (cc)
      | inr apart ↦ has i (omega arith) e
    ]) within

-- the literal's opposite is kept
pub refuting-keeps : (clauses : List Clause) (trail : List ℤ) (p : ℕ) (kept : Clause)
    (seen : List Bool) (chain : List ℕ) → IsRefuting clauses trail (suc p) kept seen chain →
    IsRefuting clauses trail p (kept ++ neg_ℤ (get_or trail p (pos 0)) ∷ []) seen chain
refuting-keeps clauses trail p kept seen chain before trues falses has within =
    let l : ℤ = get_or trail p (pos 0) in
    let P : ℤ → Type 0 = Contains trues in
    let there : Contains trues l =
    subst P (twice l) (falses (neg_ℤ l) (Contains-push kept (neg_ℤ l))) in
    before trues (λ m h. falses m (Contains-append_left kept (neg_ℤ l ∷ []) m h))
    (λ i less e. elim (cases_eq i p) [
      | inl same ↦ let Q : ℕ → Type 0 = λ k. Contains trues (get_or trail k (pos 0)) in
          subst Q (sym same) there
      | inr apart ↦ has i (omega arith) e
    ]) within

-- nothing is seen from `start` on
pub refuting-sinks : (clauses : List Clause) (trail : List ℤ) (start p : ℕ) (kept : Clause)
    (seen : List Bool) (chain : List ℕ) → seen_count seen start p ≡ 0 →
    IsRefuting clauses trail p kept seen chain → IsRefuting clauses trail start kept seen chain
refuting-sinks clauses trail start p kept seen chain none before trues falses has within =
    before trues falses (λ i less e. elim (cases_lt i start) [
      | inl low ↦ has i low e
      | inr level ↦
          let clash : false ≡ true = sym (count-none seen start p none i level less) ∙ e in
          absurd (cc)
    ]) within

pub count-few : (seen : List Bool) (start p : ℕ) → seen_count seen start p ≤ p
count-few seen start zero = omega arith
count-few seen start (suc p) = cut (nat_le start p && get_or seen p false) (count-few seen start p)
  where
    cut : (b : Bool) → seen_count seen start p ≤ p →
        cond b (suc (seen_count seen start p)) (seen_count seen start p) ≤ suc p
    cut true le = omega arith
    cut false le = omega arith

-- the place of the variable of a false literal
pub placed-at : (trail : List ℤ) (places : List ℕ) (i : ℕ) (m : ℤ) → ArePlaced trail places →
    i < length trail → get_or trail i (pos 0) ≡ neg_ℤ m → get_or places (unsigned_abs m) 0 ≡ i
placed-at trail places i m placed lt e =
    let P : ℕ → Type 0 = λ v. get_or places v 0 ≡ i in
    subst P (ap unsigned_abs e ∙ same-variable m) (placed i lt)

-- how far the marking of a clause has come
pub record IsMarking (trail : List ℤ) (start p : ℕ) (old : Analysis) (front : Clause)
    (new : Analysis) : Type 0 where
  pub is : IsAnalysis trail start p new.seen (length new.lower.items) new.unsettled
  pub more : AreMore old.seen new.seen
  pub marked : AreMarked trail p new.seen front
  pub same_chain : new.chain.items ≡ old.chain.items

pub marking-starts : (trail : List ℤ) (start p : ℕ) (a : Analysis) →
    IsAnalysis trail start p a.seen (length a.lower.items) a.unsettled →
    IsMarking trail start p a [] a
marking-starts trail start p a is = record {
  is = is;
  more = λ i e. e;
  marked =
      λ m (k, lt, e). absurd (omega arith);
  same_chain = refl;
}

-- a literal at p or past it is not marked
pub marking-skips : (trail : List ℤ) (places : List ℕ) (start p : ℕ) (old new : Analysis)
    (front : Clause) (l : ℤ) → ArePlaced trail places → p ≤ get_or places (unsigned_abs l) 0 →
    IsMarking trail start p old front new → IsMarking trail start p old (front ++ l ∷ []) new
marking-skips trail places start p old new front l placed past is =
    record { is = is.is; more = is.more; marked = marked; same_chain = is.same_chain }
  where
    marked : AreMarked trail p new.seen (front ++ l ∷ [])
    marked m there i lt e =
        elim (Contains-push_cases front l m there) [
          | inl h ↦ is.marked m h i lt e
          | inr same ↦ absurd (omega (
            arith,
            placed-at trail places i l placed
                (omega (arith, lt, is.is.below_end)) (e ∙ ap neg_ℤ (sym same)),
            past,
          ))
        ]

pub marking-sees : (trail : List ℤ) (places : List ℕ) (start p : ℕ) (old new next : Analysis)
    (front : Clause) (l : ℤ) → ArePlaced trail places → IsMarking trail start p old front new →
    IsAnalysis trail start p next.seen (length next.lower.items) next.unsettled →
    AreMore new.seen next.seen → get_or next.seen
    (get_or places (unsigned_abs l) 0) false ≡ true → next.chain.items ≡ new.chain.items →
    IsMarking trail start p old (front ++ l ∷ []) next
marking-sees trail places start p old new next front l placed is now more seen chain =
    record {
      is = now;
      more = λ i e. more i (is.more i e);
      marked = marked;
      same_chain = chain ∙
          is.same_chain;
    }
  where
    marked : AreMarked trail p next.seen (front ++ l ∷ [])
    marked m there i lt e =
        elim (Contains-push_cases front l m there) [
          | inl h ↦ more i (is.marked m h i lt e)
          | inr same ↦
              let P : ℕ → Type 0 = λ k. get_or next.seen k false ≡ true in
              subst P (placed-at trail places i l placed (omega (arith, lt, is.is.below_end))
              (e ∙ ap neg_ℤ (sym same))) seen
        ]

-- Reasons in the place of what they imply.
use Rattle.std.proofs.Common.{◌≡◌, ◌≢◌, ℕ, zero, suc, ◌-◌, ◌<◌, ◌≤◌, Bool, true, false, List, [], ◌∷◌, ◌++◌, length, get_or, take, drop, reverse, inl, inr, refl, sym, ap, ◌∙◌, subst, arith}
use Rattle.std.specs.Prelude.{ℤ, pos, neg_ℤ}
use Rattle.std.specs.List.{Contains}
use Rattle.std.proofs.lemmas.Bool.{cases_lt}
use Rattle.std.proofs.lemmas.List.{length-take-le, take-append-drop}
use Rattle.std.proofs.lemmas.List.Elements.{Contains-append_left}
use Rattle.std.proofs.lemmas.Option.{slice_get_within, get_or_from_slice_get}
use Rattle.sat_core.specs.declared.solver.Solver.{Solver}
use Rattle.chain_check.specs.Clauses.{Clause}
use Rattle.chain_check.specs.Chains.{IsUnit, IsNumbered, Refutes}
use Rattle.sat_core.specs.Trails.{AreSettled}
use Rattle.sat_core.specs.Solvers.{IsReady, IsConflict}
use Rattle.sat_core.specs.Marks.{AreNone}
use Rattle.sat_core.specs.Analyses.{seen_count, IsAnalysis, IsRefuting, AreMarked, AreMore}
use Rattle.sat_core.proofs.Trailing.{IsConsistent, consistent, settled-unrefuted, at-front}
use Rattle.sat_core.proofs.Analysing.{refuting-starts, refuting-goes, count-empty, count-unseen, counted-seen, pass-unseen, refuting-skips}

count-blank : (seen : List Bool) (start p : ℕ) → AreNone seen → seen_count seen start p ≡ 0
count-blank seen start zero none = refl
count-blank seen start (suc p) none = count-unseen seen start p (none p) ∙
    count-blank seen start p none

-- nothing is seen
pub analysis-none : (trail : List ℤ) (start n : ℕ) (seen : List Bool) (lower unsettled : ℕ) →
    n ≡ length trail → n ≤ length seen → AreNone seen → lower ≡ 0 → unsettled ≡ 0 →
    IsAnalysis trail start n seen lower unsettled
analysis-none trail start n seen lower unsettled e le blank low none = record {
  long = omega (arith, e, le);
  below_end = omega (arith, e);
  counted = none ∙ sym (count-blank seen start n blank);
  below = low ∙ sym (count-blank seen 0 start blank);
}

-- the conflict's clause
pub its-clause : (clauses : List Clause) (k : ℕ) (c : Clause) → IsNumbered clauses k c →
    get_or clauses (k - 1) [] ≡ c
its-clause clauses k c at = get_or_from_slice_get clauses (k - 1) c [] at.there

pub conflict-within : (s : Solver) (k : ℕ) → IsConflict s k → (0 < k) × (k ≤ length s.clauses)
conflict-within s k (c, at, false') = (
  at.counted,
  omega (arith, at.counted, slice_get_within s.clauses (k - 1) c at.there),
)

pub conflict-refutes : (s : Solver) (k n : ℕ) (seen : List Bool) (chain : List ℕ) →
    n ≡ length s.partial.literals → IsConflict s k →
    AreMarked s.partial.literals n seen (get_or s.clauses (k - 1) []) → chain ≡ k ∷ [] →
    IsRefuting s.clauses s.partial.literals (length s.partial.literals) [] seen chain
conflict-refutes s k n seen chain e (c, at, false') marked f =
    let P : Clause → Type 0 = AreMarked s.partial.literals (length s.partial.literals) seen in
    let Q : ℕ → Type 0 = λ m. AreMarked s.partial.literals m seen (get_or s.clauses (k - 1) []) in
    let R : List ℕ → Type 0 = IsRefuting s.clauses s.partial.literals
    (length s.partial.literals) [] seen in
    subst R (sym f) (refuting-starts s.clauses s.partial.literals seen k c at false'
    (subst P (its-clause s.clauses k c at) (subst Q e marked)))

pub consistent-trail : (s : Solver) → IsReady s → IsConsistent s.partial.literals
consistent-trail s ready = consistent s.partial.variables s.clauses s.partial.literals
    s.reasons.items s.limits.items ready.trail

-- the reason of a place
pub reason-of : (s : Solver) (p k : ℕ) → IsReady s → p < length s.partial.literals →
    k ≡ get_or s.reasons.items p 0 → 0 < k → (c : Clause) × IsNumbered s.clauses k c ×
    IsUnit (take p s.partial.literals) c (get_or s.partial.literals p (pos 0))
reason-of s p k ready lt e some =
    let P : ℕ → Type 0 = λ n. IsNumbered s.clauses n (caused.0) in
    (caused.0, subst P (sym e) caused.1, caused.2)
  where
    caused : (c : Clause) × IsNumbered s.clauses (get_or s.reasons.items p 0) c ×
        IsUnit (take p s.partial.literals) c (get_or s.partial.literals p (pos 0))
    caused = (ready.trail.steps p lt).caused (omega (arith, some, e))

pub reason-within : (s : Solver) (p k : ℕ) → IsReady s → p < length s.partial.literals →
    k ≡ get_or s.reasons.items p 0 → 0 < k → k ≤ length s.clauses
reason-within s p k ready lt e some = let (c, at, unit) = reason-of s p k ready lt e some in
    omega (arith, at.counted, slice_get_within s.clauses (k - 1) c at.there)

pub reason-refutes : (s : Solver) (p k : ℕ) (kept : Clause) (old new : List Bool)
    (chain chain' : List ℕ) → IsReady s → p < length s.partial.literals → k ≡ get_or s.reasons.items p 0 → 0 < k →
    AreMore old new → AreMarked s.partial.literals p new (get_or s.clauses (k - 1) []) →
    chain' ≡ chain ++ k ∷ [] → IsRefuting s.clauses s.partial.literals (suc p) kept old chain →
    IsRefuting s.clauses s.partial.literals p kept new chain'
reason-refutes s p k kept old new chain chain' ready lt e some more marked f before =
    let (c, at, unit) = reason-of s p k ready lt e some in
    let P : Clause → Type 0 = AreMarked s.partial.literals p new in
    let R : List ℕ → Type 0 = IsRefuting s.clauses s.partial.literals p kept new in
    subst R (sym f) (refuting-goes s.clauses s.partial.literals p kept old new chain k c
    (consistent-trail s ready) lt at unit more
    (subst P (its-clause s.clauses k c at) marked) before)

-- A seen place of the last level has a reason, unless it is the only one.
pub implied-place : (s : Solver) (start p : ℕ) (seen : List Bool) (lower unsettled : ℕ) →
    IsReady s → 0 < length s.limits.items →
    start ≡ get_or s.limits.items (length s.limits.items - 1) 0 →
    IsAnalysis s.partial.literals start (suc p) seen lower unsettled → start ≤ p →
    get_or seen p false ≡ true → unsettled ≢ 1 → 0 < get_or s.reasons.items p 0
implied-place s start p seen lower unsettled ready some last is level e many =
    elim (cases_lt 0 (get_or s.reasons.items p 0)) [
      | inl more ↦ more
      | inr none ↦
          let inside : p < length s.partial.literals = omega (arith, is.below_end) in
          let (j, lt, at) = (ready.trail.steps p inside).decided (omega arith) in
          let place : get_or s.limits.items j 0 ≡ p = at ∙
          length-take-le p s.partial.literals (omega arith) in
          elim (cases_lt j (length s.limits.items - 1)) [
            | inl less ↦ absurd (omega (
              arith,
              ready.trail.rising j (length s.limits.items - 1) less (omega arith),
              place,
              last,
            ))
            | inr more ↦
                let same : j ≡ length s.limits.items - 1 = omega (arith, lt) in
                let here : p ≡ start = sym place ∙ ap (λ q. get_or s.limits.items q 0) same ∙
                sym last in
                absurd (many (counted-seen s.partial.literals start p seen lower unsettled
                is level e ∙ ap suc (count-empty seen start p (omega arith))))
          ]
    ]

-- Below the last level nothing is refuted.
pub unrefuted-below : (s : Solver) (start p : ℕ) (seen : List Bool) (chain : List ℕ) → IsReady s →
    0 < length s.limits.items → start ≡ get_or s.limits.items (length s.limits.items - 1) 0 →
    p ≤ start → ¬ IsRefuting s.clauses s.partial.literals p [] seen chain
unrefuted-below s start p seen chain ready some last below refuting =
    settled-unrefuted s.clauses (take start s.partial.literals) settled
    (λ l a b. consistent-trail s ready l (inside l a) (inside (neg_ℤ l) b)) (λ l h. h)
    (λ l h. h)
    (refuting (take start s.partial.literals) (λ l (k, lt, e). absurd (omega arith))
    (λ i lt e. at-front s.partial.literals i start (pos 0) (omega arith)
    (omega (arith, within))) inside)
  where
    within : start < length s.partial.literals
    within = omega (arith, last, ready.trail.within (length s.limits.items - 1) (omega arith))

    settled : AreSettled s.clauses (take start s.partial.literals)
    settled = let P : ℕ → Type 0 = λ q. AreSettled s.clauses (take q s.partial.literals) in
        subst P (sym last) (ready.trail.complete (length s.limits.items - 1) (omega arith))

    inside : (l : ℤ) → Contains (take start s.partial.literals) l → Contains s.partial.literals l
    inside l there = let P : List ℤ → Type 0 = λ xs. Contains xs l in
        subst P (take-append-drop start s.partial.literals)
        (Contains-append_left (take start s.partial.literals)
        (drop start s.partial.literals) l there)

pub nothing-pending : (clauses : List Clause) (trail : List ℤ) (p : ℕ) (seen : List Bool)
    (chain : List ℕ) → p ≤ 0 → IsRefuting clauses trail p [] seen chain →
    Refutes clauses [] (reverse chain)
nothing-pending clauses trail p seen chain none refuting =
    refuting [] (λ l (k, lt, e). absurd (omega arith)) (λ i lt e. absurd (omega arith))
    (λ l (k, lt, e). absurd (omega arith))

pub implied-first : (s : Solver) (p : ℕ) → IsReady s → p < length s.partial.literals →
    length s.limits.items ≡ 0 → 0 < get_or s.reasons.items p 0
implied-first s p ready lt none =
    elim (cases_lt 0 (get_or s.reasons.items p 0)) [
      | inl more ↦ more
      | inr zero' ↦ let (j, less, at) = (ready.trail.steps p lt).decided (omega arith) in
          absurd (omega (arith, less, none))
    ]

-- one place further down
pub further-down : (clauses : List Clause) (trail : List ℤ) (start p : ℕ) (kept : Clause)
    (seen : List Bool) (lower unsettled : ℕ) (chain : List ℕ) → 0 < p →
    get_or seen (p - 1) false ≡ false → IsAnalysis trail start p seen lower unsettled →
    IsRefuting clauses trail p kept seen chain →
    IsAnalysis trail start (p - 1) seen lower unsettled ×
    IsRefuting clauses trail (p - 1) kept seen chain
further-down clauses trail start p kept seen lower unsettled chain some unseen is refuting =
    let P : ℕ → Type 0 = λ q. IsAnalysis trail start q seen lower unsettled in
    let Q : ℕ → Type 0 = λ q. IsRefuting clauses trail q kept seen chain in
    let same : p ≡ suc (p - 1) = omega arith in (
      pass-unseen trail start (p - 1) seen lower unsettled (subst P same is) unseen,
      refuting-skips clauses trail (p - 1) kept seen chain unseen (subst Q same refuting),
    )

-- what is refuted up to p is so up to the place behind the one before it
pub refuting-next : (clauses : List Clause) (trail : List ℤ) (p : ℕ) (kept : Clause)
    (seen : List Bool) (chain : List ℕ) → 0 < p → IsRefuting clauses trail p kept seen chain →
    IsRefuting clauses trail (suc (p - 1)) kept seen chain
refuting-next clauses trail p kept seen chain some refuting =
    let Q : ℕ → Type 0 = λ q. IsRefuting clauses trail q kept seen chain in
    let same : p ≡ suc (p - 1) = omega arith in subst Q same refuting

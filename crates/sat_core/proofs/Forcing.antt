-- What the clauses say of the values that make them true: what stands before all decisions holds, and
-- what is traced back to decisions holds where these do.
use Rattle.std.proofs.Common.{◌≡◌, ◌≢◌, ℕ, zero, suc, ◌+◌, ◌-◌, ◌<◌, ◌≤◌, Bool, true, false, List, [], ◌∷◌, ◌++◌, length, get_or, set, take, inl, inr, refl, sym, ap, ◌∙◌, subst, arith, get_or-set_same, get_or-set_other}
use Rattle.std.specs.Prelude.{ℤ, pos, neg_ℤ, unsigned_abs}
use Rattle.std.specs.List.{Contains}
use Rattle.std.proofs.lemmas.Bool.{cases_eq, cases_lt}
use Rattle.std.proofs.lemmas.List.{length-take-le, get_or-take}
use Rattle.std.proofs.lemmas.List.Elements.{Contains-append_left, Contains-push, Contains-push_cases}
use Rattle.chain_check.specs.Clauses.{Clause, AreLiterals, IsMadeTrue, IsSubset, Satisfies, SatisfiesAll}
use Rattle.chain_check.specs.Chains.{IsUnit}
use Rattle.chain_check.proofs.Literals.{same-or-not, not-both, same-variable}
use Rattle.chain_check.proofs.Passing.{numbered-there}
use Rattle.sat_core.specs.declared.solver.Solver.{Solver}
use Rattle.sat_core.specs.Analyses.{AreMarked, AreMore}
use Rattle.sat_core.specs.Sessions.{AreDecided, IsTraced, Excludes}
use Rattle.sat_core.specs.Solvers.{IsReady, IsConflict}
use Rattle.sat_core.specs.Watches.{StandsAt}
use Rattle.sat_core.proofs.Covering.{place-of}
use Rattle.sat_core.proofs.Resolving.{reason-of, its-clause}

-- a clause of which all other literals are false makes its literal true
unit-made : (n : ℕ) (values : List Bool) (c : Clause) (trues : List ℤ) (l : ℤ) → AreLiterals n c →
    Satisfies values c → IsUnit trues c l → ((m : ℤ) → Contains c m → m ≢ l →
    Contains trues (neg_ℤ m) → IsMadeTrue values (neg_ℤ m)) → IsMadeTrue values l
unit-made n values c trues l right (m, of, made) unit all =
    elim (same-or-not m l) [
      | inl e ↦ let P : ℤ → Type 0 = IsMadeTrue values in subst P e made
      | inr apart ↦ absurd (not-both values m (right m of).0 made
          (all m of apart (unit.others m of apart)))
    ]

-- a place of the front of the trail
front-place : (trail : List ℤ) (p : ℕ) (m : ℤ) → p ≤ length trail → Contains (take p trail) m →
    (k : ℕ) × (k < p) × (get_or trail k (pos 0) ≡ m)
front-place trail p m le there =
    let (k, stands) = place-of (take p trail) m there in
    let less : k < p = omega (arith, stands.0, length-take-le p trail le) in
    (k, less, sym (get_or-take p trail k (pos 0) less) ∙ stands.1)

module _ (s : Solver) (ready : IsReady s) (values : List Bool)
    (all : SatisfiesAll values s.clauses) where
  -- the literal of a place with a reason, where the places that its clause needs are true
  pub caused-made : (p : ℕ) → p < length s.partial.literals → 0 < get_or s.reasons.items p 0 →
      ((m : ℤ) → Contains (get_or s.clauses (get_or s.reasons.items p 0 - 1) []) m → (k : ℕ) →
      k < p → get_or s.partial.literals k (pos 0) ≡ neg_ℤ m → IsMadeTrue values (neg_ℤ m)) →
      IsMadeTrue values (get_or s.partial.literals p (pos 0))
  caused-made p inside some others =
      let (c, at, unit) = reason-of s p (get_or s.reasons.items p 0) ready inside refl some in
      let there : Contains s.clauses c =
      numbered-there s.clauses (get_or s.reasons.items p 0) c at in
      let P : Clause → Type 0 = λ d. (m : ℤ) → Contains d m → (k : ℕ) → k < p →
      get_or s.partial.literals k (pos 0) ≡ neg_ℤ m → IsMadeTrue values (neg_ℤ m) in
      let its : P c = subst P (its-clause s.clauses (get_or s.reasons.items p 0) c at) others in
      unit-made s.partial.variables values c (take p s.partial.literals)
      (get_or s.partial.literals p (pos 0)) (ready.right c there) (all c there) unit
      (λ m of apart false'. let (k, less, e) = front-place s.partial.literals p (neg_ℤ m)
      (omega (arith, inside)) false' in its m of k less e)

  forced-below : (n i : ℕ) → i < n → i < length s.partial.literals →
      ((q : ℕ) → q < length s.limits.items → i < get_or s.limits.items q 0) →
      IsMadeTrue values (get_or s.partial.literals i (pos 0))
  forced-below zero i lt inside below = absurd (omega arith)
  forced-below (suc n) i lt inside below =
      elim (cases_lt 0 (get_or s.reasons.items i 0)) [
        | inl some ↦ caused-made i inside some (λ m of k less e.
            let P : ℤ → Type 0 = IsMadeTrue values in
            subst P e (forced-below n k (omega arith) (omega arith)
            (λ q small. let early = below q small in omega arith)))
        | inr none ↦ let (j, less, at) = (ready.trail.steps i inside).decided (omega arith) in
            absurd (omega (
              arith,
              below j less,
              at,
              length-take-le i s.partial.literals (omega arith),
            ))
      ]

  -- what stands before all decisions
  pub forced : (i : ℕ) → i < length s.partial.literals →
      ((q : ℕ) → q < length s.limits.items → i < get_or s.limits.items q 0) →
      IsMadeTrue values (get_or s.partial.literals i (pos 0))
  forced i inside below = forced-below (suc i) i (omega arith) inside below

-- no values make all clauses true where one is false before all decisions
pub conflict-unmet : (s : Solver) (k : ℕ) → IsReady s → length s.limits.items ≡ 0 → IsConflict s k →
    (values : List Bool) → ¬ SatisfiesAll values s.clauses
conflict-unmet s k ready none (c, at, false') values all =
    let there : Contains s.clauses c = numbered-there s.clauses k c at in
    let (l, of, made) = all c there in
    let (i, stands) = place-of s.partial.literals (neg_ℤ l) (false' l of) in
    let P : ℤ → Type 0 = IsMadeTrue values in
    not-both values l (ready.right c there l of).0 made
    (subst P stands.1 (forced s ready values all i stands.0 (λ q lt. absurd (omega arith))))

-- a place that is not marked
pub traced-unseen : (s : Solver) (seen : List Bool) (p : ℕ) (l : ℤ) →
    get_or seen p false ≡ false → IsTraced s seen (p + 1) l → IsTraced s seen p l
traced-unseen s seen p l unseen traced values all given =
    traced values all (λ i inside marked early. elim early [
      | inr decided ↦ given i inside marked (inr decided)
      | inl below ↦ elim (cases_eq i p) [
        | inl here ↦ let P : ℕ → Type 0 = λ k. get_or seen k false ≡ true in
            let clash : false ≡ true = sym unseen ∙ subst P here marked in absurd (cc)
        | inr apart ↦ given i inside marked (inl (omega arith))
      ]
    ])

-- a place that was decided
pub traced-decided : (s : Solver) (seen : List Bool) (p : ℕ) (l : ℤ) →
    get_or s.reasons.items p 0 ≡ 0 → IsTraced s seen (p + 1) l → IsTraced s seen p l
traced-decided s seen p l decided traced values all given =
    traced values all (λ i inside marked early. elim early [
      | inr decided' ↦ given i inside marked (inr decided')
      | inl below ↦ elim (cases_eq i p) [
        | inl here ↦ given i inside marked (inr (ap (λ k. get_or s.reasons.items k 0) here
            ∙ decided))
        | inr apart ↦ given i inside marked (inl (omega arith))
      ]
    ])

-- a place with a reason, of which all is marked
pub traced-caused : (s : Solver) (old new : List Bool) (p : ℕ) (l : ℤ) → IsReady s →
    p < length s.partial.literals → 0 < get_or s.reasons.items p 0 → AreMore old new →
    AreMarked s.partial.literals p new
    (get_or s.clauses (get_or s.reasons.items p 0 - 1) []) →
    IsTraced s old (p + 1) l → IsTraced s new p l
traced-caused s old new p l ready within some more marked traced values all given =
    traced values all (λ i inside seen early. elim early [
      | inr decided ↦ given i inside (more i seen) (inr decided)
      | inl below ↦ elim (cases_eq i p) [
        | inr apart ↦ given i inside (more i seen) (inl (omega arith))
        | inl here ↦
            let P : ℕ → Type 0 = λ k. IsMadeTrue values (get_or s.partial.literals k (pos 0)) in
            let Q : ℤ → Type 0 = IsMadeTrue values in
            subst P (sym here) (caused-made s ready values all p within some (λ m of k less e.
            subst Q e (given k (omega arith) (marked m of k less e) (inl less))))
      ]
    ])

-- below all decisions nothing more is to be traced
pub traced-first : (s : Solver) (seen : List Bool) (p : ℕ) (l : ℤ) → IsReady s →
    ((i q : ℕ) → i < p → q < length s.limits.items → i < get_or s.limits.items q 0) →
    IsTraced s seen p l → IsTraced s seen 0 l
traced-first s seen p l ready first traced values all given =
    traced values all (λ i inside marked early. elim early [
      | inr decided ↦ given i inside marked (inr decided)
      | inl below ↦ forced s ready values all i inside (λ q lt. first i q below lt)
    ])

-- it all begins with the place of the literal itself
pub traced-begins : (s : Solver) (seen : List Bool) (p : ℕ) → p < length s.partial.literals →
    get_or seen p false ≡ true → IsTraced s seen (p + 1) (get_or s.partial.literals p (pos 0))
traced-begins s seen p inside marked values all given = given p inside marked (inl (omega arith))

-- the place of a literal of the trail
pub its-place : (s : Solver) (l : ℤ) (i place : ℕ) → IsReady s → i < length s.partial.literals →
    get_or s.partial.literals i (pos 0) ≡ neg_ℤ l → place ≡ get_or s.places.items (unsigned_abs l) 0
    → place ≡ i
its-place s l i place ready inside at e =
    e ∙ ap (λ v. get_or s.places.items v 0) (sym (same-variable l) ∙ sym (ap unsigned_abs at)) ∙
    ready.placed i inside

-- one literal more is marked
pub marked-more : (s : Solver) (seen : List Bool) (p : ℕ) (front : Clause) (l : ℤ) →
    AreMarked s.partial.literals p seen front →
    ((i : ℕ) → i < p → get_or s.partial.literals i (pos 0) ≡ neg_ℤ l → get_or seen i false ≡ true)
    → AreMarked s.partial.literals p seen (front ++ l ∷ [])
marked-more s seen p front l before here m there i lt at =
    elim (Contains-push_cases front l m there) [
      | inl old ↦ before m old i lt at
      | inr same ↦ here i lt (at ∙ ap neg_ℤ (sym same))
    ]

pub mark-more : (seen : List Bool) (place : ℕ) → place < length seen →
    AreMore seen (set seen place true)
mark-more seen place lt i marked = elim (cases_eq i place) [
  | inl here ↦ let P : ℕ → Type 0 = λ k. get_or (set seen place true) k false ≡ true in
      subst P (sym here) (get_or-set_same seen place true false lt)
  | inr apart ↦ get_or-set_other seen place i true false apart ∙ marked
]

-- a literal of the reason, with a place below p
pub reason-marked : (s : Solver) (old seen : List Bool) (p place : ℕ) (front : Clause) (l : ℤ) →
    IsReady s → p ≤ length s.partial.literals →
    place ≡ get_or s.places.items (unsigned_abs l) 0 → place < length seen → AreMore old seen →
    AreMarked s.partial.literals p seen front →
    AreMore old (set seen place true) ×
    AreMarked s.partial.literals p (set seen place true) (front ++ l ∷ [])
reason-marked s old seen p place front l ready within its lt more marked =
    let on = mark-more seen place lt in (
      λ i h. on i (more i h),
      marked-more s (set seen place true) p front l (λ m there i less at. on i
          (marked m there i less at))
          (λ i less at. let same = its-place s l i place ready (omega arith) at its in
          let P : ℕ → Type 0 = λ k. get_or (set seen place true) k false ≡ true in
          subst P same (get_or-set_same seen place true false lt)),
    )

-- a literal of the reason, with no place below p
pub reason-passed : (s : Solver) (seen : List Bool) (p place : ℕ) (front : Clause) (l : ℤ) →
    IsReady s → p ≤ length s.partial.literals →
    place ≡ get_or s.places.items (unsigned_abs l) 0 → p ≤ place →
    AreMarked s.partial.literals p seen front →
    AreMarked s.partial.literals p seen (front ++ l ∷ [])
reason-passed s seen p place front l ready within its le marked =
    marked-more s seen p front l marked (λ i less at.
    absurd (omega (arith, its-place s l i place ready (omega arith) at its)))

-- the first of the assumptions are in the core, where they are traced decisions
abbrev pub AreFound : Solver → List Bool → List ℤ → ℕ → List ℤ → Type 0
AreFound s seen assumptions n core = (j : ℕ) → j < n → (i : ℕ) →
    StandsAt s.partial.literals (get_or assumptions j (pos 0)) i → get_or seen i false ≡ true →
    get_or s.reasons.items i 0 ≡ 0 → Contains core (get_or assumptions j (pos 0))

pub found-more : (s : Solver) (seen : List Bool) (assumptions core core' : List ℤ) (n : ℕ)
    (m : ℤ) → get_or assumptions n (pos 0) ≡ m → AreFound s seen assumptions n core →
    ((l : ℤ) → Contains core l → Contains core' l) →
    ((i : ℕ) → StandsAt s.partial.literals m i → get_or seen i false ≡ true →
    get_or s.reasons.items i 0 ≡ 0 → Contains core' m) → AreFound s seen assumptions (n + 1) core'
found-more s seen assumptions core core' n m e found more here j lt i stands marked none =
    elim (cases_eq j n) [
      | inr apart ↦ more (get_or assumptions j (pos 0)) (found j (omega arith) i stands marked none)
      | inl same ↦
          let its : m ≡ get_or assumptions j (pos 0) =
          sym e ∙ ap (λ k. get_or assumptions k (pos 0)) (sym same) in
          let P : ℤ → Type 0 = λ z. StandsAt s.partial.literals z i in
          let Q : ℤ → Type 0 = Contains core' in
          subst Q its (here i (subst P (sym its) stands) marked none)
    ]

-- with all traced decisions and the literal itself, the core can't be true
pub core-excludes : (s : Solver) (seen : List Bool) (assumptions core : List ℤ) (l : ℤ) (n : ℕ) →
    IsReady s → 0 < unsigned_abs l → length assumptions ≤ n → IsTraced s seen 0 (neg_ℤ l) →
    AreDecided s assumptions → AreFound s seen assumptions n core →
    Excludes s.clauses (core ++ l ∷ [])
core-excludes s seen assumptions core l n ready some whole traced decided found values all given =
    not-both values l some (given l (Contains-push core l)) (traced values all
    (λ i inside marked early. elim early [
      | inl below ↦ absurd (omega arith)
      | inr none ↦
          let (q, less, at) = (ready.trail.steps i inside).decided none in
          let place : get_or s.limits.items q 0 ≡ i = at ∙
          length-take-le i s.partial.literals (omega (arith, inside)) in
          let P : ℕ → Type 0 = λ k. Contains assumptions (get_or s.partial.literals k (pos 0)) in
          let Q : ℤ → Type 0 = λ z. StandsAt s.partial.literals z i in
          let M : ℤ → Type 0 = IsMadeTrue values in
          let (j, stands) = place-of assumptions (get_or s.partial.literals i (pos 0))
          (subst P place (decided q less)) in
          subst M stands.1 (given (get_or assumptions j (pos 0)) (Contains-append_left core (l ∷ [])
          (get_or assumptions j (pos 0)) (found j (omega (arith, stands.0, whole)) i
          (subst Q (sym stands.1) (inside, refl)) marked none)))
    ]))

-- the place of a false literal
pub false-place : (s : Solver) (l : ℤ) (place : ℕ) → IsReady s →
    Contains s.partial.literals (neg_ℤ l) → place ≡ get_or s.places.items (unsigned_abs l) 0 →
    (place < length s.partial.literals) × (get_or s.partial.literals place (pos 0) ≡ neg_ℤ l)
false-place s l place ready there its =
    let (i, stands) = place-of s.partial.literals (neg_ℤ l) there in
    let same = its-place s l i place ready stands.0 stands.1 its in
    let P : ℕ → Type 0 = λ k. (k < length s.partial.literals) ×
    (get_or s.partial.literals k (pos 0) ≡ neg_ℤ l) in
    subst P (sym same) stands

-- the place of a true literal
pub true-place : (s : Solver) (l : ℤ) (i place : ℕ) → IsReady s →
    StandsAt s.partial.literals l i → place ≡ get_or s.places.items (unsigned_abs l) 0 → place ≡ i
true-place s l i place ready (inside, at) its =
    its ∙ ap (λ z. get_or s.places.items (unsigned_abs z) 0) (sym at) ∙ ready.placed i inside

-- the core of no literal
pub none-core : (clauses : List Clause) (core assumptions : List ℤ) → core ≡ [] →
    Excludes clauses [] → IsSubset core assumptions × Excludes clauses core
none-core clauses core assumptions none excluded =
    let P : List ℤ → Type 0 = λ d. IsSubset d assumptions × Excludes clauses d in
    subst P (sym none) (λ l (k, lt, e). absurd (omega arith), excluded)

-- From words that repeat and on which the roots hold: an accepting walk.
use Rattle.std.specs.FinSet.{contains}
use Rattle.std.proofs.Common.{◌≡◌, ℕ, zero, suc, ◌+◌, ◌-◌, ◌*◌, ◌/◌, ◌%◌, ◌^◌, ◌<◌, ◌≤◌, ◌⊎◌, false, List, [], ◌∷◌, length, get_or, inl, inr, refl, sym, ap, ◌∙◌, subst, arith}
use Rattle.std.specs.List.{Contains}
use Rattle.std.proofs.Math.Nat.{add-mul-mod_self_right, mod-eq_of_lt, mod-lt, mod-add-div', mul-pos, suc-mul, mul-suc, mul-add}
use Rattle.std.proofs.lemmas.Bool.{cases_eq, cases_lt}
use Rattle.std.proofs.lemmas.List.Elements.{Contains-get_or}
use Rattle.hy_base.proofs.RowNumbers.{two-rows}
use Rattle.hy_formula.specs.Temporal.{endless, Words, IsDecided, Repeats}
use Rattle.hy_formula.specs.Normals.{Normal, HoldsAt}
use Rattle.hy_formula.specs.Lassos.{Lasso}
use Rattle.ltl_closure.specs.Nodes.{Node, until, node_at, Numbers}
use Rattle.ltl_tableau.specs.Branches.{Members, Has, Branch, IsBranch, postponed_by}
use Rattle.ltl_tableau.specs.Walks.{no_branch, gone, IsWalk, IsAccepting}
use Rattle.hy_formula.proofs.Repeating.{Steady, steady-tree, decided-repeating}
use Rattle.hy_formula.proofs.Unrolling.{plain, plain-right}
use Rattle.hy_lasso.proofs.LassoWords.{in-stem, in-cycle}
use Rattle.ltl_tableau.proofs.SameSets.{same-members}
use Rattle.ltl_tableau.proofs.Running as running

-- ---- lists of the first values of a function

abbrev first : {A : Type 0} → ℕ → (ℕ → A) → List A
first zero f = []
first (suc n) f = f 0 ∷ first n (λ i. f (suc i))

first-length : {A : Type 0} (n : ℕ) (f : ℕ → A) → length (first n f) ≡ n
first-length zero f = refl
first-length (suc n) f = ap suc (first-length n (λ i. f (suc i)))

first-at : {A : Type 0} (n : ℕ) (f : ℕ → A) (i : ℕ) (none : A) → i < n → get_or (first n f) i none ≡ f i
first-at zero f i none lt = absurd (omega arith)
first-at (suc n) f zero none lt = refl
first-at (suc n) f (suc i) none lt = first-at n (λ j. f (suc j)) i none (omega arith)

-- ---- counting round

one-round : (p q r m : ℕ) → r + q * p ≡ m → suc r ≡ p → suc m ≡ 0 + suc q * p
one-round p q r m whole e = let turn : suc q * p ≡ q * p + p = suc-mul q p in omega (arith, turn)

-- one more is one more, or begins again
round : (p m : ℕ) → 0 < p → (suc m % p ≡ suc (m % p)) ⊎ ((suc m % p ≡ 0) × (suc (m % p) ≡ p))
round p m some =
    let whole : m % p + m / p * p ≡ m = mod-add-div' m p in
    let below : m % p < p = mod-lt m some in
    elim (cases_eq (suc (m % p)) p) [
      | inl e ↦
          let turn : suc m ≡ 0 + suc (m / p) * p = one-round p (m / p) (m % p) m whole e in
          inr (ap (λ x. x % p) turn ∙ add-mul-mod_self_right 0 (suc (m / p)) p ∙ mod-eq_of_lt some, e)
      | inr apart ↦
          let turn : suc m ≡ suc (m % p) + m / p * p = omega arith in
          let inside : suc (m % p) < p = omega arith in
          inl (ap (λ x. x % p) turn ∙ add-mul-mod_self_right (suc (m % p)) (m / p) p ∙ mod-eq_of_lt inside)
    ]

-- ---- what repeats after c repeats after a multiple

steady-times : (s c m : ℕ) (P : ℕ → Type 0) → Steady s c P → Steady s (c * m) P
steady-times s c zero P steady i le = let e : i + c * 0 ≡ i = omega arith in (λ h. subst P e h, λ h. subst P (sym e) h)
steady-times s c (suc m) P steady i le =
    let e : i + c * suc m ≡ i + c * m + c = let turn : c * suc m ≡ c * m + c = mul-suc c m in omega (arith, turn) in
    let more = steady (i + c * m) (omega arith) in
    let rest = steady-times s c m P steady i le in
    (λ h. rest.0 (more.0 (subst P e h)), λ h. subst P (sym e) (more.1 (rest.1 h)))

-- back into the places from a on and below a + p
nearer : (s p a : ℕ) (P : ℕ → Type 0) → Steady s p P → 0 < p → s ≤ a → (n j : ℕ) → j ≤ n → a ≤ j → P j → (i : ℕ) × (a ≤ i) × (i < a + p) × P i
nearer s p a P steady some le zero j few from here = (j, from, omega arith, here)
nearer s p a P steady some le (suc n) j few from here =
    elim (cases_lt j (a + p)) [
      | inl near ↦ (j, from, near, here)
      | inr far ↦
          let e : j ≡ j - p + p = omega arith in
          nearer s p a P steady some le n (j - p) (omega arith) (omega arith) ((steady (j - p) (omega arith)).0 (subst P e here))
    ]

module _ (nodes : List Node) (form : ℕ → Normal) (words : Words) (s c : ℕ) (repeats : Repeats words s c) (numbers : Numbers nodes form) (roots : Members) (start : (k : ℕ) → Has roots k → HoldsAt endless words (form k) 0 × (k < length nodes)) where
  abbrev d : IsDecided endless words
  d = decided-repeating s c words repeats

  abbrev run : ℕ → Branch
  run = running.run nodes form words d numbers roots start

  abbrev set : ℕ → Members
  set i = (running.state nodes form words d numbers roots start i).0

  inside : (i k : ℕ) → Has (set i) k → k < length nodes
  inside i k h = ((running.state nodes form words d numbers roots start i).1 k h).1

  steady-normal : (f : Normal) → Steady s c (HoldsAt endless words f)
  steady-normal f i le =
      let here = plain-right endless words d f i in
      let there = plain-right endless words d f (i + c) in
      let tree = steady-tree s c words repeats (plain f) i le in
      (λ h. here.1 (tree.0 (there.0 h)), λ h. there.1 (tree.1 (here.0 h)))

  -- Two places with the same set, a multiple of c apart.
  Again : Type 0
  Again = (a : ℕ) × (p : ℕ) × (m : ℕ) × (s ≤ a) × (0 < p) × (p ≡ c * m) × (set (a + p) ≡ set a)

  again-of : (t u : ℕ) → t < u → set (s + c * u) ≡ set (s + c * t) → Again
  unfolding Again
  again-of t u lt same =
      let apart : t + (u - t) ≡ u = omega arith in
      let turn : c * (t + (u - t)) ≡ c * t + c * (u - t) = mul-add c t (u - t) in
      let far : s + c * u ≡ s + c * t + c * (u - t) = omega (arith, ap (λ x. c * x) apart, turn) in
      let some : 0 < u - t = omega arith in
      let P : ℕ → Type 0 = λ x. set x ≡ set (s + c * t) in
      (s + c * t, c * (u - t), u - t, omega arith, mul-pos repeats.some some, refl, subst P far same)

  again : Again
  again =
      let (t, u, lt, le, e) = two-rows (length nodes) (λ t. contains (set (s + c * t))) in
      again-of t u lt (sym (same-members (length nodes) _ _ (inside (s + c * t)) (inside (s + c * u)) e))

  module _ (a p : ℕ) (late : s ≤ a) (some : 0 < p) (m : ℕ) (multiple : p ≡ c * m) (same : set (a + p) ≡ set a) where
    abbrev walk : Lasso Branch
    walk = record { stem = first a run; cycle = first p (λ i. run (a + i)) }

    stem-at : (i : ℕ) → i < a → gone walk i ≡ run i
    stem-at i lt = let l = first-length a run in in-stem no_branch walk i (omega (arith, l)) ∙ first-at a run i no_branch lt

    cycle-at : (i : ℕ) → a ≤ i → gone walk i ≡ run (a + (i - a) % p)
    cycle-at i le =
        let l = first-length a run in
        let n = first-length p (λ i. run (a + i)) in
        in-cycle no_branch walk i (omega (arith, l))
        ∙ ap (λ x. get_or walk.cycle ((i - x) % length walk.cycle) no_branch) l
        ∙ ap (λ x. get_or walk.cycle ((i - a) % x) no_branch) n
        ∙ first-at p (λ i. run (a + i)) ((i - a) % p) no_branch (mod-lt (i - a) some)

    -- the place of the run at which the walk stands
    Place : ℕ → ℕ → Type 0
    Place i x = gone walk i ≡ run x

    branch-at : (x : ℕ) → IsBranch nodes (set x) (run x)
    branch-at x = running.run-branch nodes form words d numbers roots start x

    -- from one branch of the walk to the next
    step : (i x y : ℕ) → gone walk i ≡ run x → gone walk (suc i) ≡ run y → set (suc x) ≡ set y → IsBranch nodes ((gone walk i).later) (gone walk (suc i))
    step i x y here there e =
        let P : Members → Type 0 = λ t. IsBranch nodes t (run y) in
        let Q : Branch → Type 0 = λ b. IsBranch nodes b.later (run y) in
        let R : Branch → Type 0 = IsBranch nodes (gone walk i).later in
        subst R (sym there) (subst Q (sym here) (subst P (sym e) (branch-at y)))

    walk-starts : IsBranch nodes roots (gone walk 0)
    walk-starts =
        let P : Branch → Type 0 = IsBranch nodes roots in
        elim (cases_lt 0 a) [
          | inl lt ↦ subst P (sym (stem-at 0 lt)) (branch-at 0)
          | inr none ↦
              let zero-a : a + (0 - a) % p ≡ 0 = let m : (0 - a) % p ≡ 0 = ap (λ x. x % p) (let e : 0 - a ≡ 0 = omega arith in e) ∙ mod-eq_of_lt some in omega (arith, m) in
              subst P (sym (cycle-at 0 none ∙ ap run zero-a)) (branch-at 0)
        ]

    walk-goes : (i : ℕ) → IsBranch nodes ((gone walk i).later) (gone walk (suc i))
    walk-goes i =
        elim (cases_lt i a) [
          | inl lt ↦
              elim (cases_lt (suc i) a) [
                | inl before ↦ step i i (suc i) (stem-at i lt) (stem-at (suc i) before) refl
                | inr at ↦
                    let e : a + (suc i - a) % p ≡ suc i = let m : (suc i - a) % p ≡ 0 = ap (λ x. x % p) (let e : suc i - a ≡ 0 = omega arith in e) ∙ mod-eq_of_lt some in omega (arith, m) in
                    step i i (suc i) (stem-at i lt) (cycle-at (suc i) at ∙ ap run e) refl
              ]
          | inr le ↦
              let turn : suc i - a ≡ suc (i - a) = omega arith in
              let there : gone walk (suc i) ≡ run (a + suc (i - a) % p) = cycle-at (suc i) (omega arith) ∙ ap (λ x. run (a + x % p)) turn in
              elim (round p (i - a) some) [
                | inl on ↦
                    let e : suc (a + (i - a) % p) ≡ a + suc (i - a) % p = omega (arith, on) in
                    step i (a + (i - a) % p) (a + suc (i - a) % p) (cycle-at i le) there (ap set e)
                | inr (back, full) ↦
                    let e : suc (a + (i - a) % p) ≡ a + p = omega (arith, full) in
                    let f : a ≡ a + suc (i - a) % p = omega (arith, back) in
                    step i (a + (i - a) % p) (a + suc (i - a) % p) (cycle-at i le) there (ap set e ∙ same ∙ ap set f)
              ]
        ]

    pub walk-right : IsWalk nodes roots walk
    walk-right = record { some = omega (arith, first-length p (λ i. run (a + i))); goes = record { starts = walk-starts; goes = walk-goes } }

    in-walk : (j : ℕ) → a ≤ j → j < a + p → Contains walk.cycle (run j)
    in-walk j le lt =
        let l = first-length p (λ i. run (a + i)) in
        let e : a + (j - a) ≡ j = omega arith in
        let P : Branch → Type 0 = Contains walk.cycle in
        subst P (first-at p (λ i. run (a + i)) (j - a) no_branch (omega arith) ∙ ap run e) (Contains-get_or walk.cycle (j - a) no_branch (omega (arith, l)))

    accepts-at : (k : ℕ) (node : Node) → node_at nodes k ≡ node → (b : Branch) × Contains walk.cycle b × (postponed_by b.now k node ≡ false)
    accepts-at k (until g h) e =
        elim (running.end-of nodes form words d numbers roots start a k g h e) [
          | inr not_here ↦ (run a, in-walk a (omega arith) (omega arith), not_here)
          | inl (j, from, (q, lt)) ↦
              let P : ℕ → Type 0 = HoldsAt endless words (form h) in
              let Q : ℕ → Type 0 = λ x. Steady s x P in
              let (i, from', below, q') = nearer s p a P (subst Q (sym multiple) (steady-times s c m P (steady-normal (form h)))) some late j j (omega arith) from q in
              (run i, in-walk i from' below, running.kept nodes form words d numbers roots start i k g h e (q', lt))
        ]
    accepts-at k _ e = (run a, in-walk a (omega arith) (omega arith), refl)

    pub walk-accepts : IsAccepting nodes walk
    walk-accepts k = accepts-at k (node_at nodes k) refl

  pub accepting-walk : (walk : Lasso Branch) × IsWalk nodes roots walk × IsAccepting nodes walk
  unfolding Again
  accepting-walk = let (a, p, m, late, some, multiple, same) = again in (walk a p late some m multiple same, walk-right a p late some m multiple same, walk-accepts a p late some m multiple same)

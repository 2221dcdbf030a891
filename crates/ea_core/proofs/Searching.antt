-- From what is found of plans to what is decided of formulas.
use Rattle.std.proofs.Common.{◌≡◌, ◌≢◌, ℕ, ◌+◌, true, false, Result, Ok, Err, IfOk, IfErr, ◌≤◌, ◌⊎◌, List, [], ◌∷◌, length, map, inl, inr, sym, subst, arith, IsTrue}
use Rattle.hy_formula.specs.Trees.{Tree, vars_below}
use Rattle.hy_formula.specs.Classes.{class_of}
use Rattle.hy_formula.specs.declared.classes.Class.TheVariants.{Other}
use Rattle.hy_formula.specs.declared.prefix.Quant.{Quant}
use Rattle.hy_lasso.proofs.Negating.{decided-satisfies}
use Rattle.ltl_tableau.specs.Branches.{Branch}
use Rattle.ltl_tableau.specs.Reached.{IsTableau}
use Rattle.rank_check.specs.Graphs.{Shape}
use Rattle.ea_reduce.specs.Plans.{PlainPlan, PlainJob, existentials, lassos_for, maps_of, reduction, implication}
use Rattle.hy_formula.specs.Quantifiers.{turned}
use Rattle.ea_reduce.specs.Fulfilled.{IsOfOneKind, IsFulfillable}
use Rattle.ea_reduce.proofs.Reducing.{reduced-model, satisfiable-reduced, separated-model, separated-implication}
use Rattle.rank_proofs.specs.Counts.{HasFewMembers}
use Rattle.rank_proofs.specs.Proofs.{plan_nodes, plan_roots}
use Rattle.ea_core.specs.declared.decision.Decision.{Decision}
use Rattle.ea_core.specs.declared.decision.Decision.TheVariants.{Sat, Unsat}
use Rattle.ea_core.specs.declared.decision.Both.{Both}
use Rattle.ea_core.specs.declared.decision.Both.TheVariants.{Same, First, Second}
use Rattle.ea_core.specs.Decided.{Mentions, Decides, Implies, DecidesImplication, DecidesEquivalence}
use Rattle.ea_core.specs.Solved.{PlanMentions, Solves, SolvesBoth}
use Rattle.ea_core.specs.Undecided.{IsCounted, AreWithin, AreSearched, HasFewBranches, HasManyBranches, RefusesSearches, UndecidedEquivalence}
use Rattle.ea_core.specs.declared.ea_error.EaError.{EaError}
use Rattle.ea_reduce.specs.Refused.{HasFewMaps}
use Rattle.ea_core.proofs.Refusing.{equivalence-searches}
use Rattle.hy_base.proofs.Members.{contains-cases, contains-none}
use Rattle.ltl_tableau.proofs.Counting.{no-more}

-- what a tableau of at most n branches says
pub few-branches : (plan : PlainPlan) (n : ℕ) (list : List Branch) (graph : Shape) → IsTableau (plan_nodes plan) (plan_roots plan) list graph → length list ≤ n → HasFewBranches plan n
few-branches plan n list graph t le = record { branches = list; few = le; all = λ b r. (t.reachable b).1 r }

-- ---- a formula

module _ (prefix : List Quant) (body : Tree) (bound : IsTrue (vars_below (length prefix) body)) (taken : class_of prefix ≢ Other) where
  one-body : (name : ℕ) → PlanMentions (reduction prefix body) name → Mentions body name
  one-body name (job, c, m) = elim (contains-cases _ job [] c) [
    | inl e ↦ let P : PlainJob → Type 0 = λ j. Mentions j.body name in subst P (sym e) m
    | inr none ↦ absurd (contains-none job none)
  ]

  pub formula-decided : (d : Decision) → Solves (reduction prefix body) d → Decides prefix body d
  formula-decided (Sat list) (f, s) =
      (reduced-model prefix body bound list f, f.count, record { normal = s.normal; names = λ name v i h. one-body name (s.names name v i h) })
  formula-decided (Unsat proof) (n, p) = (λ s. n (satisfiable-reduced prefix body bound taken s), p)

-- ---- two formulas

module _ (first : List Quant) (body : Tree) (second : List Quant) (other : Tree)
    (bound : IsTrue (vars_below (length first) body)) (below : IsTrue (vars_below (length second) other))
    (one : IsOfOneKind first) (two : IsOfOneKind second) where
  abbrev all : ℕ
  all = lassos_for (existentials first + existentials (map turned second))

  abbrev one-job : PlainJob
  one-job = record { body = body; positive = true; maps = maps_of all 0 first }

  abbrev other-job : PlainJob
  other-job = record { body = other; positive = false; maps = maps_of all (existentials first) (map turned second) }

  two-bodies : (name : ℕ) → PlanMentions (implication first body second other) name → Mentions body name ⊎ Mentions other name
  two-bodies name (job, c, m) =
      let P : PlainJob → Type 0 = λ j. Mentions j.body name in
      elim (contains-cases one-job job (other-job ∷ []) c) [
        | inl e ↦ inl (subst P (sym e) m)
        | inr later ↦ elim (contains-cases other-job job [] later) [
          | inl e ↦ inr (subst P (sym e) m)
          | inr none ↦ absurd (contains-none job none)
        ]
      ]

  pub nothing-implied : (¬ IsFulfillable (implication first body second other)) → Implies first body second other
  nothing-implied none list some are sat = elim (decided-satisfies list are second other) [
    | inl holds ↦ holds
    | inr fails ↦
        absurd (none (separated-implication first body second other bound below one two list
        (record { model = record { some = some; lassos = are; satisfies = sat }; fails = fails })))
  ]

  pub implication-decided : (d : Decision) → Solves (implication first body second other) d → DecidesImplication first body second other d
  implication-decided (Sat list) (f, s) =
      record {
        separates = separated-model first body second other bound below list f;
        count = f.count;
        short = record { normal = s.normal; names = λ name v i h. two-bodies name (s.names name v i h) };
      }
  implication-decided (Unsat proof) (n, p) = (nothing-implied n, p)

-- both directions
pub equivalence-decided : (first : List Quant) (body : Tree) (second : List Quant) (other : Tree)
    → IsTrue (vars_below (length first) body) → IsTrue (vars_below (length second) other) → IsOfOneKind first → IsOfOneKind second
    → (both : Both) → SolvesBoth (implication first body second other) (implication second other first body) both → DecidesEquivalence first body second other both
equivalence-decided first body second other bound below one two (Same proof back) (s, t) =
    (implication-decided first body second other bound below one two (Unsat proof) s, implication-decided second other first body below bound two one (Unsat back) t)
equivalence-decided first body second other bound below one two (First list) s = implication-decided first body second other bound below one two (Sat list) s
equivalence-decided first body second other bound below one two (Second list) (none, t) =
    (nothing-implied first body second other bound below one two none, implication-decided second other first body below bound two one (Sat list) t)

-- within which counts a decision is made
pub equivalence-within : (first : List Quant) (body : Tree) (second : List Quant) (other : Tree) (states : ℕ)
    → IsCounted (implication first body second other) → IsCounted (implication second other first body)
    → (both : Both) → AreSearched (implication first body second other) (implication second other first body) states both
    → AreWithin first body second other states both
equivalence-within first body second other states counted counted' (Same proof back) (few, few') =
    (record { counted = counted; branches = few }, record { counted = counted'; branches = few' })
equivalence-within first body second other states counted counted' (First list) few = (record { counted = counted; branches = few }, counted')
equivalence-within first body second other states counted counted' (Second list) (few, few') =
    (record { counted = counted; branches = few }, record { counted = counted'; branches = few' })

-- ---- by the results of the last step

pub formula-result : (prefix : List Quant) (body : Tree) → IsTrue (vars_below (length prefix) body) → class_of prefix ≢ Other
    → (plan : PlainPlan) → plan ≡ reduction prefix body → (r : Result Decision EaError) → IfOk r (Solves plan) → IfOk r (Decides prefix body)
formula-result prefix body bound taken plan same (Ok d) s = formula-decided prefix body bound taken d (subst (λ p. Solves p d) same s)
formula-result prefix body bound taken plan same (Err e) s = s

pub implication-result : (first : List Quant) (body : Tree) (second : List Quant) (other : Tree)
    → IsTrue (vars_below (length first) body) → IsTrue (vars_below (length second) other) → IsOfOneKind first → IsOfOneKind second
    → (plan : PlainPlan) → plan ≡ implication first body second other → (r : Result Decision EaError) → IfOk r (Solves plan)
    → IfOk r (DecidesImplication first body second other)
implication-result first body second other bound below one two plan same (Ok d) s =
    implication-decided first body second other bound below one two d (subst (λ p. Solves p d) same s)
implication-result first body second other bound below one two plan same (Err e) s = s

-- ---- both directions, by the result of the last step

module _ (first : List Quant) (body : Tree) (second : List Quant) (other : Tree)
    (bound : IsTrue (vars_below (length first) body)) (below : IsTrue (vars_below (length second) other))
    (one : IsOfOneKind first) (two : IsOfOneKind second)
    (plan converse : PlainPlan) (same : plan ≡ implication first body second other) (also : converse ≡ implication second other first body) where
  pub both-decided : (r : Result Both EaError) → IfOk r (SolvesBoth plan converse) → IfOk r (DecidesEquivalence first body second other)
  both-decided (Ok both) s =
      equivalence-decided first body second other bound below one two both
      (subst (λ q. SolvesBoth (implication first body second other) q both) also (subst (λ p. SolvesBoth p converse both) same s))
  both-decided (Err e) s = s

  module _ (states : ℕ) (maps : HasFewMaps (implication first body second other)) (also_maps : HasFewMaps (implication second other first body))
      (members : HasFewMembers plan) (also_members : HasFewMembers converse) where
    counted : IsCounted (implication first body second other)
    counted = record { maps = maps; members = subst HasFewMembers same members }

    also_counted : IsCounted (implication second other first body)
    also_counted = record { maps = also_maps; members = subst HasFewMembers also also_members }

    pub both-within : (r : Result Both EaError) → IfOk r (AreSearched plan converse states) → IfOk r (AreWithin first body second other states)
    both-within (Ok both) s =
        equivalence-within first body second other states counted also_counted both
        (subst (λ q. AreSearched (implication first body second other) q states both) also (subst (λ p. AreSearched p converse states both) same s))
    both-within (Err e) s = s

    pub both-refused : (r : Result Both EaError) → IfErr r (RefusesSearches plan converse states) → IfErr r (UndecidedEquivalence first body second other states)
    both-refused (Ok both) h = h
    both-refused (Err e) h =
        equivalence-searches first body second other states one two counted also_counted (nothing-implied first body second other bound below one two) e
        (subst (λ q. RefusesSearches (implication first body second other) q states e) also (subst (λ p. RefusesSearches p converse states e) same h))

-- ---- counts of branches

-- Not both few branches are reachable and many.
pub not-both : (plan : PlainPlan) (n : ℕ) → HasFewBranches plan n → ¬ HasManyBranches plan n
not-both plan n few many =
    let le = no-more many.some few.branches many.distinct (λ b there. few.all b (many.reachable b there)) in
    omega (arith, few.few, many.more)

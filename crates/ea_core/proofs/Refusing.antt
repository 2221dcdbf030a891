-- From the refusals of the layers to those of the decisions.
use Rattle.std.proofs.Common.{◌≡◌, ◌≢◌, ℕ, true, false, List, Result, Ok, Err, IfErr, OnOk, inl, inr, subst}
use Rattle.hy_formula.specs.Trees.{Tree}
use Rattle.hy_formula.specs.Classes.{class_of}
use Rattle.hy_formula.specs.declared.classes.Class.TheVariants.{Other}
use Rattle.hy_formula.specs.declared.prefix.Quant.{Quant}
use Rattle.ea_reduce.specs.declared.reduce_error.ReduceError.{ReduceError}
use Rattle.ea_reduce.specs.declared.reduce_error.ReduceError.TheVariants as plans
use Rattle.ea_reduce.specs.Plans.{PlainPlan, reduction, implication}
use Rattle.ea_reduce.specs.Fulfilled.{IsOfOneKind, IsFulfillable}
use Rattle.ea_reduce.specs.Refused.{HasFewMaps, RefusesImplication}
use Rattle.rank_proofs.specs.Counts.{HasFewMembers}
use Rattle.ea_core.specs.declared.decision.Decision.{Decision}
use Rattle.ea_core.specs.declared.ea_error.EaError.{EaError}
use Rattle.ea_core.specs.declared.ea_error.EaError.TheVariants.{Prefix, Limit, States, Memory}
use Rattle.ea_core.specs.Decided.{Implies}
use Rattle.ea_core.specs.Undecided.{IsCounted, IsWithin, HasFewBranches, of_plan, RefusesClosures, RefusesSearch, RefusesSearches, Undecided, UndecidedImplication, UndecidedEquivalence}

module _ (prefix : List Quant) (body : Tree) (states : ℕ) where
  pub formula-search : class_of prefix ≢ Other → IsCounted (reduction prefix body) → (e : EaError) → RefusesSearch (reduction prefix body) states e → Undecided prefix body states e
  formula-search taken counted (Prefix second found) h = absurd h
  formula-search taken counted (Limit limit) h = absurd h
  formula-search taken counted States many = (taken, (counted, many))
  formula-search taken counted Memory h = tt

module _ (first : List Quant) (body : Tree) (second : List Quant) (other : Tree) (states : ℕ) where
  abbrev there : PlainPlan
  there = implication first body second other

  abbrev back : PlainPlan
  back = implication second other first body

  module _ (one : IsOfOneKind first) (two : IsOfOneKind second) where
    pub implication-search : IsCounted there → (e : EaError) → RefusesSearch there states e → UndecidedImplication first body second other states e
    implication-search counted (Prefix which found) h = absurd h
    implication-search counted (Limit limit) h = absurd h
    implication-search counted States many = (one, two, (counted, many))
    implication-search counted Memory h = tt

    pub equivalence-back : (e : ReduceError) → RefusesImplication second first back e → UndecidedEquivalence first body second other states (of_plan e)
    equivalence-back (plans.Prefix false found) (is, none) = absurd (none two)
    equivalence-back (plans.Prefix true found) (two', is, none) = absurd (none one)
    equivalence-back (plans.Limit limit) (two', one', is, many) = (one, two, inl (is, inr many))
    equivalence-back plans.Memory h = tt

    pub equivalence-closures : HasFewMaps there → HasFewMaps back → (e : EaError) → RefusesClosures there back e → UndecidedEquivalence first body second other states e
    equivalence-closures few few' (Prefix which found) h = absurd h
    equivalence-closures few few' (Limit limit) (is, many) = (one, two, inr (is, few, few', many))
    equivalence-closures few few' States h = absurd h
    equivalence-closures few few' Memory h = tt

    pub equivalence-searches : IsCounted there → IsCounted back → ((¬ IsFulfillable there) → Implies first body second other)
        → (e : EaError) → RefusesSearches there back states e → UndecidedEquivalence first body second other states e
    equivalence-searches counted counted' implied (Prefix which found) h = absurd h
    equivalence-searches counted counted' implied (Limit limit) h = absurd h
    equivalence-searches counted counted' implied States (inl many) = (one, two, counted, counted', inl many)
    equivalence-searches counted counted' implied States (inr (few, none, many)) = (one, two, counted, counted', inr (few, implied none, many))
    equivalence-searches counted counted' implied Memory h = tt

pub first-search : (plan converse : PlainPlan) (states : ℕ) (e : EaError) → RefusesSearch plan states e → RefusesSearches plan converse states e
first-search plan converse states (Prefix which found) h = h
first-search plan converse states (Limit limit) h = h
first-search plan converse states States many = inl many
first-search plan converse states Memory h = tt

-- ---- by the results of the last step

module _ (prefix : List Quant) (body : Tree) (states : ℕ) (plan : PlainPlan) (same : plan ≡ reduction prefix body) (taken : class_of prefix ≢ Other)
    (maps : HasFewMaps (reduction prefix body)) (members : HasFewMembers plan) where
  counted-formula : IsCounted (reduction prefix body)
  counted-formula = record { maps = maps; members = subst HasFewMembers same members }

  pub within-formula : (r : Result Decision EaError) → OnOk r (HasFewBranches plan states) → OnOk r (IsWithin (reduction prefix body) states)
  within-formula (Ok d) few = record { counted = counted-formula; branches = subst (λ p. HasFewBranches p states) same few }
  within-formula (Err e) few = few

  pub refused-formula : (r : Result Decision EaError) → IfErr r (RefusesSearch plan states) → IfErr r (Undecided prefix body states)
  refused-formula (Ok d) h = h
  refused-formula (Err e) h = formula-search prefix body states taken counted-formula e (subst (λ p. RefusesSearch p states e) same h)

module _ (first : List Quant) (body : Tree) (second : List Quant) (other : Tree) (states : ℕ) (plan : PlainPlan)
    (same : plan ≡ implication first body second other) (one : IsOfOneKind first) (two : IsOfOneKind second)
    (maps : HasFewMaps (implication first body second other)) (members : HasFewMembers plan) where
  pub counted-implication : IsCounted (implication first body second other)
  counted-implication = record { maps = maps; members = subst HasFewMembers same members }

  pub within-implication : (r : Result Decision EaError) → OnOk r (HasFewBranches plan states) → OnOk r (IsWithin (implication first body second other) states)
  within-implication (Ok d) few = record { counted = counted-implication; branches = subst (λ p. HasFewBranches p states) same few }
  within-implication (Err e) few = few

  pub refused-implication : (r : Result Decision EaError) → IfErr r (RefusesSearch plan states) → IfErr r (UndecidedImplication first body second other states)
  refused-implication (Ok d) h = h
  refused-implication (Err e) h =
      implication-search first body second other states one two counted-implication e (subst (λ p. RefusesSearch p states e) same h)

-- When jobs and plans are refused.
use Rattle.std.proofs.Common.{true, false, ℕ, ◌+◌, map, subst, ◌≡◌, ◌≢◌, ◌<◌, List, [], ◌∷◌, length, refl, arith}
use Rattle.hy_formula.specs.Classes.{class_of}
use Rattle.hy_formula.specs.declared.classes.Class.TheVariants as class
use Rattle.hy_formula.specs.declared.prefix.Quant.{Quant}
use Rattle.ea_reduce.specs.declared.reduce_error.ReduceError.{ReduceError}
use Rattle.ea_reduce.specs.declared.reduce_error.ReduceError.TheVariants.{Prefix, Limit, Memory}
use Rattle.hy_formula.specs.Trees.{Tree}
use Rattle.hy_formula.specs.Quantifiers.{turned}
use Rattle.ea_reduce.specs.Plans.{PlainPlan, PlainJob, existentials, maps_of, lassos_for, reduction, implication}
use Rattle.ea_reduce.specs.Fulfilled.{IsOfOneKind}
use Rattle.ea_reduce.specs.Refused.{most_maps, HasManyMaps, RefusesMaps, RefusesReduction, RefusesImplication}

refused-reduction : (prefix : List Quant) (plan : PlainPlan) (maps : List (List ℕ)) (e : ReduceError) → class_of prefix ≢ class.Other
    → (most_maps < length maps → HasManyMaps plan) → RefusesMaps maps e → RefusesReduction prefix plan e
refused-reduction prefix plan maps (Prefix second found) taken many h = absurd h
refused-reduction prefix plan maps (Limit limit) taken many (e, lt) = (taken, e, many lt)
refused-reduction prefix plan maps Memory taken many h = tt

refused-implication : (first other : List Quant) (plan : PlainPlan) (maps : List (List ℕ)) (e : ReduceError) → IsOfOneKind first → IsOfOneKind other
    → (most_maps < length maps → HasManyMaps plan) → RefusesMaps maps e → RefusesImplication first other plan e
refused-implication first other plan maps (Prefix second found) one two many h = absurd h
refused-implication first other plan maps (Limit limit) one two many (e, lt) = (one, two, e, many lt)
refused-implication first other plan maps Memory one two many h = tt

many-first : (vars : ℕ) (job : PlainJob) (jobs : List PlainJob) → most_maps < length job.maps → HasManyMaps (record { vars = vars; jobs = job ∷ jobs })
many-first vars job jobs lt = (job, (0, omega arith, refl), lt)

many-second : (vars : ℕ) (job other : PlainJob) (jobs : List PlainJob) → most_maps < length other.maps → HasManyMaps (record { vars = vars; jobs = job ∷ (other ∷ jobs) })
many-second vars job other jobs lt = (other, (1, omega arith, refl), lt)

pub refused-formula : (prefix : List Quant) (body : Tree) (maps : List (List ℕ)) (e : ReduceError) → class_of prefix ≢ class.Other
    → maps ≡ maps_of (lassos_for (existentials prefix)) 0 prefix → RefusesMaps maps e → RefusesReduction prefix (reduction prefix body) e
refused-formula prefix body maps e taken same h =
    refused-reduction prefix (reduction prefix body) maps e taken
    (λ lt. let P : List (List ℕ) → Type 0 = λ ms. most_maps < length ms in
    many-first (lassos_for (existentials prefix)) (record { body = body; positive = true; maps = maps_of (lassos_for (existentials prefix)) 0 prefix }) [] (subst P same lt)) h

module _ (first : List Quant) (body : Tree) (second : List Quant) (other : Tree) (e : ReduceError)
    (one : IsOfOneKind first) (two : IsOfOneKind second)
    -- the quantifiers and numbers of the two jobs
    (firsts seconds turned' : List Quant) (next more vars : ℕ) (same : firsts ≡ first) (turns : turned' ≡ map turned second) (also : seconds ≡ turned')
    (next-is : next ≡ existentials firsts) (more-is : more ≡ existentials seconds) (vars-is : vars ≡ lassos_for (next + more)) where
  abbrev all : ℕ
  all = lassos_for (existentials first + existentials (map turned second))

  abbrev one-job : PlainJob
  one-job = record { body = body; positive = true; maps = maps_of all 0 first }

  abbrev other-job : PlainJob
  other-job = record { body = other; positive = false; maps = maps_of all (existentials first) (map turned second) }

  abbrev IsMany : List (List ℕ) → Type 0
  IsMany ms = most_maps < length ms

  pub refused-first : RefusesMaps (maps_of vars 0 firsts) e → RefusesImplication first second (implication first body second other) e
  refused-first h =
      let maps : maps_of vars 0 firsts ≡ maps_of all 0 first = cc in
      refused-implication first second (implication first body second other) _ e one two (λ lt. many-first all one-job (other-job ∷ []) (subst IsMany maps lt)) h

  pub refused-second : RefusesMaps (maps_of vars next seconds) e → RefusesImplication first second (implication first body second other) e
  refused-second h =
      let maps : maps_of vars next seconds ≡ maps_of all (existentials first) (map turned second) = cc in
      refused-implication first second (implication first body second other) _ e one two (λ lt. many-second all one-job other-job [] (subst IsMany maps lt)) h

-- Going back, and one clause more.
use Rattle.std.proofs.Common.{◌≡◌, ℕ, ◌+◌, ◌-◌, ◌^◌, ◌<◌, ◌≤◌, ◌⊎◌, List, [], ◌∷◌, ◌++◌, length, get_or, take, inl, inr, sym, ap, ◌∙◌, subst, arith}
use Rattle.std.specs.Prelude.{ℤ, pos, unsigned_abs}
use Rattle.std.proofs.lemmas.Bool.{cases_eq}
use Rattle.std.proofs.lemmas.List.{length-take-le, length_push, get_or-take}
use Rattle.sat_core.specs.declared.solver.Solver.{Solver}
use Rattle.chain_check.specs.Clauses.{Clause, AreLiterals}
use Rattle.sat_core.specs.Trails.{ArePlaced, IsSettled}
use Rattle.sat_core.specs.Solvers.{IsReady}
use Rattle.chain_check.proofs.Storing.{clauses-more}
use Rattle.sat_core.proofs.Trailing.{trail-back, trail-learned}
use Rattle.sat_core.proofs.Readying.{ready-from}

placed-front : (trail : List ℤ) (places : List ℕ) (n : ℕ) → n ≤ length trail →
    ArePlaced trail places → ArePlaced (take n trail) places
placed-front trail places n le placed i lt =
    let small : i < n = omega (arith, length-take-le n trail le) in
    ap (λ z. get_or places (unsigned_abs z) 0) (get_or-take n trail i (pos 0) small) ∙
    placed i (omega arith)

pub ready-back : (old new : Solver) (level : ℕ) → IsReady old → level < length old.limits.items →
    new.clauses ≡ old.clauses → new.partial ≡ record old.partial
    { literals = take (get_or old.limits.items level 0) old.partial.literals } →
    new.reasons.items ≡ take (get_or old.limits.items level 0) old.reasons.items →
    new.places.items ≡ old.places.items → new.limits.items ≡ take level old.limits.items →
    IsReady new
ready-back old new level ready lt clauses partial reasons places limits =
    ready-from new old.partial.variables old.clauses
    (take (get_or old.limits.items level 0) old.partial.literals)
    (take (get_or old.limits.items level 0) old.reasons.items) old.places.items
    (take level old.limits.items) clauses (ap (λ t. t.variables) partial)
    (ap (λ t. t.literals) partial) reasons places limits ready.few_variables ready.few_clauses
    ready.sized ready.right
    (trail-back old.partial.variables old.clauses old.partial.literals old.reasons.items
    old.limits.items level ready.trail lt)
    (placed-front old.partial.literals old.places.items (get_or old.limits.items level 0)
    (omega (arith, ready.trail.within level lt)) ready.placed)

-- the places of the limits below a level
pub limits-below : (old : Solver) (level highest : ℕ) → IsReady old →
    level < length old.limits.items → (level ≡ 0) ⊎
    (get_or old.limits.items (level - 1) 0 < highest) → (j : ℕ) → j < level →
    get_or old.limits.items j 0 < highest
limits-below old level highest ready lt (inl none) j less = absurd (omega arith)
limits-below old level highest ready lt (inr low) j less =
    elim (cases_eq j (level - 1)) [
      | inl same ↦ let P : ℕ → Type 0 = λ q. get_or old.limits.items q 0 < highest in
          subst P (sym same) low
      | inr apart ↦ omega (arith, low, ready.trail.rising j (level - 1) (omega arith) (omega arith))
    ]

pub ready-learned : (old new : Solver) (c : Clause) → IsReady old →
    length old.clauses + 1 < 2 ^ 32 - 1 → AreLiterals old.partial.variables c →
    ((j : ℕ) → j < length old.limits.items → IsSettled
    (take (get_or old.limits.items j 0) old.partial.literals) c) →
    new.clauses ≡ old.clauses ++ c ∷ [] → new.partial ≡ old.partial →
    new.reasons.items ≡ old.reasons.items → new.places.items ≡ old.places.items →
    new.limits.items ≡ old.limits.items → IsReady new
ready-learned old new c ready room right settled clauses partial reasons places limits =
    ready-from new old.partial.variables (old.clauses ++ c ∷ []) old.partial.literals
    old.reasons.items old.places.items old.limits.items clauses (ap (λ t. t.variables) partial)
    (ap (λ t. t.literals) partial) reasons places limits ready.few_variables
    (omega (arith, room, length_push old.clauses c)) ready.sized
    (clauses-more old.partial.variables old.clauses c ready.right right)
    (trail-learned old.partial.variables old.clauses old.partial.literals old.reasons.items
    old.limits.items c ready.trail settled) ready.placed

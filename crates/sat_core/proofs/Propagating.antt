-- A pass over all clauses.
use Rattle.std.proofs.Common.{◌≡◌, ℕ, ◌+◌, ◌-◌, ◌≤◌, List, [], ◌++◌, Some, length, refl, sym, ap, ◌∙◌, subst, arith}
use Rattle.std.specs.Prelude.{ℤ, slice_get}
use Rattle.std.specs.List.{Contains}
use Rattle.std.proofs.lemmas.List.{append_assoc, append-nil, length-append}
use Rattle.sat_core.specs.declared.solver.Solver.{Solver}
use Rattle.chain_check.specs.Clauses.{Clause}
use Rattle.chain_check.specs.Chains.{IsUnit, IsNumbered}
use Rattle.sat_core.specs.Trails.{IsStep}
use Rattle.sat_core.specs.Solvers.{IsReady, GoesOn}
use Rattle.chain_check.proofs.Passing.{numbered-there}
use Rattle.sat_core.proofs.Trailing.{few-places}

pub goes-nowhere : (s : Solver) → GoesOn s s
goes-nowhere s = record {
  clauses = refl;
  variables = refl;
  limits = refl;
  longer =
      ([], sym (append-nil s.partial.literals));
}

pub goes-further : (a b d : Solver) → GoesOn a b → GoesOn b d → GoesOn a d
goes-further a b d one two =
    let (xs, e) = one.longer in
    let (ys, f) = two.longer in
    record {
      clauses = two.clauses ∙ one.clauses;
      variables = two.variables ∙ one.variables;
      limits = two.limits ∙ one.limits;
      longer = (xs ++ ys, f ∙ ap (λ zs. zs ++ ys) e ∙ append_assoc a.partial.literals xs ys);
    }

pub not-shorter : (a b : Solver) → GoesOn a b →
    length a.partial.literals ≤ length b.partial.literals
not-shorter a b on = let (xs, e) = on.longer in
    omega (arith, ap length e, length-append a.partial.literals xs)

pub the-clause : (clauses : List Clause) (i : ℕ) (c : Clause) → slice_get clauses i ≡ Some c →
    IsNumbered clauses (i + 1) c
the-clause clauses i c at = let P : ℕ → Type 0 = λ k. slice_get clauses k ≡ Some c in
    let same : i ≡ (i + 1) - 1 = omega arith in
    record { counted = omega arith; there = subst P same at }

-- the step to an open literal
pub unit-step : (s : Solver) (i : ℕ) (c : Clause) (l : ℤ) → IsReady s →
    slice_get s.clauses i ≡ Some c → IsUnit s.partial.literals c l →
    ¬ Contains s.partial.literals l → IsStep s.partial.variables s.clauses s.limits.items
    s.partial.literals l (i + 1)
unit-step s i c l ready at unit none = record {
  right = ready.right c (numbered-there s.clauses (i + 1) c (the-clause s.clauses i c at)) l
      unit.there;
  fresh = (none, unit.open_yet);
  caused = λ some. (c, the-clause s.clauses i c at, unit);
  decided = λ none'. absurd (omega arith);
}

pub no-more-than : (s : Solver) → IsReady s → length s.partial.literals ≤ s.partial.variables
no-more-than s ready = few-places s.partial.variables s.clauses s.partial.literals s.reasons.items
    s.limits.items ready.trail

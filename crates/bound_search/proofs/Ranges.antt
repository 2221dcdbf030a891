-- The literals of a query are of its variables.
use Rattle.std.proofs.Common.{◌≡◌, ℕ, zero, suc, ◌+◌, ◌-◌, ◌*◌, ◌%◌, ◌<◌, ◌≤◌, true, List, [], ◌∷◌, length, arith}
use Rattle.std.specs.Prelude.{ℤ, neg_ℤ}
use Rattle.std.proofs.Math.Nat.{mod-lt}
use Rattle.hy_base.proofs.Places.{below-row}
use Rattle.hy_formula.specs.Trees.{Tree, vars_below}
use Rattle.hy_formula.specs.declared.prefix.Quant.{Quant}
use Rattle.hy_formula.specs.Quantifiers.{Each}
use Rattle.hy_formula.proofs.Each.{each-append, each-at}
use Rattle.chain_check.specs.Clauses.{Clause, IsLiteral, AreClauses}
use Rattle.chain_check.proofs.Literals.{opposite-literal}
use Rattle.chain_check.specs.FewClauses.{for_each, further, alone}
use Rattle.bound_search.specs.declared.bound.Bound.{Bound}
use Rattle.bound_search.specs.Bounds.{IsBound}
use Rattle.bound_search.specs.Names.{names_of}
use Rattle.bound_search.specs.Drawings.{Gate, Drawn, gate_clauses}
use Rattle.bound_search.specs.Queries.{round, places, letters_of_member, variables_of_member, letter_variable, cycle_variable, first_gate, repeat_clauses, cycle_clauses, some_cycle, member_clauses, formula_drawn, clauses_of, variables_of}
use Rattle.bound_search.proofs.Filling.{AreOrdered}
use Rattle.bound_search.proofs.Fitting.{literal-more}
use Rattle.bound_search.proofs.Formulas.{fits-formula}

-- The clause's literals are of the first n variables, and those of all clauses are.
abbrev IsOf : ℕ → Clause → Type 0
IsOf n = Each (IsLiteral n)

abbrev AreOf : ℕ → List Clause → Type 0
AreOf n = Each (IsOf n)

each-for : {A : Type 0} (P : A → Type 0) (f : ℕ → List A) (n : ℕ) →
    ((k : ℕ) → k < n → Each P (f k)) → Each P (for_each f n)
each-for P f zero all = tt
each-for P f (suc n) all =
    each-append P (for_each f n) (f n) (each-for P f n (λ k lt. all k (omega arith)))
    (all n (omega arith))

module _ (n : ℕ) where
  variable-of : (v : ℕ) → v < n → IsLiteral n (further v)
  variable-of v lt = (omega arith, omega arith)

  opposite-of : (v : ℕ) → v < n → IsLiteral n (neg_ℤ (further v))
  opposite-of v lt = (omega arith, omega arith)

  gates-of : (from : ℕ) (gates : List Gate) → AreOrdered from gates → from + length gates ≤ n →
      AreOf n (gate_clauses from gates)
  gates-of from [] good le = tt
  gates-of from (g ∷ gates) (l, r, more) le =
      let own = variable-of from (omega arith) in
      let left = literal-more from n g.left (omega arith) l in
      let right = literal-more from n g.right (omega arith) r in
      let not_own = opposite-of from (omega arith) in (
        (not_own, (left, tt)),
        (
          (not_own, (right, tt)),
          (
            (own, (opposite-literal n g.left left, (opposite-literal n g.right right, tt))),
            gates-of (suc from) gates more (omega arith),
          ),
        ),
      )

  module _ (names : List ℕ) (bound : Bound) (all : first_gate names bound ≤ n) (t : ℕ)
      (few : t < bound.traces) where
    letter-in : (r i : ℕ) → r < length names → i < places bound →
        letter_variable names bound t r i < n
    letter-in r i there lt =
        let inner = below-row (places bound) i r (length names) lt there in
        let outer =
        below-row (variables_of_member names bound) (r * places bound + i) t bound.traces
        (omega (arith, inner)) few in
        omega (arith, outer, all)

    cycle-in : (d : ℕ) → d < bound.cycle → cycle_variable names bound t d < n
    cycle-in d lt =
        let outer =
        below-row (variables_of_member names bound) (letters_of_member names bound + d) t
        bound.traces (omega arith) few in
        omega (arith, outer, all)

    repeat-of : (d r j : ℕ) → d < bound.cycle → r < length names → j < round bound - suc d →
        AreOf n (repeat_clauses names bound t d r j)
    repeat-of d r j lt there behind =
        let rest : j % suc d < suc d = mod-lt j (omega arith) in
        let x = letter-in r (bound.stem + (suc d + j)) there (omega (arith, behind)) in
        let y = letter-in r (bound.stem + j % suc d) there (omega (arith, behind, rest)) in
        let guard = opposite-of (cycle_variable names bound t d) (cycle-in d lt) in (
          (guard, (variable-of _ x, (opposite-of _ y, tt))),
          ((guard, (opposite-of _ x, (variable-of _ y, tt))), tt),
        )

    member-of : AreOf n (member_clauses names bound t)
    member-of =
        each-append (IsOf n) (some_cycle names bound t) _ (
          each-for (IsLiteral n) (λ d. further (cycle_variable names bound t d) ∷ []) bound.cycle
              (λ d lt. (variable-of _ (cycle-in d lt), tt)),
          tt,
        )
        (each-for (IsOf n) (cycle_clauses names bound t) bound.cycle (λ d lt.
        each-for (IsOf n) _ (length names) (λ r there.
        each-for (IsOf n) (repeat_clauses names bound t d r) _ (λ j behind.
        repeat-of d r j lt there behind))))

module _ (bound : Bound) (ok : IsBound bound) (prefix : List Quant) (body : Tree)
    (known : vars_below (length prefix) body ≡ true) where
  pub clauses-right : AreClauses (variables_of bound prefix body) (clauses_of bound prefix body)
  unfolding clauses_of variables_of
  clauses-right c there =
      let names : List ℕ = names_of body in
      let first : ℕ = first_gate names bound in
      let drawn : Drawn ℤ = formula_drawn names bound prefix body in
      let n : ℕ = first + length drawn.gates in
      let fits = fits-formula bound ok prefix body known in
      let many = fits.many first (omega arith) in
      let root =
      literal-more _ n drawn.out (omega (arith, many)) (fits.drawn first (omega arith)) in
      let whole : AreOf n (clauses_of bound prefix body) = (
        (variable-of n 0 (omega arith), tt),
        each-append (IsOf n) (for_each (member_clauses names bound) bound.traces) _
            (each-for (IsOf n) (member_clauses names bound) bound.traces (λ t few.
            member-of n names bound (omega arith) t few))
            (each-append (IsOf n) (gate_clauses first drawn.gates) (alone drawn.out)
            (gates-of n first drawn.gates (fits.ordered first (omega arith)) (omega arith))
            ((root, tt), tt)),
      ) in
      λ l here. each-at (IsLiteral n) c l (each-at (IsOf n)
      (clauses_of bound prefix body) c whole there) here

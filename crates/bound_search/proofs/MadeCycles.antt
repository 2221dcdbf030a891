-- The clauses of members that code adds.
use Rattle.std.proofs.Common.{◌≡◌, ℕ, suc, ◌+◌, ◌%◌, List, ap, ◌∙◌, arith}
use Rattle.std.specs.Prelude.{ℤ}
use Rattle.chain_check.specs.Clauses.{Clause}
use Rattle.chain_check.specs.FewClauses.{further, guarded, same_clauses}
use Rattle.bound_search.specs.declared.bound.Bound.{Bound}
use Rattle.bound_search.specs.Queries.{letters_of_member, member_start, letter_variable, repeat_clauses}

pub repeat-is : (names : List ℕ) (bound : Bound) (t d r j start cycle : ℕ) (c x y : ℤ) →
    start ≡ letter_variable names bound t r 0 + bound.stem →
    cycle ≡ member_start names bound t + letters_of_member names bound →
    c ≡ further (cycle + d) → x ≡ further (start + (d + 1 + j)) →
    y ≡ further (start + j % (d + 1)) →
    guarded c (same_clauses x y) ≡ repeat_clauses names bound t d r j
repeat-is names bound t d r j start cycle c x y begins goes is_c is_x is_y =
    let here : start + (d + 1 + j) ≡ letter_variable names bound t r (bound.stem + (suc d + j)) =
    omega (arith, begins) in
    let one : d + 1 ≡ suc d = omega arith in
    let there : start + j % suc d ≡ letter_variable names bound t r (bound.stem + j % suc d) =
    omega (arith, begins) in
    let from : start + j % (d + 1) ≡ start + j % suc d = ap (λ n. start + j % n) one in
    let guard : List Clause → List Clause =
    guarded (further (member_start names bound t + letters_of_member names bound + d)) in
    ap (λ z. guarded z (same_clauses x y)) (is_c ∙ ap (λ k. further (k + d)) goes)
    ∙ ap (λ z. guard (same_clauses z y)) (is_x ∙ ap further here)
    ∙ ap (λ z. guard (same_clauses (further
    (letter_variable names bound t r (bound.stem + (suc d + j)))) z))
    (is_y ∙ ap further (from ∙ there))

-- How many ands wires need.
use Rattle.std.proofs.Common.{◌≡◌, ℕ, zero, suc, ◌+◌, ◌*◌, ◌<◌, ◌≤◌, List, [], ◌∷◌, length, arith, length-append}
use Rattle.aig_net.specs.declared.parts.And.{And}
use Rattle.aig_net.specs.Nets.{literal_at}
use Rattle.aig_net.specs.Wires.{Wire, literal, opposed, both, and_of, made, made_all, made_each, wire_at}

abbrev pub cost : Wire → ℕ
cost (literal l) = 0
cost (opposed w) = cost w
cost (both x y) = suc (cost x + cost y)

pub many-made : (first : ℕ) (ands : List And) (w : Wire) →
    length (made first ands w).ands ≡ length ands + cost w
many-made first ands (literal l) = omega arith
many-made first ands (opposed w) = many-made first ands w
many-made first ands (both x y) =
    let a = many-made first ands x in
    let b = many-made first (made first ands x).ands y in
    let l = length-append (made first (made first ands x).ands y).ands
    (and_of (made first ands x).literal (made first (made first ands x).ands y).literal ∷ []) in
    omega (arith, a, b, l)

-- where each wire needs at most c
pub all-cost : (first : ℕ) (ands : List And) (ws : List Wire) (c : ℕ) →
    ((j : ℕ) → j < length ws → cost (wire_at ws j) ≤ c) →
    length (made_all first ands ws).ands ≤ length ands + c * length ws
all-cost first ands [] c few = omega arith
all-cost first ands (w ∷ ws) c few =
    let rest = all-cost first (made first ands w).ands ws c (λ j lt. few (suc j) (omega arith)) in
    let here = few 0 (omega arith) in
    omega (arith, rest, here, many-made first ands w)

pub each-cost : (first : ℕ) (ands : List And) (wire : (ℕ → ℕ) → ℕ → Wire) (c : ℕ) →
    ((lit : ℕ → ℕ) (k : ℕ) → cost (wire lit k) ≤ c) → (n : ℕ) →
    length (made_each first ands wire n).ands ≤ length ands + c * n
each-cost first ands wire c few zero = omega arith
each-cost first ands wire c few (suc n) =
    let lit : ℕ → ℕ = literal_at (made_each first ands wire n).literals in
    let rest = each-cost first ands wire c few n in
    let here = few lit n in
    omega (arith, rest, here, many-made first (made_each first ands wire n).ands (wire lit n))

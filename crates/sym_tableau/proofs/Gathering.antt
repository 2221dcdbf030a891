-- Lists of wires one after the other: each item of each, and what all have.
use Rattle.std.proofs.Common.{◌≡◌, ℕ, zero, suc, ◌+◌, ◌<◌, List, ◌++◌, length, inl, inr, sym, ◌∙◌, subst, arith, length-append}
use Rattle.std.proofs.lemmas.Bool.{cases_eq}
use Rattle.std.proofs.lemmas.List.{get_or_append_left, get_or-append-add}
use Rattle.aig_net.specs.Wires.{Wire, literal, wire_at}
use Rattle.hy_base.proofs.Listed.{each-append}
use Rattle.sym_tableau.specs.Oracles.{gathered}

abbrev Has : (ℕ → List Wire) → ℕ → Wire → Type 0
Has f n w = (j : ℕ) × (j < length (gathered f n)) × (wire_at (gathered f n) j ≡ w)

has-early : (f : ℕ → List Wire) (n : ℕ) (w : Wire) → Has f n w → Has f (suc n) w
has-early f n w (j, small, e) =
    let many : length (gathered f n ++ f n) ≡ length (gathered f n) + length (f n) = length-append
    (gathered f n) (f n) in
    (j, omega arith, get_or_append_left (gathered f n) (f n) _ j small ∙ e)

has-last : (f : ℕ → List Wire) (n q : ℕ) → q < length (f n) → Has f (suc n) (wire_at (f n) q)
has-last f n q lt =
    let many : length (gathered f n ++ f n) ≡ length (gathered f n) + length (f n) = length-append
    (gathered f n) (f n) in
    (length (gathered f n) + q, omega arith, get_or-append-add (gathered f n) (f n) q _)

pub gathered-has : (f : ℕ → List Wire) (n k q : ℕ) → k < n → q < length (f k) → (j : ℕ)
    × (j < length (gathered f n)) × (wire_at (gathered f n) j ≡ wire_at (f k) q)
gathered-has f zero k q few lt = absurd (omega arith)
gathered-has f (suc n) k q few lt =
    elim (cases_eq k n) [
      | inl e ↦
          let P : ℕ → Type 0 = λ k. q < length (f k) → Has f (suc n) (wire_at (f k) q) in
          subst P (sym e) (has-last f n q) lt
      | inr apart ↦ has-early f n (wire_at (f k) q) (gathered-has f n k q (omega arith) lt)
    ]

pub gathered-all : (f : ℕ → List Wire) (P : Wire → Type 0) (n : ℕ) → ((k q : ℕ) → k < n →
    q < length (f k) → P (wire_at (f k) q)) → (j : ℕ) → j < length (gathered f n) → P
    (wire_at (gathered f n) j)
gathered-all f P zero all j lt = absurd (omega arith)
gathered-all f P (suc n) all j lt =
    each-append (literal 0) (gathered f n) (f n) (λ _ w. P w) (gathered-all f P n
    (λ k q few. all k q (omega arith))) (λ q small. all n q (omega arith) small) j lt

-- Lists of the values of a function.
use Rattle.std.proofs.Common.{◌≡◌, ℕ, ◌+◌, ◌<◌, get_or, sym, ap, ◌∙◌, arith}
use Rattle.std.specs.List.{Contains}
use Rattle.hy_base.specs.Rows.{listed}
use Rattle.hy_base.proofs.Listed.{length-listed, at-listed}

pub listed-at : {A : Type 0} (n : ℕ) (f : ℕ → A) (d : A) (i : ℕ) → i < n →
    get_or (listed 0 n f) i d ≡ f i
listed-at n f d i lt = let e : 0 + i ≡ i = omega arith in at-listed 0 n f d i lt ∙ ap f e

-- what is in a list of values is one of them
pub in-listed : {A : Type 0} (n : ℕ) (f : ℕ → A) (x : A) → Contains (listed 0 n f) x →
    (i : ℕ) × (i < n) × (f i ≡ x)
in-listed n f x (i, lt, e) =
    let few : i < n = omega (arith, length-listed 0 n f, lt) in
    (i, few, sym (listed-at n f x i few) ∙ e)

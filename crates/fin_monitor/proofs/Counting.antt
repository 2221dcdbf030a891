-- How many residuals are reached.
use Rattle.std.proofs.Common.{◌≡◌, ◌≤◌, ℕ, List, length, arith}
use Rattle.hy_base.proofs.RowNumbers.{no-more}
use Rattle.ltl_closure.specs.Nodes.{Node}
use Rattle.fin_monitor.specs.Duties.{Duty, Same, SomeReached, AreReached, residual_at}
use Rattle.fin_monitor.proofs.Exploring.{same-back, same-through}

module _ (nodes : List Node) (root : ℕ) (some all : List (List Duty)) (s : SomeReached nodes root some) (a : AreReached nodes root all) where
  pub reached-most : length some ≤ length all
  reached-most =
      no-more (length some) (length all) (λ i q. Same (residual_at some i) (residual_at all q))
      (λ i lt. a.all (residual_at some i) (s.only i lt))
      (λ i j q lt few here there.
      let same = same-through (residual_at some i) (residual_at all q) (residual_at some j) here
      (same-back _ _ there) in
      let one : i ≡ j = s.apart i j (omega arith) few same in
      omega arith)

pub reached-one : (nodes : List Node) (root : ℕ) (some all : List (List Duty)) → AreReached nodes root some → AreReached nodes root all → length some ≡ length all
reached-one nodes root some all s a =
    let x = reached-most nodes root some all s.some a in
    let y = reached-most nodes root all some a.some s in
    omega arith

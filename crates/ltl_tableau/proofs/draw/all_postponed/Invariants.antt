use Rattle.std.proofs.Common.{◌≡◌, ◌<◌, ◌↔◌, ℕ, true}
use Rattle.std.specs.List.{Contains}
use Rattle.ltl_tableau.specs.Branches.{postpones}
use Rattle.ltl_tableau.proofs.draw.all_postponed.Given as goal

-- those so far
abbrev pub invariant-loop-k : goal.invariant-loop-k
invariant-loop-k g l = (q : ℕ) → Contains l.list q ↔ ((q < l.k) × (postpones l.c.nodes l.branch q ≡ true))

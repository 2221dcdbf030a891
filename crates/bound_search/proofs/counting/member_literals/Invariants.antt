use Rattle.std.proofs.Common.{◌≡◌, ◌≤◌, ◌+◌, ◌-◌, ◌*◌, ◌^◌, suc, length}
use Rattle.bound_search.specs.Sizes.{sum_for}
use Rattle.bound_search.specs.Queries.{round}
use Rattle.bound_search.proofs.counting.member_literals.Given as goal

abbrev pub invariant-loop-d : goal.invariant-loop-d
invariant-loop-d l = record {
  small : l.literals ≤ 4 + l.d * (72 * 2 ^ 64);
  count : l.literals
      ≡ l.bound.cycle + sum_for (λ d. length l.names * ((round l.bound - suc d) * 6)) l.d;
}

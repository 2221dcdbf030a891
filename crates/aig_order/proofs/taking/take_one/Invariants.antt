use Rattle.std.proofs.Common.{◌≡◌, ◌++◌, ◌∷◌, []}
use Rattle.aig_order.specs.Takings.{AreReadied}
use Rattle.aig_order.proofs.taking.take_one.Given as goal

-- those users that have passed are readied
abbrev pub invariant-loop-u : goal.invariant-loop-u
invariant-loop-u l = record {
  order : l.taking.order ≡ l.fn.taking.order ++ l.k ∷ [];
  readied : AreReadied l.gates l.users l.u-index l.taking.order l.taking.taken l.taking.ready;
}

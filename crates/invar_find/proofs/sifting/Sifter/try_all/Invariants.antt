use Rattle.std.proofs.Common.{◌≡◌}
use Rattle.invar_find.specs.Standing.{Spares}
use Rattle.invar_find.proofs.sifting.Sifter.try_all.Given as goal

abbrev pub invariant-loop-latch : goal.invariant-loop-latch
invariant-loop-latch l = record {
  spares : Spares l.safe.net l.fn.seen l.seen;
  asker : l.self.asker.variables ≡ l.fn.self.asker.variables;
}

abbrev pub invariant-loop-k : goal.invariant-loop-k
invariant-loop-k l = record {
  spares : Spares l.safe.net l.fn.seen l.seen;
  others : l.seen.others ≡ l.initial.seen.others;
  asker : l.self.asker.variables ≡ l.fn.self.asker.variables;
}

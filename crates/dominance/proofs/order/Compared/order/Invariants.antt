use Rattle.std.proofs.Common.{◌≡◌, ◌↔◌, ℕ, ◌<◌, true}
use Rattle.fin_monitor.specs.Seen.{machine_of}
use Rattle.dominance.specs.Dominance.{DominatesAt}
use Rattle.dominance.proofs.order.Compared.order.Given as goal

abbrev pub invariant-loop-place : goal.invariant-loop-place
invariant-loop-place g l = record {
  over : (l.order.over ≡ true)
      ↔ ((p : ℕ) → p < l.place → DominatesAt l.self.lengths (machine_of l.self.monitor.now).variables
      (machine_of l.self.monitor.now).body p l.self.first.now l.self.second.now);
  under : (l.order.under ≡ true)
      ↔ ((p : ℕ) → p < l.place → DominatesAt l.self.lengths (machine_of l.self.monitor.now).variables
      (machine_of l.self.monitor.now).body p l.self.second.now l.self.first.now);
}

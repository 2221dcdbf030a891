use Rattle.std.proofs.Common.{take}
use Rattle.fin_monitor.specs.Lefts.{IsFamily, IsPartialStep, kept_lists}
use Rattle.fin_monitor.proofs.lefts.Lefts.step.Given as goal

abbrev pub invariant-loop-d : goal.invariant-loop-d
invariant-loop-d g l =
    record {
      next : IsFamily l.next.items;
      strong : IsFamily l.strong.items;
      partial : IsPartialStep (kept_lists l.self.lists) l.self.code (take l.d-index l.residual) l.next.items l.strong.items l.weak;
    }

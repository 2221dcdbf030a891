use Rattle.std.proofs.Common.{◌≤◌, ◌-◌, length}
use Rattle.fin_monitor.specs.Lefts.{IsUnionsBelow, kept_lists}
use Rattle.fin_monitor.proofs.lefts.Lefts.unions.Given as goal

abbrev pub invariant-loop-k : goal.invariant-loop-k
invariant-loop-k g l = (l.from ≤ length l.self.lists) × IsUnionsBelow (kept_lists l.self.lists) l.self.code l.set l.from l.made.items

abbrev pub decreases-loop-k : goal.decreases-loop-k
decreases-loop-k g l = length l.self.lists - l.from

use Rattle.std.proofs.Common.{◌<◌, ◌≤◌, length, get_or}
use Rattle.sat_core.proofs.solver.Solver.back.Given as goal

abbrev pub invariant-loop-level : goal.invariant-loop-level
invariant-loop-level l = (l.level < length l.self.limits.items) ×
    (l.highest ≤ get_or l.self.limits.items l.level 0)

abbrev pub decreases-loop-level : goal.decreases-loop-level
decreases-loop-level l = l.level

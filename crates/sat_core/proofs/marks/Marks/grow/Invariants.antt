use Rattle.std.proofs.Common.{◌<◌, ◌≤◌, length}
use Rattle.std.specs.List.{All}
use Rattle.sat_core.specs.Marks.{AreNone}
use Rattle.sat_core.proofs.Stamping.{marks_of}
use Rattle.sat_core.proofs.marks.Marks.grow.Given as goal

abbrev pub invariant-loop-place : goal.invariant-loop-place
invariant-loop-place l = record {
  some : 0 < l.self-inside.today;
  early : All (λ s. s ≤ l.self-inside.today) l.self-inside.stamps.items;
  long : l._place ≤ length l.self-inside.stamps.items;
  none : AreNone (marks_of l.initial.self-inside.today l.initial.self-inside.stamps.items) →
      AreNone (marks_of l.self-inside.today l.self-inside.stamps.items);
}

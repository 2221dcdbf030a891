use Rattle.std.proofs.Common.{◌≡◌, ℕ, ◌<◌}
use Rattle.std.specs.Prelude.{slice_index}
use Rattle.hy_base.specs.Rows.{row}
use Rattle.invar_find.proofs.classes.differ.Given as goal

abbrev pub invariant-loop-j : goal.invariant-loop-j
invariant-loop-j l = (a : ℕ) → a < l.j → row l.state a ≡ row l.state (slice_index l.classes a)

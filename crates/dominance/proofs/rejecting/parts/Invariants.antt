use Rattle.std.proofs.Common.{◌≡◌, ℕ, ◌<◌, [], get_or}
use Rattle.std.specs.List.{Contains}
use Rattle.std.specs.FinSet.{empty}
use Rattle.fin_monitor.specs.Codes.{part_of}
use Rattle.fin_monitor.specs.Seen.{machine_of}
use Rattle.dominance.specs.Choices.{row_code}
use Rattle.dominance.specs.Runs.{AreCodesOf}
use Rattle.dominance.proofs.rejecting.parts.Given as goal

abbrev pub invariant-loop-row : goal.invariant-loop-row
invariant-loop-row l = record {
  all : (k : ℕ) → k < l.row-index
      → part_of (machine_of l.m).atoms l.place (get_or (get_or l.row-items k []) l.place empty)
      ≡ row_code (machine_of l.m) (get_or l.row-items k [])
      → Contains l.parts (row_code (machine_of l.m) (get_or l.row-items k []));
  below : AreCodesOf (machine_of l.m) l.parts;
}

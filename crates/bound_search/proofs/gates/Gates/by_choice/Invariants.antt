use Rattle.std.proofs.Common.{◌≡◌, All, length}
use Rattle.bound_search.specs.Making.{Draws}
use Rattle.bound_search.specs.Rows.{row_by_two}
use Rattle.bound_search.specs.Sheets.{listing, row_of, tuple_at}
use Rattle.bound_search.proofs.gates.Gates.by_choice.Given as goal

-- the rows so far are drawn
abbrev pub invariant-loop-place : goal.invariant-loop-place
invariant-loop-place l = record {
  many : length l.rows ≡ l.place;
  long : All (λ row. length row ≡ l.frame.places) l.rows;
  drawn : Draws (listing (λ place. row_by_two l.op l.frame.stem
      (row_of l.frame l.left (tuple_at l.frame l.variables place))
      (row_of l.frame l.right (tuple_at l.frame l.variables place))) l.place)
      l.initial.self l.self l.rows;
}

use Rattle.std.proofs.Common.{◌≡◌, [], All, get_or, length}
use Rattle.bound_search.specs.Making.{Draws}
use Rattle.bound_search.specs.Rows.{row_by_one}
use Rattle.bound_search.specs.Sheets.{listing}
use Rattle.bound_search.proofs.gates.Gates.by_row.Given as goal

-- the rows so far are drawn
abbrev pub invariant-loop-row : goal.invariant-loop-row
invariant-loop-row l = record {
  many : length l.rows ≡ l.row-index;
  long : All (λ row. length row ≡ l.frame.places) l.rows;
  drawn : Draws (listing (λ place. row_by_one l.op l.frame.stem (get_or l.row-items place [])) l.row-index)
      l.initial.self l.self l.rows;
}

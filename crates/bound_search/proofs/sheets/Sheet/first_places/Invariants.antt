use Rattle.std.proofs.Common.{◌≡◌, All, length, map, take}
use Rattle.bound_search.proofs.sheets.Sheet.first_places.Given as goal

abbrev pub invariant-loop-row : goal.invariant-loop-row
invariant-loop-row l = record {
  rows : l.rows ≡ map (take 1) (take l.row-index l.row-items);
  long : All (λ row. length row ≡ 1) l.rows;
}

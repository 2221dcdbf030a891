use Rattle.std.proofs.Common.{length, ◌-◌, ◌≡◌, ◌≤◌, ◌++◌}
use Rattle.hy_base.specs.Shelf.{KeepsShelf, Gave}
use Rattle.hy_base.proofs.reading.read_rest.Given as goal
use Rattle.hy_base.specs.declared.reading.TheConstants.{BYTES_LIMIT}

-- the text so far and what is left make up what was left
abbrev pub invariant-loop-text : goal.invariant-loop-text
invariant-loop-text g l = record {
  keeps : KeepsShelf g.S.Shelf l.initial.shelf l.shelf;
  opened : g.S.Shelf.tells l.initial.shelf → g.S.Shelf.open_name l.shelf ≡ g.S.Shelf.open_name l.initial.shelf;
  open_faults : g.S.Shelf.open_faults l.shelf ≡ g.S.Shelf.open_faults l.initial.shelf;
  given : Gave g.S.Shelf l.initial.shelf l.text l.shelf;
  within : length l.text ≤ BYTES_LIMIT;
  front : g.S.Shelf.tells l.initial.shelf → g.S.Shelf.rest l.initial.shelf ≡ l.text ++ g.S.Shelf.rest l.shelf;
}

abbrev pub decreases-loop-text : goal.decreases-loop-text
decreases-loop-text g l = BYTES_LIMIT - length l.text

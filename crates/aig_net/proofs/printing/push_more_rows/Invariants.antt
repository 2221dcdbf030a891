use Rattle.std.proofs.Common.{◌≡◌, ◌++◌, take}
use Rattle.aig_net.specs.RunTexts.{more_rows}
use Rattle.aig_net.proofs.printing.push_more_rows.Given as goal

-- the rows so far have been added
abbrev pub invariant-loop-row : goal.invariant-loop-row
invariant-loop-row l = l.text ≡ l.fn.text ++ more_rows (take l.row-index l.rows)

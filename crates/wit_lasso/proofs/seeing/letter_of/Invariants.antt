use Rattle.std.proofs.Common.{drop}
use Rattle.hy_base.specs.Rows.{row}
use Rattle.wit_lasso.specs.Seeing.{IsSeen}
use Rattle.wit_lasso.proofs.seeing.letter_of.Given as goal

abbrev pub invariant-loop-i : goal.invariant-loop-i
invariant-loop-i l = IsSeen (drop l.i l.signals) (row l.values) l.letter

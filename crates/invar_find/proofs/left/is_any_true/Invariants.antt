use Rattle.std.proofs.Common.{◌≡◌, false, take}
use Rattle.hy_base.specs.Rows.{row}
use Rattle.cnf_frames.specs.Facts.{any_true}
use Rattle.invar_find.proofs.left.is_any_true.Given as goal

-- none so far is true
abbrev pub invariant-loop-l : goal.invariant-loop-l
invariant-loop-l l = any_true (row l.state) (take l.l-index l.literals) ≡ false

use Rattle.std.proofs.Common.{◌≡◌, ◌+◌, false}
use Rattle.std.specs.Prelude.{slice_index_or}
use Rattle.hy_base.specs.Rows.{listed}
use Rattle.cnf_frames.proofs.reading.row_of.Given as goal

-- those so far are there
abbrev pub invariant-loop-v : goal.invariant-loop-v
invariant-loop-v l = l.row ≡ listed 0 l.v (λ v. slice_index_or l.values (l.start + v) false)

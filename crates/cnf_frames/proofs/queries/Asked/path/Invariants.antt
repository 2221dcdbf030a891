use Rattle.std.proofs.Common.{◌≡◌, ◌+◌, ◌*◌}
use Rattle.aig_net.specs.Nets.{variables}
use Rattle.hy_base.specs.Rows.{listed}
use Rattle.cnf_frames.proofs.Rows.{values_from}
use Rattle.cnf_frames.proofs.queries.Asked.path.Given as goal

-- the rows of the steps so far
abbrev pub invariant-loop-i : goal.invariant-loop-i
invariant-loop-i l = l.rows ≡ listed 0 l.i
    (λ i. values_from l.values (i * variables l.safe.net + 1) l.safe.net.inputs)

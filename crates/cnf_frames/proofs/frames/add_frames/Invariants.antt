use Rattle.std.proofs.Common.{◌≡◌, ◌++◌}
use Rattle.cnf_frames.specs.Queries.{frame_step}
use Rattle.chain_check.specs.FewClauses.{for_each}
use Rattle.cnf_frames.proofs.frames.add_frames.Given as goal

-- those so far are added
abbrev pub invariant-loop-frame : goal.invariant-loop-frame
invariant-loop-frame l =
    (l.cnf.variables ≡ l.initial.cnf.variables)
    × (l.cnf.clauses ≡ l.initial.cnf.clauses ++ for_each (frame_step l.net) l.frame)

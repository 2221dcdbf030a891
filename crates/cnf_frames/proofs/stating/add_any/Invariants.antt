use Rattle.std.proofs.Common.{◌≡◌, map, take}
use Rattle.cnf_frames.specs.Queries.{literal_in}
use Rattle.cnf_frames.proofs.stating.add_any.Given as goal

-- those so far are there
abbrev pub invariant-loop-l : goal.invariant-loop-l
invariant-loop-l l = l.clause ≡ map (literal_in l.net l.frame) (take l.l-index l.literals)

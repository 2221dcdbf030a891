use Rattle.std.proofs.Common.{◌≡◌, drop}
use Rattle.bound_search.specs.Sheets.{member_at}
use Rattle.bound_search.proofs.tuples.member_at.Given as goal

abbrev pub invariant-loop-u : goal.invariant-loop-u
invariant-loop-u l = member_at l.frame.traces l.u-items l.place l.v
    ≡ member_at l.frame.traces (drop l.u-index l.u-items) l.rest l.v

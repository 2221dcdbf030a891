use Rattle.std.proofs.Common.{length, take, ◌-◌, ◌≡◌, ◌≤◌, ◌++◌}
use Rattle.hy_base.specs.Sink.{KeepsSink, GivesWhole}
use Rattle.hy_base.proofs.writing.write_all.Given as goal

-- the front was given
abbrev pub invariant-loop-sent : goal.invariant-loop-sent
invariant-loop-sent g l = record {
  within : l.sent ≤ length l.bytes;
  keeps : KeepsSink g.O.Sink l.initial.sink l.sink;
  gives : GivesWhole g.O.Sink l.initial.sink l.sink (take l.sent l.bytes);
}

abbrev pub decreases-loop-sent : goal.decreases-loop-sent
decreases-loop-sent g l = length l.bytes - l.sent

use Rattle.std.proofs.Common.{take}
use Rattle.aig_net.specs.Following.{Follows}
use Rattle.aig_net.proofs.simulation.follow.Given as goal

-- the rows so far follow
abbrev pub invariant-loop-given : goal.invariant-loop-given
invariant-loop-given l = Follows l.net l.fn.latches (take l.given-index l.inputs) l.rows l.latches

use Rattle.std.proofs.Common.{arith}
use Rattle.invar_find.proofs.Standings.{spares_again}
use Rattle.invar_find.proofs.walking.Walker.walk.Goals as goal

pub returns-then-patience-eq0 : goal.returns-then-patience-eq0
returns-then-patience-eq0 c = spares_again _ _ _ _ c.loop-step.invariant.spares c.in_ok-fewer.ensures

pub loop-step-preserved : goal.loop-step-preserved
loop-step-preserved c = record {
  spares = spares_again _ _ _ _ c.loop-step.invariant.spares c.in_ok-fewer.ensures;
  patience = omega arith;
}

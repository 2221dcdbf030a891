use Rattle.std.proofs.Common.{inl, inr, arith}
use Rattle.std.proofs.lemmas.Grind.{common_steps}
use Rattle.hy_base.proofs.mem_sink.MemSinkSink.put.Goals as goal
use Rattle.hy_base.proofs.mem_sink.MemSinkSink.put.Goals.{then-fails-via-then-fails, then-fails-via-else-fails+then-count-eq0}

-- a chosen call, or one that finds no room
pub returns-then-fails-clause-fails : goal.returns-then-fails-clause-fails
returns-then-fails-clause-fails c =
    elim c.then-fails.branch [
      | then-fails-via-then-fails w ↦ inr (grind (arith, common_steps))
      | then-fails-via-else-fails+then-count-eq0 w ↦ inl (grind (arith, common_steps))
    ]

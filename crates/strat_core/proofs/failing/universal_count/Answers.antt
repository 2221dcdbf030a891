use Rattle.std.proofs.Common.{arith}
use Rattle.strat_compose.proofs.Prefixes.{shape-length}
use Rattle.strat_core.proofs.failing.universal_count.Goals as goal

pub overflow_cast-result : goal.overflow_cast-result
overflow_cast-result c =
    let long = shape-length _ _ _ c.in-Some.ensures.some in
    omega (arith, long, c.requires.few)

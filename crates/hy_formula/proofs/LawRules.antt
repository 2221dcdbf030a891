-- What the checks of the laws try.
use Rattle.hy_formula.proofs.Deciding.{decided-below}
use Rattle.hy_formula.proofs.Repeating.{decided-repeating}
use Rattle.hy_formula.proofs.Normalising.{normal-right}
use Rattle.hy_formula.proofs.Unrolling.{until_step, release_step}
use Rattle.hy_formula.proofs.Shapes.{exists-shape, forall-shape, exists_forall-shape}

pub ruleset laws = (decided-below, decided-repeating, normal-right, until_step, release_step, exists-shape, forall-shape, exists_forall-shape)

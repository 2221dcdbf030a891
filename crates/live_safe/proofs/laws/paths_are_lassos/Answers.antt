use Rattle.live_safe.proofs.Saving.{lasso-path}
use Rattle.live_safe.proofs.Unfolding.{unfolding-path}
use Rattle.live_safe.proofs.SafeRange.{safe-net, bad-in-range}
use Rattle.live_safe.proofs.OnLatches.{bad-on-latches}
use Rattle.live_safe.proofs.Starts.{zero-at}
use Rattle.live_safe.specs.Safe.{safe_latches}
use Rattle.live_safe.proofs.laws.paths_are_lassos.Goals as goal

pub returns-clause-path : goal.returns-clause-path
returns-clause-path c net lasso good = lasso-path net good lasso

pub returns-clause-lasso : goal.returns-clause-lasso
returns-clause-lasso c = unfolding-path

pub returns-clause-net : goal.returns-clause-net
returns-clause-net c = safe-net

pub returns-clause-bad : goal.returns-clause-bad
returns-clause-bad c = bad-in-range

pub returns-clause-zero : goal.returns-clause-zero
returns-clause-zero c net = zero-at (safe_latches net)

pub returns-clause-latches : goal.returns-clause-latches
returns-clause-latches c = bad-on-latches

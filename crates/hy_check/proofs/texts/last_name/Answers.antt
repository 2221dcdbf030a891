use Rattle.std.proofs.Common.{arith}
use Rattle.hy_check.proofs.Last.{last-name, no-name}
use Rattle.hy_check.proofs.texts.last_name.Goals as goal

pub returns-then-count-eq0 : goal.returns-then-count-eq0
returns-then-count-eq0 c = no-name c.args.files.now c.if-count-eq0.true

pub returns-else-count-eq0 : goal.returns-else-count-eq0
returns-else-count-eq0 c = last-name c.args.files.now _ (omega (arith, c.if-count-eq0.false))

use Rattle.hy_finite.proofs.Carrying.{has_one-until, byte-of}
use Rattle.hy_finite.proofs.rule.until_word.Goals as goal

pub returns : goal.returns
returns c k lt = rw byte-of (has_one-until c.args.left c.args.right c.args.carry k lt)

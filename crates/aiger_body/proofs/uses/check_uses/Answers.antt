use Rattle.aiger_body.proofs.Known.{binary-uses}
use Rattle.aiger_body.proofs.uses.check_uses.Goals as goal

pub returns-then-header : goal.returns-then-header
returns-then-header c = binary-uses c.args.header.now c.args.bytes.now c.if-header.true c.requires.right c.requires.lines.clear

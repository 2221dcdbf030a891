use Rattle.std.proofs.Common.{◌++◌}
use Rattle.chain_check.proofs.Knowing.{ready-anew, ready-kept}
use Rattle.chain_check.proofs.checker.Checker.restart.Goals as goal

pub invariant_of-self : goal.invariant_of-self
invariant_of-self c = ready-kept (c.self.inside.given.now ++ c.self.inside.learned)
    c.self.inside.partial c.renew.new.partial c.self.invariant c.in_err-renew.ensures.refused

pub invariant_of-self-2 : goal.invariant_of-self-2
invariant_of-self-2 c = ready-anew c.args.given.now.variables c.args.more.variables
    c.args.given.now.clauses c.args.more.clauses c.renew.new.partial c.requires
    c.args.given.now.right c.args.more.right c.in_ok-renew.ensures.made

use Rattle.chain_check.proofs.Knowing.{ready-first}
use Rattle.chain_check.proofs.checker.Checker.new.Goals as goal

pub invariant_of-result : goal.invariant_of-result
invariant_of-result c = ready-first c.args.cnf.now.variables c.args.cnf.now.clauses c.new.result
    c.in_ok-new.field-0 c.args.cnf.now.right c.new.ensures c.in_ok-new.ensures

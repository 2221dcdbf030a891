use Rattle.chain_check.proofs.Storing.{clauses-after, few-after}
use Rattle.chain_check.proofs.clauses.Cnf.add_literals.Goals as goal

pub invariant_of-self : goal.invariant_of-self
invariant_of-self c = record {
  few_variables = c.args.self.now.few_variables;
  few_clauses =
      few-after c.add.result c.args.self.now.clauses c.add.new.self c.args.clause.now
      c.add.ensures.added c.add.ensures.refused c.requires.few;
  right =
      clauses-after c.add.result c.args.self.now.variables c.args.self.now.clauses c.add.new.self
      c.args.clause.now c.add.ensures.added c.add.ensures.refused c.args.self.now.right
      c.requires.right;
}

use Rattle.std.proofs.Common.{◌≡◌, ◌++◌, List, take, ◌∙◌}
use Rattle.std.specs.Prelude.{ℤ}
use Rattle.chain_check.proofs.Storing.{on-err}
use Rattle.chain_check.proofs.clauses.push_numbers.Goals as goal

pub returns-in_err-push-clause-refused : goal.returns-in_err-push-clause-refused
returns-in_err-push-clause-refused c =
    let grown : (more : List ℤ) × (c.push.new.self.items ≡ c.args.literals.now.items ++ more) = (
      take c.loop-number.number-index c.args.numbers.now,
      c.in_err-push.ensures.items ∙ c.loop-number.invariant,
    ) in
    on-err _ _ grown

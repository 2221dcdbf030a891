use Rattle.std.proofs.Common.{◌≤◌, arith}
use Rattle.std.proofs.lemmas.Grind.{common_steps}
use Rattle.hy_base.proofs.CallLemmas.{none_fails_later}
use Rattle.hy_base.proofs.calls.Calls.next_fails.Goals as goal

pub returns-in-Some-clause-keeps : goal.returns-in-Some-clause-keeps
returns-in-Some-clause-keeps c = λ none.
    let later : c.args.self.now.made ≤ c.in-Some.number = grind (arith, common_steps) in
    none_fails_later _ _ _ none later

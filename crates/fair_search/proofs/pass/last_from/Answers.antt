use Rattle.std.proofs.Common.{arith}
use Rattle.fair_search.proofs.Lists.{up-last}
use Rattle.fair_search.proofs.pass.last_from.Goals as goal

pub returns-in_default : goal.returns-in_default
returns-in_default c x there =
    let (front, ends) = c.in-Some.ensures in
    omega (
      arith,
      up-last c.args.numbers.now front c.in-Some.number x c.requires ends there,
      c.if-number-least.false,
    )

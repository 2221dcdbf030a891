use Rattle.std.proofs.Common.{◌∷◌, ap, ◌∙◌}
use Rattle.hy_read.specs.Scans.{plain}
use Rattle.hy_read.proofs.Building.{other_follows}
use Rattle.hy_read.proofs.Stepping.{stands_left, none_left}
use Rattle.hy_read.proofs.parsed.what_follows.Goals as goal

pub returns-in-None-clause-followed : goal.returns-in-None-clause-followed
returns-in-None-clause-followed c = λ rest left. none_left c.args.text.now c.args.at rest c.in-None.ensures left

pub returns-in-Symbol-clause-followed : goal.returns-in-Symbol-clause-followed
returns-in-Symbol-clause-followed c = λ rest left.
    let (more, is, behind) = stands_left c.args.text.now c.args.at c.in-Some.next rest c.in-Some.ensures left in
    (more, is ∙ ap (λ t. plain t ∷ more) c.in-Symbol.is, behind)

pub returns-in_default-clause-followed : goal.returns-in_default-clause-followed
returns-in_default-clause-followed c = λ rest left.
    let (more, is, behind) = stands_left c.args.text.now c.args.at c.in-Some.next rest c.in-Some.ensures left in
    other_follows c.in-Some.next.token more rest c.in_default.not-Symbol is

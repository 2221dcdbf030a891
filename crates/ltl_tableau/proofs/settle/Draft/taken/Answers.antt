use Rattle.std.proofs.Common.{ap, arith}
use Rattle.ltl_tableau.specs.declared.settle.Work.{Work}
use Rattle.ltl_tableau.proofs.Stepping.{taken-dead}
use Rattle.ltl_tableau.proofs.settle.Draft.taken.Goals as goal

pub returns-clause-below : goal.returns-clause-below
returns-clause-below g c = omega (arith, ap (λ (x : Work _). x.below) c.take.ensures.work)

pub returns-clause-dead : goal.returns-clause-dead
returns-clause-dead g c =
    taken-dead c.args.c.now.nodes c.args.self.now c.take.new.self c.args.side.now c.requires.dead c.take.ensures.work c.take.ensures.dead

use Rattle.std.proofs.Common.{◌≡◌, ◌*◌, ◌++◌, ◌∷◌, [], true, false, ap, ◌∙◌, arith}
use Rattle.std.specs.FinSet.{contains}
use Rattle.ea_core.proofs.Numbers.{numbers_of, numbers-with, numbers-without, numbers-set, numbers-ascend}
use Rattle.ea_core.proofs.ranking.members.Goals as goal
use Rattle.ea_core.proofs.ranking.members.Goals.{then-has+in_ok-push, else-has}

pub loop-k-preserved : goal.loop-k-preserved
loop-k-preserved g c =
    elim c.if-has.branch [
      | then-has+in_ok-push w ↦
          let is : contains c.args.set.now c.loop-k.k ≡ true = cc in
          let made : c.if-has.list ≡ c.loop-k.list ++ c.loop-k.k ∷ [] = cc (w.in_ok-push.ensures.added) in
          numbers-with c.args.set.now c.loop-k.k c.loop-k.list c.if-has.list is c.loop-k.invariant made
      | else-has w ↦
          let is : contains c.args.set.now c.loop-k.k ≡ false = cc in
          w.list-is ∙ numbers-without c.args.set.now c.loop-k.k c.loop-k.list is c.loop-k.invariant
    ]

pub returns-clause-set : goal.returns-clause-set
returns-clause-set g c =
    let end : c.loop-k.k ≡ 64 * g.row.W = omega (arith, c.loop-k.auto.k-end, c.loop-k-test.false) in
    numbers-set c.args.set.now (64 * g.row.W) c.loop-k.list c.members_below.ensures (c.loop-k.invariant ∙ ap (numbers_of c.args.set.now) end)

pub returns-clause-ascending : goal.returns-clause-ascending
returns-clause-ascending g c = numbers-ascend c.args.set.now c.loop-k.k c.loop-k.list c.loop-k.invariant

use Rattle.std.proofs.Common.{ap, length, arith}
use Rattle.ltl_tableau.proofs.Drawing.{member-made}
use Rattle.ltl_tableau.proofs.draw.fill.Goals as goal

pub member-requires-clause-node : goal.member-requires-clause-node
member-requires-clause-node c =
    member-made c.args.members.now _ c.loop-member.member-index _ c.as_slice-member-items.ensures c.loop-member-test.true
    (λ v h. omega (arith, c.requires.made v h, ap length c.loop-member.invariant.nodes))

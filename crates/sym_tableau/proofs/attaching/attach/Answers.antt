use Rattle.std.proofs.Common.{sym, subst, arith}
use Rattle.aig_net.specs.declared.parts.NetParts.{NetParts}
use Rattle.aig_net.specs.Nets.{IsNet, variables}
use Rattle.sym_tableau.specs.Oracles.{signal_in}
use Rattle.sym_tableau.proofs.AttachedRange.{attached-net}
use Rattle.sym_tableau.proofs.Rooms.{signal-below}
use Rattle.sym_tableau.proofs.attaching.attach.Goals as goal

pub new-requires-clause-net : goal.new-requires-clause-net
new-requires-clause-net c =
    let P : NetParts → Type 0 = IsNet in
    subst P (sym c.in_ok-parts.ensures)
    (attached-net c.args.net.now c.args.closure.now.nodes c.variables.ensures.net
    (signal_in c.args.signals.now) c.args.closure.now.roots
    (λ n x. signal-below (variables c.args.net.now) n x c.args.signals.now (omega arith)
    c.requires.signals) c.len.ensures.operands)

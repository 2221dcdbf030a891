use Rattle.std.proofs.Common.{◌≡◌, ◌≤◌, IfOk, sym, subst}
use Rattle.aig_net.specs.Nets.{Net, variables}
use Rattle.ltl_closure.specs.Jobs.{Rooted}
use Rattle.formula_nets.specs.SafeNets.{net_over}
use Rattle.formula_nets.proofs.safe_nets.net_for.Goals as goal

pub net_over-requires-clause-room : goal.net_over-requires-clause-room
net_over-requires-clause-room c =
    let R : Rooted → Type 0 = λ r.
    variables (net_over c.args.net.now c.args.signals.now c.args.n r) ≤ 2147483648 in
    subst R (sym c.requires.closure) c.requires.room

pub returns : goal.returns
returns c =
    let R : Rooted → Type 0 = λ r. IfOk c.net_over.result (λ (made : Net).
    made ≡ net_over c.args.net.now c.args.signals.now c.args.n r) in
    subst R c.requires.closure c.net_over.ensures

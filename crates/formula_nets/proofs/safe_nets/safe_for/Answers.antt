use Rattle.std.proofs.Common.{◌≡◌, ◌≤◌, IfOk, sym, subst}
use Rattle.aig_net.specs.Nets.{variables}
use Rattle.ltl_closure.specs.Jobs.{Rooted}
use Rattle.live_safe.specs.declared.safe_net.SafeNet.{SafeNet}
use Rattle.formula_nets.specs.SafeNets.{safe_over}
use Rattle.formula_nets.proofs.safe_nets.safe_for.Goals as goal

pub safe_over-requires-clause-room : goal.safe_over-requires-clause-room
safe_over-requires-clause-room c =
    let R : Rooted → Type 0 = λ r.
    variables (safe_over c.args.net.now c.args.signals.now c.args.n r).net ≤ 2147483648 in
    subst R (sym c.requires.closure) c.requires.room

pub returns-clause-made : goal.returns-clause-made
returns-clause-made c =
    let R : Rooted → Type 0 = λ r. IfOk c.safe_over.result (λ (made : SafeNet).
    made ≡ safe_over c.args.net.now c.args.signals.now c.args.n r) in
    subst R c.requires.closure c.safe_over.ensures.made

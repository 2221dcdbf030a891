use Rattle.std.proofs.Common.{List, length, ap, arith}
use Rattle.aig_net.specs.declared.signals.Signal.{Signal}
use Rattle.free_net.specs.FreeNets.{names_below}
use Rattle.free_net.proofs.Naming.{names-few, signals-many}
use Rattle.free_net.proofs.inputs.signals_for.Goals as goal

pub add_name-requires-clause-few : goal.add_name-requires-clause-few
add_name-requires-clause-few c =
    let e = ap (λ (l : List Signal). length l) c.loop-k.invariant in
    let m = signals-many 0 (names_below c.args.closure.now.nodes c.loop-k.k) in
    let f = names-few c.args.closure.now.nodes c.loop-k.k in
    let t = c.loop-k-test.true in
    let a = c.len-k-end.ensures.len in
    let b = c.len-k-end.ensures.few in
    omega (arith, e, m, f, t, a, b)

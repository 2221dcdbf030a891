use Rattle.std.proofs.Common.{◌∙◌, ap, arith, refl, []}
use Rattle.std.proofs.lemmas.List.{get_or_read}
use Rattle.aig_order.specs.Firsts.{holds}
use Rattle.aig_order.proofs.Takes.{next_some, next_none, taken_none, with_some, with_none, take_first}
use Rattle.aig_order.proofs.taking.take_next.Goals as goal

pub returns-in_default-clause-order : goal.returns-in_default-clause-order
returns-in_default-clause-order c =
    with_none c.args.gates.now c.args.taking.now.order (next_none c.args.gates.now c.requires.set.few c.args.taking.now.order c.args.taking.now.taken c.args.taking.now.ready c.requires.taken c.in_default.ensures.0)

pub returns-in_default-clause-taken : goal.returns-in_default-clause-taken
returns-in_default-clause-taken c =
    taken_none c.args.gates.now c.requires.set.few c.args.taking.now.order c.args.taking.now.taken c.args.taking.now.ready c.requires.taken c.next_ready.new.ready c.in_default.ensures.0 c.in_default.ensures.1

pub take_one-requires-clause-readied : goal.take_one-requires-clause-readied
take_one-requires-clause-readied c =
    let next = next_some c.args.gates.now c.requires.set.few c.args.taking.now.order c.args.taking.now.taken c.args.taking.now.ready c.requires.taken c.next_ready.new.ready c.in-Some.k c.in-Some.ensures in
    take_first c.args.gates.now c.args.taking.now.order c.args.taking.now.taken c.args.taking.now.ready c.next_ready.new.ready c.in-Some.k next.0 c.requires.set.few c.requires.taken c.in-Some.ensures c.as_slice.result.now _ _ (λ u lt used. ap (holds u) (c.as_slice.ensures ∙ get_or_read c.args.users.now.items c.in-Some.k _ (omega (arith, next.0, c.requires.users.long)) c.index.ensures []) ∙ c.requires.users.all u c.in-Some.k lt next.0 used) refl refl

pub returns-clause-order : goal.returns-clause-order
returns-clause-order c =
    let next = next_some c.args.gates.now c.requires.set.few c.args.taking.now.order c.args.taking.now.taken c.args.taking.now.ready c.requires.taken c.next_ready.new.ready c.in-Some.k c.in-Some.ensures in
    c.in_ok-take_one.ensures.order ∙ with_some c.args.gates.now c.in-Some.k c.args.taking.now.order next.1

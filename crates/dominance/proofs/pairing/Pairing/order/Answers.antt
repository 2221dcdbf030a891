use Rattle.std.proofs.Common.{Bool, subst, arith}
use Rattle.dominance.specs.declared.reached.Node.{Node}
use Rattle.dominance.specs.Runs.{Pairing, Deed, Differ, exchanged, IsLeftAt}
use Rattle.dominance.specs.Seen.{pairing_of}
use Rattle.dominance.proofs.Searching.{left-start, left-more, left-given, left-all}
use Rattle.dominance.proofs.pairing.Pairing.order.Goals as goal

pub loop-k-init : goal.loop-k-init
loop-k-init g c =
    let s : Pairing = pairing_of c.args.self.now in
    record {
      linked = c.in_ok-reached.ensures.linked;
      reached = c.in_ok-reached.ensures.reached (pairing_of c.args.self.now) c.start.ensures.inside;
      ends = c.in_ok-ends.ensures;
      over = left-start s (Differ s) _ c.args.claimed.over;
      under = left-start s (Differ (exchanged s)) _ c.args.claimed.under;
    }

pub returns-then-not-order-2-clause-over : goal.returns-then-not-order-2-clause-over
returns-then-not-order-2-clause-over g c =
    let s : Pairing = pairing_of c.args.self.now in
    left-given s (Differ s) c.loop-k.reached.nodes.keys c.loop-k.k c.args.claimed.over
    c.loop-k.order.over c.if-not-order.true c.loop-k.invariant.over

pub returns-then-not-order-2-clause-under : goal.returns-then-not-order-2-clause-under
returns-then-not-order-2-clause-under g c =
    let s : Pairing = pairing_of c.args.self.now in
    left-given s (Differ (exchanged s)) c.loop-k.reached.nodes.keys c.loop-k.k
    c.args.claimed.under c.loop-k.order.under c.if-not-order-2.true c.loop-k.invariant.under

pub returns-in_default-clause-over : goal.returns-in_default-clause-over
returns-in_default-clause-over g c =
    let s : Pairing = pairing_of c.args.self.now in
    let inv = c.loop-k.invariant in
    left-all s (Differ s) c.loop-k.reached.nodes.keys c.loop-k.reached.links inv.reached
    inv.linked.some c.loop-k.k c.in_default.ensures.none c.args.claimed.over c.loop-k.order.over
    inv.over

pub returns-in_default-clause-under : goal.returns-in_default-clause-under
returns-in_default-clause-under g c =
    let s : Pairing = pairing_of c.args.self.now in
    let inv = c.loop-k.invariant in
    left-all s (Differ (exchanged s)) c.loop-k.reached.nodes.keys c.loop-k.reached.links
    inv.reached inv.linked.some c.loop-k.k c.in_default.ensures.none c.args.claimed.under
    c.loop-k.order.under inv.under

pub loop-k-preserved : goal.loop-k-preserved
loop-k-preserved g c =
    let s : Pairing = pairing_of c.args.self.now in
    let inv = c.loop-k.invariant in
    let e = c.in_ok-follow.ensures in
    let P : Deed → Bool → Bool → Node → Type 0 = λ does claimed now x. IsLeftAt s does x claimed now
    in
    let Q : Node → Type 0 = P (Differ s) c.loop-k.order.over c.order_there-order.result.over in
    let R : Node → Type 0 = P (Differ (exchanged s)) c.loop-k.order.under c.order_there-order.result.under
    in
    record {
      linked = e.linked;
      reached = e.reached;
      ends = c.order_there-order.ensures.ends;
      over = left-more s (Differ s) c.loop-k.reached.nodes.keys c.follow.new.reached.nodes.keys
          c.loop-k.reached.links inv.linked inv.reached e.grown c.loop-k.k
          c.in-Some.ensures.there e.followed c.args.claimed.over c.loop-k.order.over
          c.order_there-order.result.over inv.over
          (subst Q c.in-Some.ensures.node c.order_there-order.ensures.over);
      under = left-more s (Differ (exchanged s)) c.loop-k.reached.nodes.keys
          c.follow.new.reached.nodes.keys c.loop-k.reached.links inv.linked inv.reached e.grown
          c.loop-k.k c.in-Some.ensures.there e.followed c.args.claimed.under
          c.loop-k.order.under c.order_there-order.result.under inv.under
          (subst R c.in-Some.ensures.node c.order_there-order.ensures.under);
    }

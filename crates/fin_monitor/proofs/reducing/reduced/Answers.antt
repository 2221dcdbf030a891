use Rattle.std.proofs.Common.{◌≡◌, ◌+◌, ◌-◌, ◌<◌, ◌≤◌, ℕ, List, drop, length, sym, subst, arith}
use Rattle.ltl_closure.specs.Nodes.{Node}
use Rattle.fin_monitor.specs.Duties.{Duty}
use Rattle.fin_monitor.specs.Reductions.{OutdoneBy, LeaveAlike}
use Rattle.fin_monitor.proofs.Outdoing.{alike-kept_duty, alike-dropped_duty}
use Rattle.fin_monitor.proofs.reducing.reduced.Goals as goal

-- the last duty that is not seen yet
one-less : (nodes : List Node) (made residual : List Duty) (i : ℕ) → 0 < i → i ≤ length residual → LeaveAlike nodes made (drop i residual)
    → (i - 1 < length residual) × LeaveAlike nodes made (drop (i - 1 + 1) residual)
one-less nodes made residual i some within alike =
    let P : ℕ → Type 0 = λ n. LeaveAlike nodes made (drop n residual) in
    let next : i ≡ i - 1 + 1 = omega (arith, some) in
    (omega (arith, some, within), subst P next alike)

pub loop-i-preserved-in-Continue-1 : goal.loop-i-preserved-in-Continue-1
loop-i-preserved-in-Continue-1 g c =
    let nodes = c.args.closure.now.nodes in
    let residual = c.args.residual.now in
    let (lt, alike) =
    one-less nodes c.loop-i.made.items residual c.loop-i.i c.loop-i-test.true c.loop-i.invariant.within c.loop-i.invariant.alike in
    let Q : List Duty → Type 0 = λ l. LeaveAlike nodes l (drop (c.loop-i.i - 1) residual) in
    record {
      within = omega (arith, lt);
      alike = subst Q (sym c.in_ok-push.ensures.items) (alike-kept_duty nodes c.loop-i.made.items residual (c.loop-i.i - 1) c.index-residual-i.result lt c.index-residual-i.is alike);
    }

pub loop-i-preserved : goal.loop-i-preserved
loop-i-preserved g c =
    let nodes = c.args.closure.now.nodes in
    let residual = c.args.residual.now in
    let (lt, alike) =
    one-less nodes c.loop-i.made.items residual c.loop-i.i c.loop-i-test.true c.loop-i.invariant.within c.loop-i.invariant.alike in
    let Q : List Duty → Type 0 = OutdoneBy nodes c.index-residual-i.result in
    record {
      within = omega (arith, lt);
      alike = alike-dropped_duty nodes c.loop-i.made.items residual (c.loop-i.i - 1) c.index-residual-i.result lt c.index-residual-i.is alike (subst Q c.deref.ensures.value (c.is_outdone.ensures c.if-not-is_outdone.false));
    }

pub returns : goal.returns
returns g c =
    let P : ℕ → Type 0 = λ n. LeaveAlike c.args.closure.now.nodes c.loop-i.made.items (drop n c.args.residual.now) in
    let end : c.loop-i.i ≡ 0 = omega (arith, c.loop-i-test.false) in
    subst P end c.loop-i.invariant.alike

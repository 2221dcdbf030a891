use Rattle.std.proofs.Common.{sym, subst}
use Rattle.hy_finite.specs.Traces.{Trace}
use Rattle.fin_monitor.specs.Machines.{Machine}
use Rattle.fin_monitor.specs.Seen.{machine_of}
use Rattle.dominance.specs.Dominance.{Dominates}
use Rattle.dominance.proofs.order.order_of.Goals as goal

pub returns-then-are_apart : goal.returns-then-are_apart
returns-then-are_apart c =
    let m : Machine = machine_of c.args.m.now in
    let (over, under) = c.are_apart.ensures c.if-are_apart.true c.args.lengths in
    let P : Trace → Type 0 = λ t. Dominates c.args.lengths m.variables m.body t
    c.as_slice-2.result.now in
    let Q : Trace → Type 0 = λ u. Dominates c.args.lengths m.variables m.body c.args.t.now u in
    let R : Trace → Type 0 = λ u. Dominates c.args.lengths m.variables m.body u
    c.as_slice.result.now in
    let S : Trace → Type 0 = λ t. Dominates c.args.lengths m.variables m.body c.args.u.now t in
    record {
      over = (
        λ e. absurd (cc),
        λ d. absurd (over (subst P (sym c.as_slice.ensures) (subst Q (sym c.as_slice-2.ensures) d))),
      );
      under = (
        λ e. absurd (cc),
        λ d. absurd (under (subst R (sym c.as_slice-2.ensures) (subst S (sym c.as_slice.ensures) d))),
      );
    }

use Rattle.std.proofs.Common.{◌≡◌, ℕ, List, subst, sym}
use Rattle.hy_finite.specs.declared.lengths.Lengths.{Lengths}
use Rattle.hy_finite.specs.declared.lengths.Lengths.TheVariants.{Min, Pad}
use Rattle.fin_monitor.specs.Machines.{Machine}
use Rattle.fin_monitor.specs.Seen.{machine_of}
use Rattle.dominance.specs.Runs.{EndsIn}
use Rattle.dominance.proofs.Standing.{ends-min, ends-pad}
use Rattle.dominance.proofs.pairing.Pairing.at_end.Goals as goal

-- by whichever name the rule has
ruled : (m : Machine) (r rule : Lengths) (column : List ℕ) (code : ℕ → ℕ) (n most at q end : ℕ)
    → rule ≡ r → EndsIn m r column code n most at q end → EndsIn m rule column code n most at q end
ruled m r rule column code n most at q end is ends =
    let P : Lengths → Type 0 = λ x. EndsIn m x column code n most at q end in subst P (sym is) ends

pub returns-in-Min-clause-state : goal.returns-in-Min-clause-state
returns-in-Min-clause-state g c = λ code n most short.
    let m = machine_of c.args.self.now.monitor.now in
    ruled m Min c.args.self.now.lengths c.args.column.now code n most c.args.at c.args.q c.args.q
    c.in-Min.is (ends-min m c.args.column.now code n most c.args.at c.args.q short)

pub returns-in-Pad-clause-state : goal.returns-in-Pad-clause-state
returns-in-Pad-clause-state g c = λ code n most short.
    let m = machine_of c.args.self.now.monitor.now in
    let end = c.lone_end.ensures.end in
    ruled m Pad c.args.self.now.lengths c.args.column.now code n most c.args.at c.args.q
    c.lone_end.result c.in-Pad.is
    (ends-pad m c.args.column.now code n most c.args.at c.args.q short c.lone_end.result end.past
    end.state)

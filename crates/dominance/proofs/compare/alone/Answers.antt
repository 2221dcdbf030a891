use Rattle.std.proofs.Common.{List, refl, sym, subst, arith}
use Rattle.hy_finite.specs.Traces.{Trace}
use Rattle.fin_monitor.specs.Seen.{machine_of}
use Rattle.dominance.specs.Dominance.{Refutes}
use Rattle.dominance.proofs.Meaning.{alone-dominates}
use Rattle.dominance.proofs.compare.alone.Goals as goal
use Rattle.dominance.proofs.compare.alone.Goals.{else-satisfies-via-then-satisfies+else-not-satisfies, else-satisfies-via-else-satisfies}

pub returns-then-not-satisfies : goal.returns-then-not-satisfies
returns-then-not-satisfies g c = λ rule.
    let P : List Trace → Type 0 =
    λ others. Refutes rule 1
    (machine_of c.args.m.now).body c.args.t.now c.args.u.now 0 others in
    let refused = c.if-not-satisfies.true in
    subst P (sym c.new.ensures) (record {
      inside = omega arith;
      count = refl;
      words = tt;
      violates = λ meets. let holds = (c.satisfies-then-satisfies.ensures rule).1 meets in cc;
      satisfies = (c.satisfies.ensures rule).0 c.if-satisfies.true;
    })

pub returns-else-satisfies : goal.returns-else-satisfies
returns-else-satisfies g c = λ rule.
    alone-dominates rule (machine_of c.args.m.now).body c.args.t.now c.args.u.now
    (λ fails meets. elim c.else-satisfies.branch [
      | else-satisfies-via-then-satisfies+else-not-satisfies w ↦ let holds =
          w.if-not-satisfies.false in fails ((w.satisfies-then-satisfies.ensures rule).0 holds)
      | else-satisfies-via-else-satisfies w ↦ let refused = w.if-satisfies.false in let holds =
          (c.satisfies.ensures rule).1 meets in absurd (cc)
    ])

use Rattle.std.proofs.Common.{◌≡◌, ◌+◌, List, sym, subst, arith, true, ◌↔◌, Bool}
use Rattle.std.specs.Prelude.{ℤ, pos}
use Rattle.std.specs.List.{Contains}
use Rattle.std.proofs.lemmas.Int.{ints}
use Rattle.sat_core.specs.Outcomes.{AreValues}
use Rattle.sat_core.proofs.Searching.{values-more}
use Rattle.sat_core.proofs.solver.Solver.values.Goals as goal

pub loop-place-preserved : goal.loop-place-preserved
loop-place-preserved c =
    let its : c.new.result ≡ pos (c.loop-place.place + 1) =
    omega (
      arith,
      ints,
      c.new.ensures,
      c.loop-place-test.true,
      c.variables-place-end.ensures.few,
    ) in
    let P : ℤ → Type 0 = λ z. (c.is_true.result ≡ true) ↔
    Contains c.args.self.now.partial.literals z in
    let Q : List Bool → Type 0 = AreValues (c.loop-place.place + 1) c.args.self.now.partial.literals
    in
    subst Q (sym c.in_ok-push.ensures.added) (values-more c.loop-place.place
    c.args.self.now.partial.literals c.loop-place.values c.is_true.result c.loop-place.invariant
    (subst P its c.is_true.ensures))

use Rattle.std.proofs.Common.{ℕ, ◌+◌, ◌++◌, ◌∷◌, [], List, length, sym, ap, ◌∙◌, subst, arith, length-append}
use Rattle.fin_monitor.specs.Machines.{Machine}
use Rattle.dominance.specs.declared.lone_ends.LoneEnd.{LoneEnd}
use Rattle.dominance.specs.LoneEnds.{AreLoneEnds}
use Rattle.dominance.proofs.KeptEnds.{ends-more}
use Rattle.dominance.proofs.lone_ends.LoneEnds.new.Goals as goal

pub loop-q-init : goal.loop-q-init
loop-q-init c = record {
  long = ap length c.new-ends.ensures;
  kept = λ m column states long q lt. absurd (omega (arith, lt, ap length c.new-ends.ensures));
}

pub loop-q-preserved : goal.loop-q-preserved
loop-q-preserved c =
    let inv = c.loop-q.invariant in
    let last : LoneEnd = record { at = c.args.positions; end = c.loop-q.q } in
    let P : Machine → List ℕ → List LoneEnd → Type 0 = AreLoneEnds in
    let L : ℕ → LoneEnd = λ k. record { at = c.args.positions; end = k } in
    record {
      long = ap length c.in_ok-push.ensures.added ∙ length-append c.loop-q.ends (last ∷ [])
          ∙ ap (λ n. n + 1) inv.long;
      kept = λ m column states long.
          subst (P m column) (ap (λ k. c.loop-q.ends ++ L k ∷ []) inv.long ∙ sym c.in_ok-push.ensures.added)
          (ends-more m column c.loop-q.ends c.args.positions long
          (omega (arith, inv.long, states, c.loop-q-test.true)) (inv.kept m column states long));
    }

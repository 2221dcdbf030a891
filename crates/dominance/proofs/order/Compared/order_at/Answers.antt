use Rattle.std.proofs.Common.{◌≡◌, ◌↔◌, ℕ, List, true, length, map, sym, ap, ◌∙◌, subst}
use Rattle.std.specs.Prelude.{IfOk}
use Rattle.std.specs.declared.result.Result.{Result}
use Rattle.std.specs.declared.result.Result.TheVariants.{Ok, Err}
use Rattle.hy_base.specs.declared.memory.Memory.{Memory}
use Rattle.hy_formula.specs.Trees.{Tree}
use Rattle.hy_finite.specs.declared.lengths.Lengths.{Lengths}
use Rattle.hy_finite.specs.Traces.{Trace}
use Rattle.dominance.specs.declared.order.Order.{Order}
use Rattle.dominance.specs.Answers.{IsOrderAt}
use Rattle.dominance.specs.Dominance.{DominatesAt}
use Rattle.fin_monitor.specs.Codes.{part_of}
use Rattle.fin_monitor.specs.Machines.{Machine}
use Rattle.fin_monitor.specs.Seen.{machine_of}
use Rattle.fin_monitor.proofs.CodeBits.{code-lt}
use Rattle.dominance.specs.Choices.{Row, row_code}
use Rattle.dominance.specs.Runs.{Pairing, Differ, exchanged, IsLeft}
use Rattle.dominance.proofs.Meaning.{codes-below}
use Rattle.dominance.proofs.Refuting.{same-pairing, left-over, left-exchanged}
use Rattle.dominance.proofs.order.Compared.order_at.Goals as goal

pub order-requires : goal.order-requires
order-requires g c =
    let m : Machine = machine_of c.args.self.now.monitor.now in
    let codes_are = c.in_ok-codes.ensures in
    record {
      upper = codes-below m (part_of m.atoms c.args.place) (λ x. code-lt _ m.atoms)
          c.args.self.now.first.now c.as_slice-2.result.now
          (c.as_slice-2.ensures ∙ c.in_ok-upper.ensures);
      lower = codes-below m (part_of m.atoms c.args.place) (λ x. code-lt _ m.atoms)
          c.args.self.now.second.now c.as_slice-3.result.now
          (c.as_slice-3.ensures ∙ c.in_ok-lower.ensures);
      upper_codes = codes-below m (row_code m) (λ x. code-lt _ m.atoms) c.as_slice.result.now
          c.as_slice-4.result.now (c.as_slice-4.ensures ∙ codes_are);
      lower_codes = codes-below m (row_code m) (λ x. code-lt _ m.atoms) c.as_slice.result.now
          c.as_slice-5.result.now (c.as_slice-5.ensures ∙ codes_are);
      same = ap (λ (l : List ℕ). length l) (c.as_slice-5.ensures ∙ sym c.as_slice-4.ensures);
    }

both : (rule : Lengths) (n : ℕ) (body : Tree) (place : ℕ) (t u : Trace) (claimed : Order)
    {P Q : Order → Type 0} (r : Result Order Memory)
    → ((made : Order) → P made
    → (made.over ≡ true) ↔ ((claimed.over ≡ true) × DominatesAt rule n body place t u))
    → ((made : Order) → Q made
    → (made.under ≡ true) ↔ ((claimed.under ≡ true) × DominatesAt rule n body place u t))
    → IfOk r P → IfOk r Q → IfOk r (IsOrderAt rule n body place t u claimed)
both rule n body place t u claimed (Ok made) f g p q = record { over = f made p; under = g made q }
both rule n body place t u claimed (Err e) f g p q = tt

pub returns : goal.returns
returns g c =
    let x = c.args.self.now in
    let m : Machine = machine_of x.monitor.now in
    let codes_are = c.in_ok-codes.ensures
    ∙ ap (λ (l : List Row). map (row_code m) l) c.as_slice.ensures in
    let same = same-pairing m x.lengths c.args.place c.in_ok-rows.rows x.first.now x.second.now
    c.as_slice-2.result.now c.as_slice-3.result.now
    c.as_slice-4.result.now c.as_slice-5.result.now
    (c.as_slice-2.ensures ∙ c.in_ok-upper.ensures)
    (c.as_slice-3.ensures ∙ c.in_ok-lower.ensures)
    (c.as_slice-4.ensures ∙ codes_are) (c.as_slice-5.ensures ∙ codes_are) in
    both x.lengths m.variables m.body c.args.place x.first.now x.second.now c.args.claimed
    c.order.result
    (λ made left. let P : Pairing → Type 0 = λ s. IsLeft s (Differ s) c.args.claimed.over made.over
    in left-over m x.monitor.now.right x.lengths c.in_ok-rows.rows x.first.now x.second.now
    c.requires.some_first c.requires.some_second c.args.place c.requires.place c.requires.two
    c.in_ok-rows.ensures _ _ (subst P same left))
    (λ made left. let P : Pairing → Type 0 =
    λ s. IsLeft s (Differ (exchanged s)) c.args.claimed.under made.under in
    left-over m x.monitor.now.right x.lengths c.in_ok-rows.rows x.second.now x.first.now
    c.requires.some_second c.requires.some_first c.args.place c.requires.place c.requires.two
    c.in_ok-rows.ensures _ _ (left-exchanged m x.lengths c.args.place c.in_ok-rows.rows
    x.first.now x.second.now _ _ (subst P same left)))
    c.order.ensures.over c.order.ensures.under

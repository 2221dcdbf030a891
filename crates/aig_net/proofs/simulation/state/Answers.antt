use Rattle.std.proofs.Common.{◌≡◌, length, List, Bool, ◌++◌, take, drop, sym, ◌∙◌, ap, subst, arith, IsTrue}
use Rattle.std.proofs.Math.Seq.{take-append_seam}
use Rattle.aig_net.specs.Nets.{AllTrue}
use Rattle.hy_base.specs.Rows.{row}
use Rattle.aig_net.proofs.States.{no_state}
use Rattle.aig_net.proofs.simulation.state.Goals as goal

pub returns-else-are_true-clause-none : goal.returns-else-are_true-clause-none
returns-else-are_true-clause-none c =
    let long : length c.step.new.values ≡ c.in_ok-values.values.len =
    omega (arith, c.step.auto.values, c.deref_mut.ensures.len) in
    let same : c.deref.result.now ≡ c.step.new.values =
    c.deref.ensures.value ∙ ap (λ n. take n
    (c.step.new.values ++ drop (length c.step.new.values) c.in_ok-values.values.items))
    (sym long) ∙ take-append_seam c.step.new.values _ in
    let literals : c.as_slice.result.now ≡ c.args.net.now.constraints =
    c.as_slice.ensures ∙ c.constraints.ensures in
    let P : List Bool → Type 0 = λ x. AllTrue c.args.net.now.constraints (row x) →
    IsTrue c.are_true.result in
    let Q : List _ → Type 0 = λ x. AllTrue x (row c.deref.result.now) → IsTrue c.are_true.result in
    let told : P c.step.new.values = subst P same (subst Q literals c.are_true.ensures.1) in
    no_state _ c.variables.ensures.net _ _ _
    (omega (arith, long, c.variables.ensures.count, c.in_ok-values.ensures.len))
    c.step.ensures.right c.step.ensures.inputs c.step.ensures.latches
    (λ kept. let t : IsTrue c.are_true.result = told kept in let f = c.if-are_true.false in cc)

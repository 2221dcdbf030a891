use Rattle.std.proofs.Common.{◌≡◌, ℕ, ◌∙◌, List, length, map, nat_eq, sym, ap, subst, arith}
use Rattle.std.specs.List.{position_or_len}
use Rattle.aig_order.specs.Gates.{gate_at}
use Rattle.aig_order.specs.declared.gate.Gate.{Gate}
use Rattle.aiger_body.specs.declared.content.Content.{Content}
use Rattle.aiger_body.specs.declared.content.Latch.{Latch}
use Rattle.aiger_body.specs.Files.{content}
use Rattle.aiger_body.specs.Circuits.{renumbered}
use Rattle.aiger_body.specs.Outcomes.{circuit}
use Rattle.aiger_read.specs.Numbers.{numbered}
use Rattle.aiger_read.specs.Readings.{AreOf, renumbered_by, and_by}
use Rattle.aiger_read.proofs.Parts.{order_of, variables_few, inputs_long, same_parts, latches_are, ands_are, literals_are}
use Rattle.aiger_read.proofs.read.parts.Goals as goal

pub in_order-requires : goal.in_order-requires
in_order-requires c = order_of c.args.bytes.now c.args.body.now c.requires.body

pub new-requires : goal.new-requires
new-requires c = omega (arith, ap length c.as_slice.ensures, variables_few c.args.bytes.now c.args.body.now c.requires.body c.in_ok-variables.variables c.in_ok-variables.ensures)

pub overflow_cast-result : goal.overflow_cast-result
overflow_cast-result c = omega (arith, c.len.ensures, inputs_long c.args.bytes.now c.args.body.now c.requires.body, c.requires.body.fits.sum, c.requires.body.fits.top)

pub ands-requires : goal.ands-requires
ands-requires c =
    let P : List ℕ → Type 0 = λ o. AreOf o c.as_slice-gates.result.now in
    let Q : List Gate → Type 0 = λ gs. AreOf c.args.body.now.order gs in
    subst P (sym c.as_slice-2.ensures) (subst Q (sym c.as_slice-gates.ensures) (order_of c.args.bytes.now c.args.body.now c.requires.body))

pub returns : goal.returns
returns c =
    let bytes = c.args.bytes.now in
    let b = c.args.body.now in
    let h = b.header in
    let is = c.requires.body in
    let variables = c.in_ok-variables.variables in
    let are = c.in_ok-variables.ensures in
    let place : ℕ → ℕ = numbered c.in_ok-numbering.numbering in
    let placed : (v : ℕ) → place v ≡ position_or_len (nat_eq v) variables = λ v. c.in_ok-numbering.ensures v ∙ ap (position_or_len (nat_eq v)) c.as_slice.ensures in
    let literals = literals_are bytes b is c.args.names c.requires.names variables are place placed in
    same_parts _ (circuit h bytes)
    (c.len.ensures ∙ ap (λ (x : Content). length x.inputs) is.content.same)
    (c.in_ok-nexts.ensures ∙ ap (map (λ (l : Latch). renumbered_by place l.next)) c.as_slice-latches.ensures ∙ latches_are bytes b is c.args.names c.requires.names variables are place placed)
    (c.in_ok-resets.ensures ∙ ap (map (λ (l : Latch). l.reset)) c.as_slice-latches.ensures ∙ ap (λ (x : Content). map (λ (l : Latch). l.reset) x.latches) is.content.same)
    (c.in_ok-ands.ensures ∙ ap (λ gs. map (λ k. and_by place (gate_at gs k)) c.as_slice-2.result.now) c.as_slice-gates.ensures ∙ ap (map (λ k. and_by place (gate_at b.content.gates k))) c.as_slice-2.ensures ∙ ands_are bytes b is c.args.names c.requires.names variables are place placed)
    (c.in_ok-literals.ensures ∙ ap (map (renumbered_by place)) c.as_slice-3.ensures ∙ literals b.content.outputs ∙ ap (λ (x : Content). map (renumbered (content h bytes)) x.outputs) is.content.same)
    (c.in_ok-literals-2.ensures ∙ ap (map (renumbered_by place)) c.as_slice-4.ensures ∙ literals b.content.constraints ∙ ap (λ (x : Content). map (renumbered (content h bytes)) x.constraints) is.content.same)
    (c.in_ok-literals-3.ensures ∙ ap (map (renumbered_by place)) c.as_slice-5.ensures ∙ literals b.content.fairs ∙ ap (λ (x : Content). map (renumbered (content h bytes)) x.fairs) is.content.same)
    c.requires.names.inputs
    c.requires.names.latches
    c.requires.names.outputs

use Rattle.std.proofs.Common.{ℕ, ◌+◌, ◌≤◌, List, length, sym, ap, subst, arith}
use Rattle.std.proofs.lemmas.List.{length-map}
use Rattle.aig_net.specs.declared.parts.NetParts.{NetParts}
use Rattle.aig_net.specs.Nets.{IsNet}
use Rattle.aiger_body.specs.declared.body.Body.{Body}
use Rattle.aiger_body.specs.declared.content.Latch.{Latch}
use Rattle.aiger_body.specs.Bodies.{IsBody}
use Rattle.aiger_body.specs.Circuits.{renumbered}
use Rattle.aiger_body.specs.Files.{content}
use Rattle.aiger_read.specs.declared.names.Names.{Names}
use Rattle.aiger_read.specs.Naming.{AreNamed}
use Rattle.aiger_read.specs.Readings.{AreParts}
use Rattle.aiger_read.proofs.Clear.{counted_few, used_few, inputs_many, latches_many, gates_many, outputs_many, constraints_many, fairs_many}
use Rattle.aiger_read.proofs.Outcomes.{IsClear, circuit_net}
use Rattle.aiger_read.proofs.Parts.{ands_few}
use Rattle.aiger_read.proofs.read.read_aiger.Goals as goal

module _ (bytes : List ℕ) (b : Body) (is : IsBody bytes b) (found : Names) (named : AreNamed b.header bytes found) (parts : NetParts) (are : AreParts bytes b parts) where
  clear : IsClear b.header bytes
  clear = record { lines = is.content.lines; uses = is.content.uses; cycles = is.order.clear; symbols = named.clear }

  net : IsNet parts
  net = let P : NetParts → Type 0 = λ p. IsNet p in subst P (sym are) (circuit_net b.header bytes clear)

  few : parts.inputs + length parts.latches + length parts.ands ≤ 1048576
  few = omega (
    arith,
    ap (λ (p : NetParts). p.inputs) are,
    ap (λ (p : NetParts). length p.latches) are,
    ap (λ (p : NetParts). length p.ands) are,
    inputs_many b.header bytes,
    latches_many b.header bytes,
    gates_many b.header bytes,
    length-map (content b.header bytes).latches (λ (l : Latch). renumbered (content b.header bytes) l.next),
    ands_few b.header bytes,
    is.fits.sum,
    is.fits.top,
  )

  literals : length parts.outputs + length parts.constraints + length parts.fairs ≤ length bytes
  literals = omega (
    arith,
    ap (λ (p : NetParts). length p.outputs) are,
    ap (λ (p : NetParts). length p.constraints) are,
    ap (λ (p : NetParts). length p.fairs) are,
    length-map (content b.header bytes).outputs (renumbered (content b.header bytes)),
    length-map (content b.header bytes).constraints (renumbered (content b.header bytes)),
    length-map (content b.header bytes).fairs (renumbered (content b.header bytes)),
    outputs_many b.header bytes,
    constraints_many b.header bytes,
    fairs_many b.header bytes,
    used_few b.header bytes,
    counted_few b.header bytes is.content.lines,
  )

pub new-requires-clause-net : goal.new-requires-clause-net
new-requires-clause-net c = net c.args.bytes.now c.in_ok-body.body c.in_ok-body.ensures c.in_ok-names.names c.in_ok-names.ensures c.in_ok-parts.parts c.in_ok-parts.ensures

pub new-requires-clause-room : goal.new-requires-clause-room
new-requires-clause-room c = omega (arith, few c.args.bytes.now c.in_ok-body.body c.in_ok-body.ensures c.in_ok-names.names c.in_ok-names.ensures c.in_ok-parts.parts c.in_ok-parts.ensures)

pub returns-clause-variables : goal.returns-clause-variables
returns-clause-variables c =
    let P : NetParts → Type 0 = λ p. p.inputs + length p.latches + length p.ands ≤ 1048576 in
    subst P (sym c.new.ensures) (few c.args.bytes.now c.in_ok-body.body c.in_ok-body.ensures c.in_ok-names.names c.in_ok-names.ensures c.in_ok-parts.parts c.in_ok-parts.ensures)

pub returns-clause-literals : goal.returns-clause-literals
returns-clause-literals c =
    let P : NetParts → Type 0 = λ p. length p.outputs + length p.constraints + length p.fairs ≤ length c.args.bytes.now in
    subst P (sym c.new.ensures) (literals c.args.bytes.now c.in_ok-body.body c.in_ok-body.ensures c.in_ok-names.names c.in_ok-names.ensures c.in_ok-parts.parts c.in_ok-parts.ensures)

use Rattle.std.proofs.Common.{◌≡◌, ◌+◌, ℕ, List, map, sym, subst, arith}
use Rattle.fin_monitor.specs.declared.variable_parts.VariableParts.{VariableParts}
use Rattle.hy_formula.specs.Atoms.{plain_atom}
use Rattle.fin_monitor.specs.Parts.{AreParts}
use Rattle.fin_monitor.proofs.LowParts.{no-parts, parts-more}
use Rattle.fin_monitor.proofs.parts.parts_by_variable.Goals as goal

pub loop-v-init : goal.loop-v-init
loop-v-init c =
    let P : List VariableParts → Type 0 = λ l. AreParts l (map plain_atom c.args.atoms.now) 0 in
    subst P (sym c.new-made.ensures) (no-parts (map plain_atom c.args.atoms.now))

pub loop-v-preserved : goal.loop-v-preserved
loop-v-preserved c =
    let P : List VariableParts → Type 0 = λ l. AreParts l (map plain_atom c.args.atoms.now) (c.loop-v.v + 1) in
    subst P (sym c.in_ok-push.ensures.added)
    (parts-more c.loop-v.made c.in_ok-parts_of.field-0 (map plain_atom c.args.atoms.now) c.loop-v.v c.loop-v.invariant c.in_ok-parts_of.ensures)

pub returns : goal.returns
returns c =
    let end : c.loop-v.v ≡ c.args.vars = omega (arith, c.loop-v-test.false, c.loop-v.auto.v-end) in
    let P : ℕ → Type 0 = AreParts c.loop-v.made (map plain_atom c.args.atoms.now) in
    subst P end c.loop-v.invariant

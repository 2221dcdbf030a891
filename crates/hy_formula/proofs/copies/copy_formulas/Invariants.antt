use Rattle.std.proofs.Common.{◌≡◌, take}
use Rattle.hy_formula.specs.Formulas.{plain_formulas}
use Rattle.hy_formula.proofs.copies.copy_formulas.Given as goal

abbrev pub invariant-loop-formula : goal.invariant-loop-formula
invariant-loop-formula l = plain_formulas l.made ≡ plain_formulas (take l.formula-index l.formulas)

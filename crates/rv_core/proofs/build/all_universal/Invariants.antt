use Rattle.std.proofs.Common.{◌≡◌, ◌<◌, ℕ, Some, slice_get}
use Rattle.hy_formula.specs.declared.formula.Formula.{Formula}
use Rattle.rv_core.specs.Built.{IsUniversal}
use Rattle.rv_core.proofs.build.all_universal.Given as goal

-- the formulas before are universal
abbrev pub invariant-loop-i : goal.invariant-loop-i
invariant-loop-i l = (j : ℕ) (f : Formula) → j < l.i → slice_get l.formulas j ≡ Some f
    → IsUniversal f

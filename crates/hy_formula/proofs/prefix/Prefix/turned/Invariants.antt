use Rattle.std.proofs.Common.{◌≡◌, take, map, length}
use Rattle.hy_formula.specs.Quantifiers.{turned}
use Rattle.hy_formula.proofs.prefix.Prefix.turned.Given as goal

-- what is made is the front, turned
abbrev pub invariant-loop-quant : goal.invariant-loop-quant
invariant-loop-quant l = (l.list ≡ map turned (take l.quant-index l.quant-items)) × (length l.list ≡ l.quant-index)

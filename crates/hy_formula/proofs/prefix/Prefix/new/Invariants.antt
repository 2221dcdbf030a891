use Rattle.std.proofs.Common.{◌≡◌, take}
use Rattle.hy_formula.proofs.prefix.Prefix.new.Given as goal

-- what is made is the front
abbrev pub invariant-loop-quant : goal.invariant-loop-quant
invariant-loop-quant l = l.list ≡ take l.quant-index l.quants

use Rattle.std.proofs.Common.{◌≡◌, ◌++◌, map, take}
use Rattle.aig_net.specs.RunTexts.{digit}
use Rattle.aig_net.proofs.printing.push_digits.Given as goal

-- the digits so far have been added
abbrev pub invariant-loop-value : goal.invariant-loop-value
invariant-loop-value l = l.text ≡ l.fn.text ++ map digit (take l.value-index l.row)

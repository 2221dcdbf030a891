use Rattle.std.proofs.Common.{◌≡◌, ◌++◌, take}
use Rattle.rv_tool.specs.Texts.{spaced}
use Rattle.rv_tool.proofs.texts.push_spaced.Given as goal

-- the numbers so far have been added
abbrev pub invariant-loop-number : goal.invariant-loop-number
invariant-loop-number l = l.text ≡ l.fn.text ++ spaced (take l.number-index l.numbers)

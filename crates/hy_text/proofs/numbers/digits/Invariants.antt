use Rattle.std.proofs.Common.{◌≡◌, take}
use Rattle.std.specs.Str.Parse.{AllDigits, digits_value}
use Rattle.hy_text.proofs.numbers.digits.Given as goal

-- what has passed is digits, and their number
abbrev pub invariant-loop-b : goal.invariant-loop-b
invariant-loop-b l = AllDigits 10 (take l.b-index l.word) × (l.n ≡ digits_value 10 (take l.b-index l.word))

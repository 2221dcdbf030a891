use Rattle.std.proofs.Common.{◌≡◌, false, nat_eq, take}
use Rattle.std.specs.List.{All}
use Rattle.hy_text.proofs.cutting.cut.Given as goal

-- No byte that has passed is the one at which the text is cut.
abbrev pub invariant-loop-i : goal.invariant-loop-i
invariant-loop-i l = All (λ b. nat_eq b l.byte ≡ false) (take l.i l.text)

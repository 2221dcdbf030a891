use Rattle.std.proofs.Common.{◌≡◌, ◌++◌, take}
use Rattle.live_safe.proofs.making.add_all.Given as goal

-- those so far are added
abbrev pub invariant-loop-literal : goal.invariant-loop-literal
invariant-loop-literal l = l.made ≡ l.fn.made ++ take l.literal-index l.literals

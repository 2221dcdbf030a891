use Rattle.std.proofs.Common.{◌≡◌, ◌∷◌, ◌++◌, decimal, flat_map, take}
use Rattle.aiger_print.proofs.lines.push_others.Given as goal

abbrev pub invariant-loop-n : goal.invariant-loop-n
invariant-loop-n l = l.text ≡ l.fn.text ++ flat_map (λ n. 32 ∷ decimal n) (take l.n-index l.numbers)

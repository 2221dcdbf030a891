use Rattle.std.proofs.Common.{◌≡◌, ◌++◌, ◌∷◌, take, decimal}
use Rattle.std.specs.List.{flat_map}
use Rattle.chain_check.proofs.printing.push_numbers.Given as goal

abbrev pub invariant-loop-number : goal.invariant-loop-number
invariant-loop-number l =
    l.text ≡ l.fn.text ++ flat_map (λ x. 32 ∷ decimal x) (take l.number-index l.numbers)

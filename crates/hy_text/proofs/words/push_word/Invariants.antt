use Rattle.std.proofs.Common.{◌≡◌, ℕ, List, ◌++◌, nat_eq, true, map, drop}
use Rattle.hy_text.specs.Joined.{pieces}
use Rattle.hy_text.specs.Sets.{printed_set}
use Rattle.hy_text.proofs.words.push_word.Given as goal

-- what is printed so far, and what is left
abbrev pub invariant-loop-i : goal.invariant-loop-i
invariant-loop-i l = (made : List ℕ) × (l.out ≡ l.initial.out ++ made) × (made ++ pieces (nat_eq l.i 0) 59 (map (printed_set l.names) (drop l.i l.letters)) ≡ pieces true 59 (map (printed_set l.names) l.letters))

use Rattle.std.proofs.Common.{◌≡◌, ℕ, List, ◌++◌, true, map}
use Rattle.hy_text.specs.Joined.{pieces}
use Rattle.hy_text.specs.Names.{spelled}
use Rattle.hy_text.specs.Sets.{members_of}
use Rattle.hy_text.proofs.Printing.{NamesLeft}
use Rattle.hy_text.proofs.sets.push_set.Given as goal

-- what is printed so far, and what is left
abbrev pub invariant-loop-i : goal.invariant-loop-i
invariant-loop-i l = (made : List ℕ) × (l.out ≡ l.initial.out ++ made) × NamesLeft l.names l.letter (pieces true 44 (map spelled (members_of l.names l.letter))) l.i l.is_first made

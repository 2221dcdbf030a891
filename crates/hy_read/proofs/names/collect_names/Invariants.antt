use Rattle.std.proofs.Common.{◌≡◌, ◌≤◌, ◌-◌, ◌++◌, ℕ, List, length}
use Rattle.hy_read.specs.Parses.{AreLeft}
use Rattle.hy_read.specs.Results.{names_of}
use Rattle.hy_read.specs.Tokens.{Token}
use Rattle.hy_read.proofs.names.collect_names.Given as goal

-- the names so far, and the tokens that are left
abbrev pub invariant-loop-next : goal.invariant-loop-next
invariant-loop-next l = record {
  collected : (tokens : List Token) → AreLeft l.text 0 tokens → (rest : List Token) × AreLeft l.text l.at rest × (names_of l.initial.names tokens ≡ names_of l.names rest);
  kept : (more : List (List ℕ)) × (l.names ≡ l.initial.names ++ more);
  within : l.at ≤ length l.text;
}

abbrev pub decreases-loop-next : goal.decreases-loop-next
decreases-loop-next l = length l.text - l.at

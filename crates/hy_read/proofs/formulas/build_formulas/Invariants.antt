use Rattle.std.proofs.Common.{◌≡◌, ◌≤◌, ◌-◌, List, Bool, zero, length}
use Rattle.std.specs.Option.{option_map}
use Rattle.hy_read.specs.Builds.{meaning_in, most_of_quantifiers}
use Rattle.hy_read.specs.Grammar.{AreFormulas, Read}
use Rattle.hy_read.specs.Parses.{AreLeft}
use Rattle.hy_read.specs.Results.{most_open}
use Rattle.hy_read.specs.Tokens.{Token}
use Rattle.hy_read.proofs.BuildingFormulas.{Progress}
use Rattle.hy_read.proofs.formulas.build_formulas.Given as goal

-- the formulas so far, and those that are left
abbrev pub invariant-loop-i : goal.invariant-loop-i
invariant-loop-i l = record {
  built : (many : Bool) (fs : List Read) (tokens : List Token) → AreLeft l.text 0 tokens → AreFormulas (meaning_in (option_map (λ n. n.now) l.names)) many fs tokens → length fs ≡ l.count → most_of_quantifiers fs ≤ 8 → most_open zero tokens ≤ 200 → Progress (option_map (λ n. n.now) l.names) many l.text l.at l.formulas (l.count - l.i) fs;
  within : l.at ≤ length l.text;
}

use Rattle.std.proofs.Common.{◌≡◌, ◌≤◌, ◌-◌, List, ◌++◌, length, map}
use Rattle.hy_read.specs.Grammar.{Quantifier, quantifier_tokens}
use Rattle.hy_read.specs.Headings.{NoWord}
use Rattle.hy_read.specs.Parses.{AreLeft}
use Rattle.hy_read.specs.Tokens.{Token}
use Rattle.hy_read.proofs.HeadsOfFormulas.{IsHeadedSoFar}
use Rattle.hy_read.proofs.heading.read_heading.Given as goal

-- the quantifiers so far, and those that are left
abbrev pub invariant-loop-head : goal.invariant-loop-head
invariant-loop-head l = record {
  headed : (qs : List Quantifier) (body : List Token) → AreLeft l.text l.initial.at (quantifier_tokens qs ++ body) → NoWord body → IsHeadedSoFar l.text l.at l.quants.items (map (λ v. v.now) l.variables.items) qs body;
  within : l.at ≤ length l.text;
  alike : length l.quants.items ≡ length l.variables.items;
}

abbrev pub decreases-loop-head : goal.decreases-loop-head
decreases-loop-head l = length l.text - l.at

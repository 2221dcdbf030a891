use Rattle.std.proofs.Common.{◌≤◌, ◌-◌, List, length}
use Rattle.hy_read.specs.Counting.{IsFew}
use Rattle.hy_read.specs.Moves.{IsPlaced}
use Rattle.hy_read.specs.Scanning.{Span}
use Rattle.hy_read.specs.Surveys.{IsPassed}
use Rattle.hy_read.proofs.Stepping.{Reached}
use Rattle.hy_read.proofs.survey.survey.Given as goal

-- the tokens before the place were passed
abbrev pub invariant-loop-next : goal.invariant-loop-next
invariant-loop-next l = record {
  passed : (front : List Span) × Reached l.text l.at front × IsPassed l.many front l.tokens l.stage l.counts l.scope;
  placed : IsPlaced l.stage l.counts.parens;
  few : IsFew l.at l.counts;
  below : l.tokens ≤ l.at;
  within : l.at ≤ length l.text;
}

abbrev pub decreases-loop-next : goal.decreases-loop-next
decreases-loop-next l = length l.text - l.at

use Rattle.std.proofs.Common.{◌≡◌, ◌-◌, ◌≤◌, length}
use Rattle.cert_text.specs.InductionLines.{SaysFact}
use Rattle.induction_judge.specs.Reading.{AreStartFacts}
use Rattle.induction_judge.proofs.Walking.{AreLeft}
use Rattle.induction_judge.proofs.facts.take_facts.Given as goal

-- What the lines say are the facts taken and those that the lines left say.
abbrev pub invariant-loop-i : goal.invariant-loop-i
invariant-loop-i l = record {
  left : AreLeft (SaysFact l.clauses) l.text l.count l.left (l.count - l._i) l.facts;
  starts : AreStartFacts l.latches l.facts;
  few : length l.facts ≡ l._i;
  shorter : length l.left ≤ length l.text;
}

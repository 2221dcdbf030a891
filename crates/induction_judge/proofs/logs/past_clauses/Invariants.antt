use Rattle.std.proofs.Common.{◌≡◌, ◌+◌, ◌-◌, ◌<◌, ◌≤◌, [], length}
use Rattle.induction_judge.proofs.Ending.{AreGoing}
use Rattle.induction_judge.proofs.logs.past_clauses.Given as goal

-- The log refutes where what is left goes on; each clause that is known took a line.
abbrev pub invariant-loop-i : goal.invariant-loop-i
invariant-loop-i l = record {
  same : l.checker.variables ≡ l.initial.checker.variables;
  few : length l.checker.clauses + length l.left ≤ length l.initial.checker.clauses + length l.text;
  shorter : length l.left ≤ length l.text;
  going : AreGoing l.initial.checker.variables l.initial.checker.clauses l.text l.count l.left (l.count - l._i)
      l.checker.clauses ((0 < l._i) × (l.clause ≡ []));
}

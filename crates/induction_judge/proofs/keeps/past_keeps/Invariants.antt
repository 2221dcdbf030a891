use Rattle.std.proofs.Common.{◌≤◌, List, drop, length}
use Rattle.chain_check.specs.declared.logs.Learned.{Learned}
use Rattle.cnf_frames.specs.Queries.{groups}
use Rattle.cert_text.specs.Lines.{Line}
use Rattle.induction_judge.specs.Keeps.{AreKeepsRefuted}
use Rattle.induction_judge.specs.Reading.{AreLogs}
use Rattle.induction_judge.proofs.keeps.past_keeps.Given as goal

-- The logs of the groups so far refute their queries, and the others are left.
abbrev pub invariant-loop-group : goal.invariant-loop-group
invariant-loop-group l = record {
  shorter : length l.left ≤ length l.text;
  going : (logs : List (List Learned)) (rest : List Line) → AreLogs l.text logs rest
      → groups l.facts ≤ length logs → AreLogs l.left (drop l.group logs) rest
      × AreKeepsRefuted l.safe l.facts logs l.group;
}

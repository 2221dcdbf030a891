use Rattle.std.proofs.Common.{◌≡◌, ◌+◌, ◌≤◌, List, drop, length}
use Rattle.chain_check.specs.declared.logs.Learned.{Learned}
use Rattle.cnf_frames.specs.Queries.{groups}
use Rattle.cert_text.specs.Lines.{Line}
use Rattle.induction_judge.specs.Asking.{AreRefuted, places}
use Rattle.induction_judge.specs.Reading.{AreLogs}
use Rattle.induction_judge.proofs.queries.past_logs.Given as goal

-- The logs before the place refute their queries, and the others are left.
abbrev pub invariant-loop-place : goal.invariant-loop-place
invariant-loop-place l = record {
  shorter : length l.left ≤ length l.text;
  going : (logs : List (List Learned)) (rest : List Line) → AreLogs l.text logs rest
      → length logs ≡ places l.facts l.depth
      → AreLogs l.left (drop (groups l.facts + l.place) logs) rest
      × AreRefuted l.safe l.facts l.depth logs (groups l.facts + l.place);
}

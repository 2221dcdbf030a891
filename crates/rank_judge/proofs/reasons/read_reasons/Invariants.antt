use Rattle.std.proofs.Common.{◌≡◌, ◌≢◌, ◌≤◌, ℕ, List, [], length, Option}
use Rattle.cert_text.specs.Lines.{Line}
use Rattle.cert_text.specs.RankLines.{SaysReason}
use Rattle.rank_judge.specs.Fronts.{AreFirst}
use Rattle.rank_judge.proofs.Walking.{IsWalked}
use Rattle.rank_judge.proofs.reasons.read_reasons.Given as goal

abbrev pub invariant-loop-rank : goal.invariant-loop-rank
invariant-loop-rank g l = record {
  read : (reasons : List (Option ℕ)) (rest : List Line) → length reasons ≡ l.count → rest ≢ []
      → AreFirst SaysReason l.text reasons rest
      → IsWalked SaysReason (λ front. l.proof.reasons ≡ front) reasons rest l._rank l.left;
  entries : l.proof.entries ≡ l.fn.proof.entries;
  shorter : length l.left ≤ length l.text;
}

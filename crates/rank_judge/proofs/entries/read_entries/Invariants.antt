use Rattle.std.proofs.Common.{◌≡◌, ◌≢◌, ◌≤◌, List, [], length}
use Rattle.rank_proofs.specs.declared.rank_proof.ProofBranch.{ProofBranch}
use Rattle.cert_text.specs.Lines.{Line}
use Rattle.cert_text.specs.RankLines.{SaysBranch}
use Rattle.rank_judge.specs.Fronts.{AreFirst}
use Rattle.rank_judge.specs.Kept.{AreOf}
use Rattle.rank_judge.proofs.Walking.{IsWalked}
use Rattle.rank_judge.proofs.entries.read_entries.Given as goal

abbrev pub invariant-loop-branch : goal.invariant-loop-branch
invariant-loop-branch g l = record {
  read : (branches : List ProofBranch) (rest : List Line) → length branches ≡ l.count → rest ≢ []
      → AreFirst SaysBranch l.text branches rest
      → IsWalked SaysBranch (λ front. AreOf front l.proof.entries) branches rest l._branch l.left;
  reasons : l.proof.reasons ≡ l.fn.proof.reasons;
  shorter : length l.left ≤ length l.text;
}

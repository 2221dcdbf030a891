-- What stands at the front of a text, and the lines behind it.
use Rattle.std.specs.Prelude.{◌≡◌, ℕ, List, ◌++◌, length}
use Rattle.hy_text.specs.Lines.{lines_of}
use Rattle.rank_proofs.specs.declared.rank_proof.RankProof.{RankProof}
use Rattle.cert_text.specs.Lines.{Line, Say}
use Rattle.cert_text.specs.RankLines.{SaysBranch, SaysReason, SayRankProof}

-- Lines that say the values stand first, and then the rest.
pub record AreFirst {A : Type 0} (Says : Line → A → Type 0) (text : List ℕ) (values : List A)
    (rest : List Line) : Type 0 where
  pub lines : List Line
  pub parts : lines_of text ≡ lines ++ rest
  pub said : Say Says lines values

-- The lines of the rank proof stand first, and then the rest.
pub record IsFirst (text : List ℕ) (proof : RankProof) (rest : List Line) : Type 0 where
  pub lines : List Line
  pub parts : lines_of text ≡ lines ++ rest
  pub said : SayRankProof lines proof

-- The first line of the proof says these counts, and this text stands behind it.
pub record IsHead (proof : RankProof) (rest : List Line) (branches ranks : ℕ) (text : List ℕ)
    : Type 0 where
  pub branches_many : length proof.branches ≡ branches
  pub ranks_many : length proof.reasons ≡ ranks
  pub reasons : List Line
  pub entries : AreFirst SaysBranch text proof.branches (reasons ++ rest)
  pub ranks_said : Say SaysReason reasons proof.reasons

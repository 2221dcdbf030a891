-- What comes of a proof by induction at the front of a text.
use Rattle.std.specs.Prelude.{◌≡◌, ℕ, suc, Bool, List, [], ◌∷◌, ◌++◌, length, Option, Some, None}
use denote.Ref.{Bor}
use Rattle.chain_check.specs.declared.logs.Learned.{Learned}
use Rattle.live_safe.specs.declared.safe_net.SafeNet.{SafeNet}
use Rattle.cnf_frames.specs.declared.facts.Fact.{Fact}
use Rattle.cnf_frames.specs.declared.inductions.InductionProof.{InductionProof}
use Rattle.cnf_frames.specs.Queries.{groups}
use Rattle.cert_text.specs.InductionLines.{SaysFact, SayLogs}
use Rattle.cert_text.specs.Lines.{Line}
use Rattle.induction_judge.specs.Asking.{AreRefuted, places}
use Rattle.induction_judge.specs.Good.{IsGoodInduction}
use Rattle.induction_judge.specs.Reading.{AreLines, AreLogs, AreSaid}

-- At the front of the text stand the facts and the logs of the proof, whose head gave these counts,
-- and these lines behind them.
pub record IsBody (clauses : Bool) (text : List ℕ) (depth count : ℕ) (proof : InductionProof)
    (rest : List Line) : Type 0 where
  pub depth_is : depth ≡ proof.depth
  pub count_is : count ≡ length proof.inv
  pub logs : List Line
  pub facts : AreSaid (SaysFact clauses) text count proof.inv (logs ++ rest)
  pub refuted : SayLogs logs (proof.keep ++ proof.base ++ proof.step ∷ [])
  pub keeps : length proof.keep ≡ groups proof.inv
  pub bases : length proof.base ≡ suc proof.depth

-- The proof is good, with this text behind it; or it is not.
abbrev pub IsJudged : SafeNet → InductionProof → List Line → Option (Bor (List ℕ)) → Type 0
IsJudged safe proof rest None = ¬ IsGoodInduction safe proof
IsJudged safe proof rest (Some left) = IsGoodInduction safe proof × AreLines left.now rest

-- The logs at the front of the text refute the queries of a proof with these facts and of this depth,
-- with this text behind them; or they do not.
abbrev pub AreLogsJudged : SafeNet → List Fact → ℕ → List ℕ → Option (Bor (List ℕ)) → Type 0
AreLogsJudged safe facts depth text None =
    (logs : List (List Learned)) (rest : List Line) → AreLogs text logs rest
    → length logs ≡ places facts depth → ¬ AreRefuted safe facts depth logs (length logs)
AreLogsJudged safe facts depth text (Some left) =
    (logs : List (List Learned)) (rest : List Line) → AreLogs text logs rest
    → length logs ≡ places facts depth
    → AreRefuted safe facts depth logs (length logs) × AreLines left.now rest

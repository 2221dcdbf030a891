-- What induction comes to, by cases.
use Rattle.std.specs.Prelude.{◌≡◌, ℕ, suc, ◌^◌, ◌<◌, ◌≤◌, Bool, true, false, List, length}
use Rattle.hy_base.specs.Limits.{most}
use Rattle.aig_net.specs.Executions.{Word}
use Rattle.live_safe.specs.declared.safe_net.SafeNet.{SafeNet}
use Rattle.live_safe.specs.declared.safe_net.Path.{Path}
use Rattle.live_safe.specs.Paths.{IsBadPath}
use Rattle.cnf_frames.specs.declared.facts.Fact.{Fact}
use Rattle.cnf_frames.specs.declared.queries.FrameError.{FrameError}
use Rattle.cnf_frames.specs.declared.queries.FrameError.TheVariants.{Limit as OfLimit, Memory as OfMemory}
use Rattle.cnf_frames.specs.declared.queries.Asked.{Asked}
use Rattle.cnf_frames.specs.declared.queries.Asked.TheVariants.{Base, Step}
use Rattle.cnf_frames.specs.Queries.{IsPast, IsWithin}
use Rattle.cnf_frames.specs.QueryPaths.{IsReached}
use Rattle.cnf_frames.specs.Proofs.{AreBases, AreBasesWithin, IsRefuted}
use Rattle.k_induct.specs.declared.verdict.SafeProof.{SafeProof}
use Rattle.k_induct.specs.declared.verdict.Verdict.{Verdict}
use Rattle.k_induct.specs.declared.verdict.Verdict.TheVariants.{Safe, Path as Found, Depth, Spent}
use Rattle.k_induct.specs.Replies.{IsAnswer, IsSpent}

-- no path of fewer steps from the start is bad
abbrev pub IsGoodBelow : SafeNet → ℕ → Type 0
IsGoodBelow safe k = (i : ℕ) → i < k → (word : Word) → ¬ IsBadPath safe i word

pub record IsSafeProof (safe : SafeNet) (facts : List Fact) (depth : ℕ)
    (proof : SafeProof) : Type 0 where
  pub within : proof.depth ≤ depth
  pub base : AreBases safe proof.depth proof.base
  pub step : IsRefuted safe (Step facts proof.depth) proof.step
  pub base_within : AreBasesWithin safe proof.depth
  pub step_within : IsWithin safe (Step facts proof.depth)
  pub good : (i : ℕ) (word : Word) → ¬ IsBadPath safe i word

-- The query with `step` is asked of k only where the one without has no answer.
abbrev pub IsAsked : SafeNet → List Fact → ℕ → Bool → Asked → Type 0
IsAsked safe facts k false asked = asked ≡ Base k
IsAsked safe facts k true asked = (asked ≡ Step facts k) × IsGoodBelow safe (suc k)

-- The query is one of those that induction with these facts comes to.
pub record IsMet (safe : SafeNet) (facts : List Fact) (depth k : ℕ) (step : Bool)
    (asked : Asked) : Type 0 where
  pub within : k ≤ depth
  pub reached : IsReached safe facts k
  pub asks : IsAsked safe facts k step asked

pub record IsShortest (safe : SafeNet) (depth : ℕ) (path : Path) : Type 0 where
  pub within : length path.inputs ≤ depth
  pub bad : IsAnswer safe (Base (length path.inputs)) path
  pub shorter : IsGoodBelow safe (length path.inputs)

pub record IsDeep (safe : SafeNet) (facts : List Fact) (depth : ℕ) (path : Path) : Type 0 where
  pub good : IsGoodBelow safe (suc depth)
  pub answers : IsAnswer safe (Step facts depth) path
  pub few : depth < 2 ^ length safe.net.latches

abbrev pub IsVerdict : SafeNet → List Fact → ℕ → ℕ → Verdict → Type 0
IsVerdict safe facts depth conflicts (Safe proof) = IsSafeProof safe facts depth proof
IsVerdict safe facts depth conflicts (Found path) = IsShortest safe depth path
IsVerdict safe facts depth conflicts (Depth path) = IsDeep safe facts depth path
IsVerdict safe facts depth conflicts (Spent k step log) =
    (asked : Asked) × IsMet safe facts depth k step asked × IsSpent safe asked conflicts log

-- a query that is to be asked is past the limit
abbrev pub IsStopped : SafeNet → List Fact → ℕ → FrameError → Type 0
IsStopped safe facts depth (OfLimit limit) =
    (k : ℕ) × (step : Bool) × (asked : Asked) × IsMet safe facts depth k step asked
    × IsPast safe asked limit.kind × (limit.limit ≡ most limit.kind)
IsStopped safe facts depth OfMemory = Unit {0}

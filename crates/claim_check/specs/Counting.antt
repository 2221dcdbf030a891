-- What is counted of a claim and of a list of lassos before evidence is judged, and where that stops.
use Rattle.std.specs.Prelude.{◌≡◌, ◌⊎◌, ℕ, ◌↔◌, List, Bool, IsTrue, Result, Ok, Err}
use Rattle.hy_base.specs.declared.limit.Limit.{Limit as Past}
use Rattle.hy_bits.specs.Letter.{Letter}
use Rattle.hy_formula.specs.Lassos.{Lasso}
use Rattle.hy_formula.specs.Quantifiers.{Each}
use Rattle.hy_lasso.specs.Joint.{IsJudged}
use Rattle.hy_lasso.specs.Limits.{joint_limit}
use Rattle.ea_reduce.specs.Refused.{HasFewMaps, HasManyMaps, instances_limit}
use Rattle.ea_reduce.specs.Plans.{PlainPlan}
use Rattle.rank_proofs.specs.Counts.{HasFewMembers, HasManyMembers, closure_limit}
use Rattle.live_safe.specs.declared.safe_net.SafeNet.{SafeNet}
use Rattle.cnf_frames.specs.declared.inductions.InductionProof.{InductionProof}
use Rattle.cnf_frames.specs.declared.queries.FrameError.TheVariants as frame
use Rattle.cert_text.specs.Certificates.{Certificate}
use Rattle.induction_judge.specs.Good.{IsRefusedInduction}
use Rattle.claim_check.specs.declared.error.CertError.{CertError}
use Rattle.claim_check.specs.declared.error.CertError.TheVariants.{Prefix, Limit, Name, Text, Memory}
use Rattle.claim_check.specs.Claims.{Claim}
use Rattle.claim_check.specs.Good.{IsGood}
use Rattle.claim_check.specs.Verdicts.{AnyOf, AreTaken, IsLarge, IsSmall, RefusesClass, RefusesName, RefusesQuery, closures_of, plans_of}

-- Nothing is too much.
pub record IsWithin (claim : Claim) (list : List (Lasso Letter)) : Type 0 where
  pub taken : AreTaken claim
  pub instances : Each HasFewMaps (plans_of claim)
  pub members : Each IsSmall (closures_of claim)
  pub positions : IsJudged list

-- The limit is the first one that is passed.
pub data IsPast (claim : Claim) (list : List (Lasso Letter)) : Past → Type 0 where
  many_instances : AreTaken claim → AnyOf HasManyMaps (plans_of claim)
      → IsPast claim list instances_limit
  many_members : AreTaken claim → Each HasFewMaps (plans_of claim)
      → AnyOf IsLarge (closures_of claim) → IsPast claim list closure_limit
  many_positions : AreTaken claim → Each HasFewMaps (plans_of claim)
      → Each IsSmall (closures_of claim) → ¬ IsJudged list → IsPast claim list joint_limit

-- why no evidence is judged; want of memory needs no cause
abbrev pub Stops : List (List ℕ) → Claim → List (Lasso Letter) → CertError → Type 0
Stops names claim list (Prefix which found) = RefusesClass claim which found
Stops names claim list (Limit limit) = IsPast claim list limit
Stops names claim list (Name name twice) = IsWithin claim list × RefusesName names claim name twice
Stops names claim list (Text line) = ⊥
Stops names claim list Memory = Unit {0}

-- why a plan whose maps are within their limit is not judged with lassos
abbrev pub StopsPlan : PlainPlan → List (Lasso Letter) → CertError → Type 0
StopsPlan plan list (Limit limit) =
    (HasManyMembers plan × (limit ≡ closure_limit))
    ⊎ (HasFewMembers plan × (¬ IsJudged list) × (limit ≡ joint_limit))
StopsPlan plan list Memory = Unit {0}
StopsPlan plan list _ = ⊥

-- why evidence was not judged, of which a query is refused so; want of memory needs no cause
abbrev pub IsRefusalBy : (Past → Type 0) → CertError → Type 0
IsRefusalBy Refuses (Limit limit) = Refuses limit
IsRefusalBy Refuses Memory = Unit {0}
IsRefusalBy Refuses _ = ⊥

-- what is found of evidence that is good so
abbrev pub IsFound : Type 0 → (Past → Type 0) → Result Bool CertError → Type 0
IsFound Good Refuses (Ok good) = IsTrue good ↔ Good
IsFound Good Refuses (Err e) = IsRefusalBy Refuses e

-- what is answered to evidence
abbrev pub IsWeighed : List (List ℕ) → Claim → Certificate → Result Bool CertError → Type 0
IsWeighed names claim c = IsFound (IsGood names claim c) (RefusesQuery names claim c)

-- why a proof by induction was not judged
abbrev pub IsQueryRefusal : SafeNet → InductionProof → CertError → Type 0
IsQueryRefusal safe proof =
    IsRefusalBy (λ limit. IsRefusedInduction safe proof (frame.Limit limit))

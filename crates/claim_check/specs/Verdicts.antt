-- What is answered to the bytes of a certificate: a text, the classes of the formulas, the counts
-- of instances, members and positions, and the names are asked in this order; then whether the
-- certificate is good.
use Rattle.std.specs.Prelude.{◌≡◌, ◌≢◌, ℕ, ◌<◌, ◌≤◌, ◌⊎◌, ◌↔◌, Bool, false, IsTrue, List, [], ◌∷◌, map, length, Result, Ok, Err}
use Rattle.hy_base.specs.declared.limit.Limit.{Limit as Past}
use Rattle.hy_formula.specs.Classes.{class_of}
use Rattle.hy_formula.specs.Formulas.{Plain}
use Rattle.hy_formula.specs.Quantifiers.{Each}
use Rattle.hy_formula.specs.declared.classes.Class.{Class}
use Rattle.hy_formula.specs.declared.classes.Class.TheVariants as class
use Rattle.hy_lasso.specs.Joint.{IsJudged}
use Rattle.hy_lasso.specs.LassoLines.{Spelled}
use Rattle.hy_lasso.specs.Limits.{joint_limit}
use Rattle.ltl_closure.specs.Bodies.{body_nodes}
use Rattle.ltl_closure.specs.Nodes.{Node}
use Rattle.ea_reduce.specs.Fulfilled.{IsOfOneKind}
use Rattle.ea_reduce.specs.Plans.{PlainPlan}
use Rattle.ea_reduce.specs.Refused as plans
use Rattle.ea_reduce.specs.Refused.{HasFewMaps, HasManyMaps, instances_limit}
use Rattle.rank_proofs.specs.Counts.{closure_limit, most_members}
use Rattle.rank_proofs.specs.Proofs.{plan_nodes}
use Rattle.aig_net.specs.declared.signals.Signal.{Signal}
use Rattle.net_names.specs.Names.{AreSignals, IsFirstBad}
use Rattle.live_safe.specs.declared.safe_net.SafeNet.{SafeNet}
use Rattle.cnf_frames.specs.declared.inductions.InductionProof.{InductionProof}
use Rattle.cnf_frames.specs.declared.queries.FrameError.{FrameError}
use Rattle.cnf_frames.specs.declared.queries.FrameError.TheVariants as frame
use Rattle.free_net.specs.FreeNets.{plan_safe}
use Rattle.formula_nets.specs.Posed as posed
use Rattle.formula_nets.specs.Posed.{is_existential}
use Rattle.cert_text.specs.Certificates.{Certificate, Refutation, model, ranks, free, refuted, both, induction, runs}
use Rattle.cert_text.specs.Texts.{IsText, IsFaultAt}
use Rattle.claim_check.specs.declared.error.CertError.{CertError}
use Rattle.claim_check.specs.declared.error.CertError.TheVariants.{Prefix, Limit, Name, Text, Memory}
use Rattle.claim_check.specs.Claims.{Claim, formula, implication, equivalence, circuit, question_of}
use Rattle.induction_judge.specs.Good.{IsRefusedInduction}
use Rattle.claim_check.specs.Good.{lassos_over, reduction, plan_against, safe_net, WantsInduction, IsGood}

-- ---- classes

-- The classes of the formulas are taken.
abbrev pub AreTaken : Claim → Type 0
AreTaken (formula f) = class_of f.prefix ≢ class.Other
AreTaken (implication f g) = IsOfOneKind f.prefix × IsOfOneKind g.prefix
AreTaken (equivalence f g) = IsOfOneKind f.prefix × IsOfOneKind g.prefix
AreTaken (circuit net f) = IsOfOneKind f.prefix

-- The class of the first formula that is not taken: of the second of two, or of another.
abbrev pub RefusesClass : Claim → Bool → Class → Type 0
RefusesClass (formula f) which found =
    (which ≡ false) × (found ≡ class.Other) × (class_of f.prefix ≡ class.Other)
RefusesClass (implication f g) which found = plans.RefusesClass f.prefix g.prefix which found
RefusesClass (equivalence f g) which found = plans.RefusesClass f.prefix g.prefix which found
RefusesClass (circuit net f) which found =
    (which ≡ false) × (class_of f.prefix ≡ found) × (¬ IsOfOneKind f.prefix)

-- ---- counts

-- the plans whose instances are counted
abbrev pub plans_of : Claim → List PlainPlan
plans_of (formula f) = reduction f ∷ []
plans_of (implication f g) = plan_against f g ∷ []
plans_of (equivalence f g) = plan_against f g ∷ plan_against g f ∷ []
plans_of (circuit net f) = []

-- the closures whose members are counted
abbrev pub closures_of : Claim → List (List Node)
closures_of (circuit net f) = body_nodes f.body (is_existential f.prefix) ∷ []
closures_of claim = map plan_nodes (plans_of claim)

-- all lassos of the certificate, whatever they are to show
abbrev pub spelled_in : Certificate → List Spelled
spelled_in (model side lassos) = lassos
spelled_in (runs holds lassos tuple) = lassos
spelled_in _ = []

-- P holds of some element.
abbrev pub AnyOf : {A : Type 0} → (A → Type 0) → List A → Type 0
AnyOf P [] = ⊥
AnyOf P (x ∷ xs) = P x ⊎ AnyOf P xs

abbrev pub IsSmall : List Node → Type 0
IsSmall nodes = length nodes ≤ most_members

abbrev pub IsLarge : List Node → Type 0
IsLarge nodes = most_members < length nodes

-- ---- names

-- Each name of the formula stands for a literal of the circuit.
abbrev pub AreNamed : List (List ℕ) → Claim → Type 0
AreNamed names (circuit net f) = (signals : List Signal) × AreSignals net names f.body signals
AreNamed names _ = Unit {0}

-- The first name of the formula that does not.
abbrev pub RefusesName : List (List ℕ) → Claim → ℕ → Bool → Type 0
RefusesName names (circuit net f) name twice = IsFirstBad net names f.body name twice
RefusesName names _ name twice = ⊥

-- ---- queries

-- A query that the proof is to refute is past the limit; rank proofs have none.
abbrev pub RefusesIn : PlainPlan → Refutation → Past → Type 0
RefusesIn plan (ranks proof) = λ limit. ⊥
RefusesIn plan (free proof) =
    λ limit. IsRefusedInduction (plan_safe plan) proof (frame.Limit limit)

-- So is one of two proofs.
abbrev pub RefusesEither : PlainPlan → Refutation → PlainPlan → Refutation → Past → Type 0
RefusesEither there one back two = λ limit. RefusesIn there one limit ⊎ RefusesIn back two limit

-- A query that the certificate is to refute is past the limit.
abbrev pub RefusesQuery : List (List ℕ) → Claim → Certificate → Past → Type 0
RefusesQuery names (formula f) (refuted proof) = RefusesIn (reduction f) proof
RefusesQuery names (implication f g) (refuted proof) = RefusesIn (plan_against f g) proof
RefusesQuery names (equivalence f g) (both one two) =
    RefusesEither (plan_against f g) one (plan_against g f) two
RefusesQuery names (circuit net f) (induction holds proof) = λ limit.
    WantsInduction f holds × ((signals : List Signal) × AreSignals net names f.body signals
    × IsRefusedInduction (safe_net net signals f) proof (frame.Limit limit))
RefusesQuery names _ _ = λ limit. ⊥

-- Why a proof by induction was not judged; want of memory needs no cause.
abbrev pub RefusesProof : SafeNet → Plain → Bool → InductionProof → FrameError → Type 0
RefusesProof safe f holds proof (frame.Limit limit) =
    WantsInduction f holds × IsRefusedInduction safe proof (frame.Limit limit)
RefusesProof safe f holds proof frame.Memory = Unit {0}

-- There is room for the safe net of a formula on a circuit.
abbrev pub HasRoom : List (List ℕ) → Claim → Type 0
HasRoom names (circuit net f) = posed.HasRoom net names f.prefix f.body
HasRoom names _ = Unit {0}

-- ---- what is answered to a certificate

-- Nothing is counted that is too much.
pub record IsCounted (names : List (List ℕ)) (claim : Claim) (c : Certificate) : Type 0 where
  pub taken : AreTaken claim
  pub instances : Each HasFewMaps (plans_of claim)
  pub members : Each IsSmall (closures_of claim)
  pub positions : IsJudged (lassos_over names (spelled_in c))

-- The limit is the first that is passed.
pub data PassesLimit (names : List (List ℕ)) (claim : Claim) (c : Certificate) : Past → Type 0 where
  many_instances : AreTaken claim → AnyOf HasManyMaps (plans_of claim)
      → PassesLimit names claim c instances_limit
  many_members : AreTaken claim → Each HasFewMaps (plans_of claim)
      → AnyOf IsLarge (closures_of claim)
      → PassesLimit names claim c closure_limit
  many_positions : AreTaken claim → Each HasFewMaps (plans_of claim)
      → Each IsSmall (closures_of claim) → ¬ IsJudged (lassos_over names (spelled_in c))
      → PassesLimit names claim c joint_limit
  large_query : {limit : Past} → IsCounted names claim c → RefusesQuery names claim c limit
      → PassesLimit names claim c limit

abbrev pub IsJudgement : List (List ℕ) → Claim → Certificate → Result Bool CertError → Type 0
IsJudgement names claim c (Ok good) =
    IsCounted names claim c × AreNamed names claim × (IsTrue good ↔ IsGood names claim c)
IsJudgement names claim c (Err (Prefix which found)) = RefusesClass claim which found
IsJudgement names claim c (Err (Limit limit)) = PassesLimit names claim c limit
IsJudgement names claim c (Err (Name name twice)) =
    IsCounted names claim c × RefusesName names claim name twice
IsJudgement names claim c (Err (Text line)) = ⊥
IsJudgement names claim c (Err Memory) = Unit {0}

-- ---- what is answered to bytes

-- The bytes spell a certificate, and this is the answer to it.
abbrev pub IsAnswered : List (List ℕ) → Claim → List ℕ → Result Bool CertError → Type 0
IsAnswered names claim bytes result =
    (c : Certificate) × IsText (question_of claim) bytes c × IsJudgement names claim c result

-- Want of memory needs no cause.
abbrev pub IsVerdict : List (List ℕ) → Claim → List ℕ → Result Bool CertError → Type 0
IsVerdict names claim bytes (Ok good) = IsAnswered names claim bytes (Ok good)
IsVerdict names claim bytes (Err (Text line)) = IsFaultAt (question_of claim) bytes line
IsVerdict names claim bytes (Err Memory) = Unit {0}
IsVerdict names claim bytes (Err e) = IsAnswered names claim bytes (Err e)

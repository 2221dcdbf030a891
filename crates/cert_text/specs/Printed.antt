-- Values that can be printed: numbers have at most ten digits, members ascend, no literal and no
-- number of a clause is 0, and logs are as many as the proof has queries.
use Rattle.std.specs.Prelude.{◌≡◌, ℕ, suc, ◌^◌, ◌<◌, ℤ, unsigned_abs, List, length, All, Option, IfSome}
use Rattle.std.specs.List.Sorted.{IsStrictlyIncreasing}
use Rattle.aig_net.specs.declared.run.Run.{Run}
use Rattle.chain_check.specs.declared.logs.Learned.{Learned}
use Rattle.cnf_frames.specs.declared.facts.Fact.{Fact}
use Rattle.cnf_frames.specs.declared.facts.Fact.TheVariants.{Zero, One, Same, Differ, AnyOf}
use Rattle.cnf_frames.specs.declared.inductions.InductionProof.{InductionProof}
use Rattle.cnf_frames.specs.Queries.{groups}
use Rattle.rank_proofs.specs.declared.rank_proof.RankProof.{RankProof}
use Rattle.rank_proofs.specs.declared.rank_proof.ProofBranch.{ProofBranch}
use Rattle.cert_text.specs.Certificates.{Refutation, ranks, free}

abbrev pub IsBelow : ℕ → Type 0
IsBelow n = n < 10 ^ 10

-- ---- rank proofs

abbrev pub AreMembers : List ℕ → Type 0
AreMembers members = All IsBelow members × IsStrictlyIncreasing members

pub record IsPrintableBranch (branch : ProofBranch) : Type 0 where
  pub rank : IsBelow branch.rank
  pub now : AreMembers branch.now
  pub next : AreMembers branch.next

abbrev pub IsPrintableReason : Option ℕ → Type 0
IsPrintableReason reason = IfSome reason IsBelow

pub record IsPrintable (proof : RankProof) : Type 0 where
  pub branches : IsBelow (length proof.branches)
  pub reasons : IsBelow (length proof.reasons)
  pub each_branch : All IsPrintableBranch proof.branches
  pub each_reason : All IsPrintableReason proof.reasons

-- ---- proofs by induction

abbrev pub IsPrintableFact : Fact → Type 0
IsPrintableFact (Zero a) = IsBelow a
IsPrintableFact (One a) = IsBelow a
IsPrintableFact (Same a b) = IsBelow a × IsBelow b
IsPrintableFact (Differ a b) = IsBelow a × IsBelow b
IsPrintableFact (AnyOf ls) = All IsBelow ls × (0 < length ls)

abbrev pub IsPrintableLiteral : ℤ → Type 0
IsPrintableLiteral l = (0 < unsigned_abs l) × IsBelow (unsigned_abs l)

abbrev pub IsPrintableCount : ℕ → Type 0
IsPrintableCount k = (0 < k) × IsBelow k

pub record IsPrintableEntry (entry : Learned) : Type 0 where
  pub clause : All IsPrintableLiteral entry.clause
  pub chain : All IsPrintableCount entry.chain

pub record IsPrintableLog (log : List Learned) : Type 0 where
  pub count : IsBelow (length log)
  pub each : All IsPrintableEntry log

pub record IsPrintableInduction (proof : InductionProof) : Type 0 where
  pub depth : IsBelow proof.depth
  pub facts : IsBelow (length proof.inv)
  pub each_fact : All IsPrintableFact proof.inv
  pub keep : All IsPrintableLog proof.keep
  pub base : All IsPrintableLog proof.base
  pub step : IsPrintableLog proof.step
  pub keeps : length proof.keep ≡ groups proof.inv
  pub bases : length proof.base ≡ suc proof.depth

-- ---- proofs about formulas

abbrev pub IsPrintableRefutation : Refutation → Type 0
IsPrintableRefutation (ranks proof) = IsPrintable proof
IsPrintableRefutation (free proof) = IsPrintableInduction proof

-- ---- runs

-- A run has a step in its cycle.
abbrev pub IsPrintableRun : Run → Type 0
IsPrintableRun run = 0 < length run.cycle

pub record ArePrintableRuns (runs : List Run) : Type 0 where
  pub count : IsBelow (length runs)
  pub each : All IsPrintableRun runs

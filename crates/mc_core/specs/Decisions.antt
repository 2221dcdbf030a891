-- What is decided about a safe net.
use Rattle.std.specs.Prelude.{◌≡◌, ℕ, length}
use Rattle.aig_net.specs.Executions.{Word}
use Rattle.live_safe.specs.declared.safe_net.SafeNet.{SafeNet}
use Rattle.live_safe.specs.Paths.{IsBadPath}
use Rattle.cnf_frames.specs.declared.queries.Asked.TheVariants.{Base}
use Rattle.k_induct.specs.Replies.{IsAnswer}
use Rattle.k_induct.specs.Verdicts.{IsDeep, IsShortest, IsVerdict}
use Rattle.k_induct.specs.declared.verdict.Verdict.TheVariants as verdict
use Rattle.mc_core.specs.declared.ask.Ask.{Ask}
use Rattle.mc_core.specs.declared.decision.Decision.{Decision}
use Rattle.mc_core.specs.declared.decision.Decision.TheVariants.{Safe, Path, FarPath, Depth, Spent}
use Rattle.mc_core.specs.Answers.{IsKept, IsProved}

-- no path from the start is bad
abbrev pub HasNoBadPath : SafeNet → Type 0
HasNoBadPath safe = (k : ℕ) (word : Word) → ¬ IsBadPath safe k word

abbrev pub IsDecision : SafeNet → Ask → Decision → Type 0
IsDecision safe ask (Safe proof) = IsProved safe ask proof × HasNoBadPath safe
IsDecision safe ask (Path path) = IsShortest safe ask.depth path
IsDecision safe ask (FarPath path) =
    (¬ (ask.calls ≡ 0)) × IsAnswer safe (Base (length path.inputs)) path
IsDecision safe ask (Depth kept path) =
    IsKept ask.plain safe ask.conflicts kept × IsDeep safe kept.inv ask.depth path
IsDecision safe ask (Spent k step kept log) =
    IsKept ask.plain safe ask.conflicts kept
    × IsVerdict safe kept.inv ask.depth ask.conflicts (verdict.Spent k step log)

use Rattle.std.proofs.Common.{subst}
use Rattle.claim_check.specs.declared.claim.Claim.{Claim}
use Rattle.claim_check.specs.Claims.{claim_of}
use Rattle.claim_check.specs.Verdicts.{HasRoom}
use Rattle.claim_check.proofs.verdict.judge.Goals as goal

pub judge_circuit-requires-clause-room : goal.judge_circuit-requires-clause-room
judge_circuit-requires-clause-room c =
    let P : Claim → Type 0 = λ claim. HasRoom c.args.names.now (claim_of claim) in
    subst P c.in-Mc.is c.requires.room

use Rattle.std.proofs.Common.{sym, subst, arith}
use Rattle.cnf_frames.specs.declared.inductions.InductionProof.{InductionProof}
use Rattle.k_induct.specs.Verdicts.{IsSafeProof}
use Rattle.mc_core.specs.Answers.{IsProved}
use Rattle.mc_core.proofs.Verdicts.{proved}
use Rattle.mc_core.proofs.deciding.decide.Goals as goal

pub returns-in-Ok-Safe-clause-decided : goal.returns-in-Ok-Safe-clause-decided
returns-in-Ok-Safe-clause-decided c =
    let is : IsSafeProof c.args.safe.now c.in_ok-kept.kept.inv c.args.ask.now.depth
    c.in-Ok-Safe.proof = rw c.in-Ok-Safe.field-0-is at c.in-Ok-Safe.ensures.verdict in
    let P : InductionProof → Type 0 = IsProved c.args.safe.now c.args.ask.now in (
      subst P (sym c.whole_proof.ensures)
          (proved c.args.safe.now c.args.ask.now c.in_ok-kept.kept c.in-Ok-Safe.proof
          c.args.ask.now.depth (omega arith) c.in_ok-kept.ensures.usable (λ none. c.in_ok-kept.ensures.simple) is),
      is.good,
    )

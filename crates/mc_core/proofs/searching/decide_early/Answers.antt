use Rattle.std.proofs.Common.{Option, IfSome, sym, subst, arith}
use Rattle.cnf_frames.specs.declared.inductions.InductionProof.{InductionProof}
use Rattle.invar_find.specs.declared.kept.Kept.{Kept}
use Rattle.k_induct.specs.Verdicts.{IsSafeProof}
use Rattle.mc_core.specs.Answers.{IsProved, IsUsable}
use Rattle.mc_core.proofs.Verdicts.{proved}
use Rattle.mc_core.proofs.searching.decide_early.Goals as goal

pub returns-in-Ok-Safe : goal.returns-in-Ok-Safe
returns-in-Ok-Safe c =
    let K : Option Kept → Type 0 = λ found. IfSome found (IsUsable c.args.safe.now) in
    let usable : IsUsable c.args.safe.now c.in-Some.kept =
    subst K c.in-Some.is c.in_ok-kept.ensures in
    let is : IsSafeProof c.args.safe.now c.in-Some.kept.inv 0 c.in-Ok-Safe.proof =
    rw c.in-Ok-Safe.field-0-is at c.in-Ok-Safe.ensures.verdict in
    let P : InductionProof → Type 0 = IsProved c.args.safe.now c.args.ask.now in (
      subst P (sym c.whole_proof.ensures)
          (proved c.args.safe.now c.args.ask.now c.in-Some.kept c.in-Ok-Safe.proof 0 (omega arith)
          usable (λ none. absurd (c.if-ask-eq0.false none)) is),
      is.good,
    )

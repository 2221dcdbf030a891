use Rattle.std.proofs.Common.{ℕ, suc, subst, arith}
use Rattle.cnf_frames.specs.declared.queries.Asked.TheVariants.{Base}
use Rattle.k_induct.specs.declared.asking.Reply.{Reply}
use Rattle.k_induct.specs.Replies.{IsReply}
use Rattle.k_induct.specs.Verdicts.{IsGoodBelow}
use Rattle.k_induct.proofs.UnderWay.{good-below}
use Rattle.k_induct.proofs.searching.shortest.Goals as goal

pub returns-then-k-depth-clause-searched : goal.returns-then-k-depth-clause-searched
returns-then-k-depth-clause-searched c =
    let P : Reply → Type 0 = IsReply c.args.safe.now (Base c.depths.k) c.args.conflicts in
    let G : ℕ → Type 0 = λ k. IsGoodBelow c.args.safe.now (suc k) in
    let base = subst P c.in-Refuted.is c.in_ok-path.ensures.reply in
    subst G c.if-k-depth.true
    (good-below c.args.safe.now c.depths.k c.depths.invariant.1 base.1)

pub depths-preserved : goal.depths-preserved
depths-preserved c =
    let P : Reply → Type 0 = IsReply c.args.safe.now (Base c.depths.k) c.args.conflicts in
    let base = subst P c.in-Refuted.is c.in_ok-path.ensures.reply in
    let apart = c.if-k-depth.false in
    let within = c.depths.invariant.0 in (
      omega (arith, apart, within),
      λ i lt. good-below c.args.safe.now c.depths.k c.depths.invariant.1 base.1 i (omega arith),
    )

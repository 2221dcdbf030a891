use Rattle.std.proofs.Common.{subst}
use Rattle.std.proofs.lemmas.Result.{err_from_is_err_and}
use Rattle.k_induct.proofs.UnderWay.{refuted-bases, within-bases, stopped-step, proved, deep, met-step, going-on}
use Rattle.cnf_frames.specs.declared.queries.Asked.TheVariants.{Base, Step}
use Rattle.k_induct.specs.declared.asking.Reply.{Reply}
use Rattle.k_induct.specs.Replies.{IsReply}
use Rattle.k_induct.proofs.proving.prove.Goals as goal

pub returns-in_err-step-clause-refused : goal.returns-in_err-step-clause-refused
returns-in_err-step-clause-refused c =
    let P : Reply → Type 0 = IsReply c.args.safe.now (Base c.depths.k) c.args.conflicts in
    let base = subst P c.in-Refuted.is c.in_ok-log.ensures.reply in
    let p = err_from_is_err_and c.from_residual-in_err-step.result
    c.from_residual-in_err-step.ensures.1 in
    rw (p.1, p.2)
    (stopped-step c.args.safe.now c.args.inv.now c.args.depth c.depths.k c.depths.base
    c.in_err-step.field-0.0 c.depths.invariant base.1 c.in_err-step.ensures.refused)

pub returns-in-Refuted-2-clause-verdict : goal.returns-in-Refuted-2-clause-verdict
returns-in-Refuted-2-clause-verdict c =
    let P : Reply → Type 0 = IsReply c.args.safe.now (Base c.depths.k) c.args.conflicts in
    let Q : Reply → Type 0 = IsReply c.args.safe.now (Step c.args.inv.now c.depths.k)
    c.args.conflicts in
    let base = subst P c.in-Refuted.is c.in_ok-log.ensures.reply in
    let step = subst Q c.in-Refuted-2.is c.in_ok-step.ensures.reply in
    proved c.args.safe.now c.args.inv.now c.args.depth c.depths.k c.depths.base c.push.new.self
    c.in-Refuted-2.step c.depths.invariant c.requires.inductive
    (refuted-bases c.args.safe.now c.args.inv.now c.args.depth c.depths.k c.depths.base
    c.push.new.self c.in-Refuted.log c.depths.invariant base.0
    c.in_ok-push-in-Refuted.ensures.added)
    (within-bases c.args.safe.now c.args.inv.now c.args.depth c.depths.k c.depths.base
    c.depths.invariant base.2)
    base.1 step.0 step.1 step.2

pub returns-then-k-depth-clause-verdict : goal.returns-then-k-depth-clause-verdict
returns-then-k-depth-clause-verdict c =
    let P : Reply → Type 0 = IsReply c.args.safe.now (Base c.depths.k) c.args.conflicts in
    let Q : Reply → Type 0 = IsReply c.args.safe.now (Step c.args.inv.now c.depths.k)
    c.args.conflicts in
    let base = subst P c.in-Refuted.is c.in_ok-log.ensures.reply in
    deep c.args.safe.now c.args.inv.now c.args.depth c.depths.k c.depths.base c.in-Answered-2.path
    c.depths.invariant c.if-k-depth.true base.1
    (subst Q c.in-Answered-2.is c.in_ok-step.ensures.reply)

pub returns-in-Spent-2-clause-verdict : goal.returns-in-Spent-2-clause-verdict
returns-in-Spent-2-clause-verdict c =
    let P : Reply → Type 0 = IsReply c.args.safe.now (Base c.depths.k) c.args.conflicts in
    let Q : Reply → Type 0 = IsReply c.args.safe.now (Step c.args.inv.now c.depths.k)
    c.args.conflicts in
    let base = subst P c.in-Refuted.is c.in_ok-log.ensures.reply in (
      Step c.args.inv.now c.depths.k,
      met-step c.args.safe.now c.args.inv.now c.args.depth c.depths.k
          c.depths.base c.depths.invariant base.1,
      subst Q c.in-Spent-2.is c.in_ok-step.ensures.reply,
    )

pub depths-preserved : goal.depths-preserved
depths-preserved c =
    let P : Reply → Type 0 = IsReply c.args.safe.now (Base c.depths.k) c.args.conflicts in
    let Q : Reply → Type 0 = IsReply c.args.safe.now (Step c.args.inv.now c.depths.k)
    c.args.conflicts in
    let base = subst P c.in-Refuted.is c.in_ok-log.ensures.reply in
    going-on c.args.safe.now c.args.inv.now c.args.depth c.depths.k c.depths.base c.push.new.self
    c.in-Answered-2.path c.depths.invariant
    (refuted-bases c.args.safe.now c.args.inv.now c.args.depth c.depths.k c.depths.base
    c.push.new.self c.in-Refuted.log c.depths.invariant base.0
    c.in_ok-push-in-Refuted.ensures.added)
    (within-bases c.args.safe.now c.args.inv.now c.args.depth c.depths.k c.depths.base
    c.depths.invariant base.2)
    base.1 (subst Q c.in-Answered-2.is c.in_ok-step.ensures.reply) c.if-k-depth.false

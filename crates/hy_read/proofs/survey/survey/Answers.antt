use Rattle.std.proofs.Common.{ℕ, ◌+◌, ◌≤◌, sym, subst, arith, ◌++◌, ◌∷◌, []}
use Rattle.hy_read.specs.declared.counts.Counts.{Counts}
use Rattle.hy_read.specs.Counting.{IsFew}
use Rattle.hy_read.specs.Moves.{IsPlaced}
use Rattle.hy_read.specs.Answers.{tokens_of}
use Rattle.hy_read.specs.Scans.{plain, span_of}
use Rattle.hy_read.proofs.Surveying.{reached_next, stuck_there, ended_there, unbound_there, sound_there, passed_more}
use Rattle.hy_read.proofs.survey.survey.Goals as goal

few_more : (n m : ℕ) (c : Counts) → n + 1 ≤ m → IsFew (n + 1) c → IsFew m c
few_more n m c le few = record {
  ended = omega arith;
  quantified = omega arith;
  most_quantified = omega arith;
  opened = omega arith;
  most_opened = omega arith;
}

pub returns-in_default-next_stage : goal.returns-in_default-next_stage
returns-in_default-next_stage c = λ limit old.
    let (front, reached, passed) = c.loop-next.invariant.passed in
    stuck_there c.args.many limit old c.args.text.now c.loop-next.at front c.in-Some.next c.kind-kind.result c.loop-next.tokens c.loop-next.stage c.loop-next.counts c.loop-next.scope reached c.in-Some.ensures passed c.kind-kind.ensures c.in_default-next_stage.ensures.next

pub loop-next-preserved : goal.loop-next-preserved
loop-next-preserved c =
    let (front, reached, passed) = c.loop-next.invariant.passed in
    let blank = c.in-Some.ensures.blank in
    let longer = c.in-Some.ensures.longer in
    record {
      passed = (
        front ++ span_of c.in-Some.next ∷ [],
        reached_next c.args.text.now c.loop-next.at front c.in-Some.next reached c.in-Some.ensures,
        passed_more c.args.many front c.in-Some.next c.kind-kind.result c.loop-next.tokens c.loop-next.stage c.in-Some-next_stage.after c.loop-next.counts c.behind-counts.result c.loop-next.scope c.pass.new.self passed c.kind-kind.ensures c.in-Some-next_stage.ensures.next c.behind-counts.ensures.parens
            (c.behind-counts.ensures.counted (tokens_of front) (plain c.in-Some.next.token) (sym c.kind-kind.ensures) passed.counted)
            (c.in_ok-pass.ensures front passed.scoped),
      );
      placed = subst (IsPlaced c.in-Some-next_stage.after) (sym c.behind-counts.ensures.parens) c.in-Some-next_stage.ensures.placed;
      few = few_more _ _ _ (omega arith) (c.behind-counts.ensures.few c.loop-next.at c.loop-next.invariant.few);
      below = omega arith;
      within = c.in-Some.ensures.within;
    }

pub returns-then-not-may_end : goal.returns-then-not-may_end
returns-then-not-may_end c = λ limit old.
    let (front, reached, passed) = c.loop-next.invariant.passed in
    ended_there c.args.many limit old c.args.text.now c.loop-next.at front c.loop-next.tokens c.loop-next.stage c.loop-next.counts c.loop-next.scope reached c.in_default.ensures passed (c.may_end.ensures.no c.if-not-may_end.true)

pub returns-in-Some-unbound : goal.returns-in-Some-unbound
returns-in-Some-unbound c = λ limit old.
    let (front, reached, passed) = c.loop-next.invariant.passed in
    unbound_there c.args.many limit old c.args.text.now c.loop-next.at front c.loop-next.tokens c.loop-next.stage c.loop-next.counts c.loop-next.scope c.in-Some-unbound.byte reached c.in_default.ensures passed (c.may_end.ensures.yes c.if-not-may_end.false) c.in-Some-unbound.is

pub returns : goal.returns
returns c = λ limit old.
    let (front, reached, passed) = c.loop-next.invariant.passed in
    sound_there c.args.many c.args.text.now c.loop-next.at front c.loop-next.tokens c.loop-next.stage c.loop-next.counts c.loop-next.scope reached c.in_default.ensures passed (c.may_end.ensures.yes c.if-not-may_end.false) c.in-None.is

use Rattle.std.proofs.Common.{◌≡◌, ◌+◌, suc, List, refl, sym, ap, ◌∙◌, subst, arith}
use Rattle.std.proofs.lemmas.Bool.{eqb-true}
use Rattle.hy_finite.specs.Traces.{Trace, judged, trace_words}
use Rattle.fin_monitor.specs.Machines.{next_state, is_accepting, settled_state, code_at}
use Rattle.tuple_walk.specs.Alone.{left_of}
use Rattle.tuple_walk.specs.Searches.{state_over}
use Rattle.tuple_walk.specs.Walks.{machine_in}
use Rattle.tuple_walk.proofs.Following.{settled-later}
use Rattle.tuple_walk.proofs.Starting.{over-next}
use Rattle.tuple_walk.proofs.walk.Walk.rejects_of.Goals as goal

pub loop-i-init : goal.loop-i-init
loop-i-init g c =
    record { over = refl; within = c.requires.state; counted = omega arith }

pub loop-i-preserved : goal.loop-i-preserved
loop-i-preserved g c =
    let m = machine_in c.args.self.now in
    let ts = left_of c.args.rests.now in
    let i = c.loop-i.i in
    let one : suc i ≡ i + 1 = omega arith in
    let P : List Trace → Type 0 = λ l. c.joint_at.result ≡ code_at m (trace_words l) i in
    let code = subst P c.with_parts-lent.ensures.traces c.joint_at.ensures.code in
    record {
      over = c.step-state.ensures.next
          ∙ (λ j. next_state m (c.loop-i.invariant.over j) (code j))
          ∙ sym (over-next m c.args.q i ts)
          ∙ ap (state_over m c.args.q ts) one;
      within = c.step-state.ensures.within;
      counted = omega (arith, c.step-state.ensures.counted, c.loop-i.invariant.counted);
    }

pub returns-then-is_settled-clause-accepted : goal.returns-then-is_settled-clause-accepted
returns-then-is_settled-clause-accepted g c =
    let w = c.args.self.now in
    let m = machine_in w in
    let ts = left_of c.args.rests.now in
    let settled : c.loop-i.state ≡ settled_state m =
    eqb-true c.loop-i.state (settled_state m)
    (sym c.is_settled.ensures ∙ c.if-is_settled.true) in
    ap (is_accepting m) (settled-later m w.monitor.monitor.now.right c.args.q c.loop-i.i ts
    (sym c.loop-i.invariant.over ∙ settled) (judged w.lengths ts)
    (omega (arith, c.judged-i-end.ensures))) ∙ w.monitor.monitor.now.right.settled

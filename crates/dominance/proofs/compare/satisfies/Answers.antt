use Rattle.std.proofs.Common.{◌≡◌, ◌+◌, ℕ, suc, ◌∷◌, [], length, ap, ◌∙◌, arith}
use Rattle.std.specs.FinSet.{empty}
use Rattle.std.proofs.lemmas.List.{get_or_default}
use Rattle.hy_formula.specs.Temporal.{Words}
use Rattle.hy_finite.specs.Traces.{trace_words}
use Rattle.fin_monitor.specs.Machines.{Machine, next_state, state_after}
use Rattle.fin_monitor.specs.Seen.{machine_of}
use Rattle.dominance.proofs.Meaning.{one-code}
use Rattle.dominance.proofs.compare.satisfies.Goals as goal

pub loop-letter-preserved : goal.loop-letter-preserved
loop-letter-preserved g c =
    let m : Machine = machine_of c.args.m.now in
    let i : ℕ = c.loop-letter.letter-index in
    let words : Words = trace_words (c.args.t.now ∷ []) in
    let letter = c.letter-item.is
    ∙ get_or_default c.args.t.now i c.letter-item.result empty c.loop-letter-test.true in
    record {
      within = c.step-q.ensures.within;
      state = c.step-q.ensures.next
          ∙ ap (λ q. next_state m q c.joint.result) c.loop-letter.invariant.state
          ∙ ap (next_state m (state_after m words i))
          (c.joint.ensures.joint ∙ one-code m c.args.t.now i c.letter-item.result letter)
          ∙ ap (state_after m words) (let e : suc i ≡ i + 1 = omega arith in e);
    }

pub returns : goal.returns
returns g c = λ rule.
    let all : c.loop-letter.letter-index ≡ length c.args.t.now =
    omega (arith, c.loop-letter-test.false, c.loop-letter.auto.letter-index-end) in
    c.accepts.ensures.meets rule (c.args.t.now ∷ []) c.requires.some
    (c.loop-letter.invariant.state
    ∙ ap (state_after (machine_of c.args.m.now) (trace_words (c.args.t.now ∷ []))) all)

use Rattle.std.proofs.Common.{◌≡◌, ℕ, length, List, ◌∙◌, ap, arith}
use Rattle.aig_net.specs.declared.parts.Reset.{Reset}
use Rattle.aig_net.specs.Nets.{reset_at}
use Rattle.live_safe.specs.declared.places.Places.{Places}
use Rattle.live_safe.specs.Safe.{effective_wire, is_free}
use Rattle.live_safe.specs.Places.{begun_of, effective_of, free_before, free_input_of, latch_of}
use Rattle.live_safe.proofs.Counting.{count-within, count_more}
use Rattle.live_safe.proofs.Stepping.{made-next, room-next}
use Rattle.live_safe.proofs.effective.effective_values.Goals as goal

effective-at : (p : Places) (resets : List Reset) (j l b i f : ℕ) → l ≡ latch_of p j →
    b ≡ begun_of p → i ≡ free_input_of p f → f ≡ free_before resets j →
    effective_wire l b i (reset_at resets j) ≡ effective_of p resets j
effective-at p resets j l b i f el eb ei ef =
    let r : Reset = reset_at resets j in
    ap (λ l. effective_wire l b i r) el ∙ ap (λ b. effective_wire (latch_of p j) b i r) eb
    ∙ ap (λ i. effective_wire (latch_of p j) (begun_of p) i r) (ei ∙ ap (free_input_of p) ef)

pub free_input-input-requires-clause-inputs : goal.free_input-input-requires-clause-inputs
free_input-input-requires-clause-inputs c =
    let within = count-within (λ k. is_free (reset_at c.args.resets.now k))
    (length c.args.resets.now) c.loop-j.j (omega (arith, c.loop-j-test.true)) in
    omega (arith, c.loop-j.invariant.1, within, c.requires.inputs)

pub effective-requires : goal.effective-requires
effective-requires c =
    room-next c.args.gates.now.first _ c.args.gates.now.ands _
    (effective_of c.args.places.now c.args.resets.now) c.loop-j.j (length c.args.resets.now)
    c.loop-j.values _ c.loop-j-test.true c.requires.room c.loop-j.invariant.0
    c.loop-j.invariant.2
    (effective-at c.args.places.now c.args.resets.now c.loop-j.j _ _ _ _ c.latch-latch.ensures
    c.begun.ensures c.free_input-input.ensures c.loop-j.invariant.1)

pub loop-j-preserved : goal.loop-j-preserved
loop-j-preserved c = (
  made-next c.args.gates.now.first _ c.args.gates.now.ands _ _
      (effective_of c.args.places.now c.args.resets.now) c.loop-j.j _ _ _ _
      c.loop-j.invariant.0 c.loop-j.invariant.2
      (effective-at c.args.places.now c.args.resets.now c.loop-j.j _ _ _ _ c.latch-latch.ensures
      c.begun.ensures c.free_input-input.ensures c.loop-j.invariant.1)
      c.in_ok-value.ensures.made c.in_ok-push.ensures.added,
  count_more (λ k. is_free (reset_at c.args.resets.now k)) c.loop-j.j _ _ _ c.is_free.ensures
      c.from-free.ensures c.loop-j.invariant.1,
  c.in_ok-value.ensures.first ∙ c.loop-j.invariant.2,
)

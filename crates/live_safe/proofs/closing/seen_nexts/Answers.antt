use Rattle.std.proofs.Common.{◌≡◌, ℕ, List, length, ◌∙◌, ap}
use Rattle.aig_net.specs.Nets.{literal_at}
use Rattle.live_safe.specs.declared.places.Places.{Places}
use Rattle.live_safe.specs.declared.moved.Moved.{Moved}
use Rattle.live_safe.specs.Places.{moved_literal, saved_of, seen_next, seen_next_of, seen_of}
use Rattle.live_safe.proofs.Stepping.{made-next, room-next}
use Rattle.live_safe.proofs.closing.seen_nexts.Goals as goal

seen-at : (p : Places) (m : Moved) (next : ℕ) (fairs : List ℕ) (j fair saved seen : ℕ) →
    fair ≡ moved_literal m (literal_at fairs j) → saved ≡ saved_of p → seen ≡ seen_of p j →
    seen_next next fair saved seen ≡ seen_next_of p m next fairs j
seen-at p m next fairs j fair saved seen ef es e =
    let f : ℕ = moved_literal m (literal_at fairs j) in
    ap (λ f. seen_next next f saved seen) ef ∙ ap (λ s. seen_next next f s seen) es
    ∙ ap (seen_next next f (saved_of p)) e

pub seen_after-requires : goal.seen_after-requires
seen_after-requires c =
    room-next c.args.gates.now.first _ c.args.gates.now.ands _
    (seen_next_of c.args.places.now c.args.moved.now c.args.next c.args.fairs.now) c.loop-j.j
    (length c.args.fairs.now) c.loop-j.nexts _ c.loop-j-test.true c.requires.room
    c.loop-j.invariant.0 c.loop-j.invariant.1
    (seen-at c.args.places.now c.args.moved.now c.args.next c.args.fairs.now c.loop-j.j _ _ _
    c.literal-fair.ensures c.saved.ensures c.seen-seen.ensures)

pub loop-j-preserved : goal.loop-j-preserved
loop-j-preserved c = (
  made-next c.args.gates.now.first _ c.args.gates.now.ands _ _
      (seen_next_of c.args.places.now c.args.moved.now c.args.next c.args.fairs.now) c.loop-j.j
      _ _ _ _ c.loop-j.invariant.0 c.loop-j.invariant.1
      (seen-at c.args.places.now c.args.moved.now c.args.next c.args.fairs.now c.loop-j.j _ _ _
      c.literal-fair.ensures c.saved.ensures c.seen-seen.ensures)
      c.in_ok-after.ensures.made c.in_ok-push.ensures.added,
  c.in_ok-after.ensures.first ∙ c.loop-j.invariant.1,
)

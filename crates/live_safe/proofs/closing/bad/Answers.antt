use Rattle.std.proofs.Common.{◌≡◌, ℕ, List, ◌∙◌, ap}
use Rattle.aig_net.specs.Wires.{Wire, equal, literal}
use Rattle.hy_base.specs.Rows.{listed}
use Rattle.live_safe.specs.declared.places.Places.{Places}
use Rattle.live_safe.specs.Places.{copy_of, latch_of, same_of, saved_of, seen_of}
use Rattle.live_safe.proofs.Conjoining.{joined-room, literal-joined, literal-room, wire-joined, wire-room}
use Rattle.live_safe.proofs.closing.bad.Goals as goal

abbrev seens : Places → List Wire
seens p = listed 0 p.fairs (λ j. literal (seen_of p j))

same-at : (p : Places) (j a b : ℕ) → a ≡ latch_of p j → b ≡ copy_of p j →
    equal (literal a) (literal b) ≡ same_of p j
same-at p j a b ea eb = ap (λ a. equal (literal a) (literal b)) ea
    ∙ ap (λ b. equal (literal (latch_of p j)) (literal b)) eb

pub both-requires : goal.both-requires
both-requires c =
    literal-room c.args.gates.now.first c.args.gates.now.ands
    (literal (saved_of c.args.places.now)) _ _ (seen_of c.args.places.now)
    (listed 0 c.args.places.now.latches (same_of c.args.places.now)) c.loop-j.j
    c.args.places.now.fairs c.loop-j.all _ c.loop-j-test.true c.requires.room
    c.loop-j.invariant.0 c.loop-j.invariant.1

pub loop-j-preserved : goal.loop-j-preserved
loop-j-preserved c = (
  literal-joined c.args.gates.now.first c.args.gates.now.ands
      (literal (saved_of c.args.places.now)) _ _ _ (seen_of c.args.places.now) c.loop-j.j _ _ _
      c.loop-j.invariant.0 c.loop-j.invariant.1 c.seen.ensures c.in_ok-all.ensures.made,
  c.in_ok-all.ensures.first ∙ c.loop-j.invariant.1,
)

pub equal-requires : goal.equal-requires
equal-requires c =
    wire-room c.args.gates.now.first c.args.gates.now.ands
    (literal (saved_of c.args.places.now)) _ _ (seens c.args.places.now)
    (same_of c.args.places.now) _ c.loop-j-2.j c.args.places.now.latches c.loop-j-2.all
    c.loop-j-2-test.true c.requires.room c.loop-j-2.invariant.0 c.loop-j-2.invariant.1
    (same-at c.args.places.now c.loop-j-2.j _ _ c.latch.ensures c.copy.ensures)

pub both-requires-in-loop-j-2 : goal.both-requires-in-loop-j-2
both-requires-in-loop-j-2 c =
    joined-room c.args.gates.now.first c.args.gates.now.ands
    (literal (saved_of c.args.places.now)) _ _ _ _ (seens c.args.places.now)
    (same_of c.args.places.now) _ c.loop-j-2.j c.args.places.now.latches c.loop-j-2.all _
    c.loop-j-2-test.true c.requires.room c.loop-j-2.invariant.0 c.loop-j-2.invariant.1
    c.in_ok-same.ensures.first
    (same-at c.args.places.now c.loop-j-2.j _ _ c.latch.ensures c.copy.ensures)
    c.in_ok-same.ensures.made

pub loop-j-2-preserved : goal.loop-j-2-preserved
loop-j-2-preserved c = (
  wire-joined c.args.gates.now.first c.args.gates.now.ands
      (literal (saved_of c.args.places.now)) _ _ _ _ _ (seens c.args.places.now)
      (same_of c.args.places.now) _ c.loop-j-2.j _ _ _ c.loop-j-2.invariant.0
      c.loop-j-2.invariant.1 c.in_ok-same.ensures.first
      (same-at c.args.places.now c.loop-j-2.j _ _ c.latch.ensures c.copy.ensures)
      c.in_ok-same.ensures.made c.in_ok-all-2.ensures.made,
  c.in_ok-all-2.ensures.first ∙ c.in_ok-same.ensures.first ∙ c.loop-j-2.invariant.1,
)

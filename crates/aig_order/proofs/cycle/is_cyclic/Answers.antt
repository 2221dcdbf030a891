use Rattle.std.proofs.Common.{◌≡◌, ◌+◌, ◌<◌, ◌∙◌, ℕ, length, get_or, subst, sym, arith, false}
use Rattle.aig_order.specs.declared.cycle.Reach.{Reach}
use Rattle.aig_order.proofs.Reach.{read-at, IsReach, reach-start, reach-next, reach-past, reach-all}
use Rattle.aig_order.proofs.cycle.is_cyclic.Goals as goal
use Rattle.aig_order.proofs.cycle.is_cyclic.Goals.{then-p-len+in_ok-visit_sides-2, else-p-len}

pub loop-p-init : goal.loop-p-init
loop-p-init c =
    reach-start c.args.gates.now c.args.k c.requires.small c.in_ok-none_seen.field-0 c.visit_sides.new.reach.seen c.new.result c.visit_sides.new.reach.found c.in_ok-none_seen.ensures.long c.in_ok-none_seen.ensures.none c.new.ensures c.in_ok-visit_sides.ensures

pub visit_sides-requires-then-p-len-clause-small : goal.visit_sides-requires-then-p-len-clause-small
visit_sides-requires-then-p-len-clause-small c =
    let at : c.at-next.result.now ≡ get_or c.loop-p.reach.found c.loop-p.p 0 = read-at c.loop-p.reach.found c.loop-p.p c.at-next.result.now 0 c.at-next.ensures in
    omega (arith, at, (c.loop-p.invariant.are.marked c.loop-p.p (omega arith)).0)

pub loop-p-preserved : goal.loop-p-preserved
loop-p-preserved c =
    let P : Reach → Type 0 = λ r. IsReach c.args.gates.now c.args.k (c.loop-p.p + 1) r.seen r.found in
    elim c.if-p-len.branch [
      | then-p-len+in_ok-visit_sides-2 w ↦
          let inside : c.loop-p.p < length c.loop-p.reach.found = omega (arith, w.if-p-len.true, c.len.ensures) in
          let at : w.at-next.result.now ≡ get_or c.loop-p.reach.found c.loop-p.p 0 = read-at c.loop-p.reach.found c.loop-p.p w.at-next.result.now 0 w.at-next.ensures in
          subst P (sym w.reach-is)
          (reach-next c.args.gates.now c.args.k c.requires.small c.loop-p.p c.loop-p.reach.seen w.visit_sides-then-p-len.new.reach.seen c.loop-p.reach.found w.visit_sides-then-p-len.new.reach.found w.at-next.result.now c.loop-p.invariant inside at w.in_ok-visit_sides-2.ensures)
      | else-p-len w ↦ subst P (sym w.reach-is) (reach-past c.args.gates.now c.args.k c.requires.small c.loop-p.p c.loop-p.reach.seen c.loop-p.reach.found c.loop-p.invariant (omega (arith, w.if-p-len.false, c.len.ensures)))
    ]

pub returns : goal.returns
returns c =
    let all : c.loop-p.p ≡ length c.args.gates.now = omega arith in
    let P : ℕ → Type 0 = λ p. IsReach c.args.gates.now c.args.k p c.loop-p.reach.seen c.loop-p.reach.found in
    let at : c.at.result.now ≡ get_or c.loop-p.reach.seen c.args.k false = read-at c.loop-p.reach.seen c.args.k c.at.result.now false c.at.ensures in
    let is = reach-all c.args.gates.now c.args.k c.requires.small c.loop-p.reach.seen c.loop-p.reach.found (subst P all c.loop-p.invariant) c.args.k c.requires.small in
    (λ e. is.0 (sym at ∙ e), λ d. at ∙ is.1 d)

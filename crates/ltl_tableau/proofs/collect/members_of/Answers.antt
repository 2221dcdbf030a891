use Rattle.std.proofs.Common.{◌+◌, sym, ◌∙◌, subst, refl}
use Rattle.ltl_tableau.specs.Branches.{Members}
use Rattle.ltl_tableau.proofs.Cutting.{FirstOf, first-none, first-with, first-without}
use Rattle.ltl_tableau.proofs.collect.members_of.Goals as goal
use Rattle.ltl_tableau.proofs.collect.members_of.Goals.{then-has, else-has}

pub loop-k-init : goal.loop-k-init
loop-k-init g c = first-none c.args.s.now c.empty-members.result c.empty-members.ensures

pub loop-k-preserved : goal.loop-k-preserved
loop-k-preserved g c =
    elim c.if-has.branch [
      | then-has w ↦
          first-with c.loop-k.k (c.loop-k.k + 1) c.args.s.now c.loop-k.members c.if-has.members c.loop-k.invariant
          (sym c.has.ensures ∙ w.if-has.true) ((λ i. w.members-is i) ∙ w.with-members.ensures) refl
      | else-has w ↦
          let P : Members → Type 0 = FirstOf (c.loop-k.k + 1) c.args.s.now in
          subst P (sym (λ i. w.members-is i))
          (first-without c.loop-k.k (c.loop-k.k + 1) c.args.s.now c.loop-k.members c.loop-k.invariant (sym c.has.ensures ∙ w.if-has.false) refl)
    ]

use Rattle.std.proofs.Common.{◌≡◌, true, false, List, [], sym, refl, subst, ◌∙◌}
use Rattle.cnf_frames.specs.declared.facts.Fact.{Fact}
use Rattle.std.specs.Prelude.{Contains}
use Rattle.invar_find.specs.Parts.{AreThose, IsOutside}
use Rattle.invar_find.proofs.Sublists.{those-none, those-taken, those-left}
use Rattle.invar_find.proofs.left.outside.Goals as goal
use Rattle.invar_find.proofs.left.outside.Goals.{then-not-is_among+in_ok-push_copy, else-not-is_among}

pub loop-fact-init : goal.loop-fact-init
loop-fact-init c =
    let A : List Fact → Type 0 = AreThose (IsOutside c.args.facts.now c.args.group) [] in
    subst A (sym c.new-left.ensures) (those-none _)

pub loop-fact-preserved : goal.loop-fact-preserved
loop-fact-preserved c =
    elim c.if-not-is_among.branch [
      | then-not-is_among+in_ok-push_copy w ↦
          those-taken (IsOutside c.args.facts.now c.args.group) c.as_slice-fact-items.result.now
          c.loop-fact.left _ c.loop-fact.fact-index c.fact-item.result c.loop-fact.invariant
          c.loop-fact-test.true c.fact-item.is
          (λ member.
          let G : List Fact → Type 0 = λ group. Contains group c.fact-item.result in
          let clash : false ≡ true = w.if-not-is_among.ensures.1
          (subst G (sym c.members-members.ensures) member) in (cc))
          (w.left-is ∙ w.in_ok-push_copy.ensures)
      | else-not-is_among w ↦
          those-left (IsOutside c.args.facts.now c.args.group) c.as_slice-fact-items.result.now
          c.loop-fact.left _ c.loop-fact.fact-index c.fact-item.result c.loop-fact.invariant
          c.loop-fact-test.true c.fact-item.is
          (λ out. out (let G : List Fact → Type 0 = λ group. Contains group c.fact-item.result in
          subst G c.members-members.ensures (w.if-not-is_among.ensures.0 refl))) w.left-is
    ]

use Rattle.std.proofs.Common.{ℕ, ◌+◌, sym, ◌∙◌, refl, subst, arith}
use Rattle.ltl_closure.specs.Nodes.{node_at}
use Rattle.ltl_tableau.specs.Ways.{Skip}
use Rattle.ltl_tableau.proofs.Skipping.{plain-node, skip-none, skip-one, skips-push}
use Rattle.ltl_tableau.proofs.skips.Skips.new.Goals as goal
use Rattle.ltl_tableau.proofs.skips.Skips.new.Goals.{then-not-is_plain, else-not-is_plain}

pub loop-k-preserved : goal.loop-k-preserved
loop-k-preserved g c =
    skips-push c.args.c.now.nodes c.args.held c.loop-k.k (c.loop-k.k + 1) c.loop-k.to c.push-in-loop-k.new.self c.loop-k.last
    c.if-not-is_plain.last c.loop-k.invariant
    (elim c.if-not-is_plain.branch [
      | then-not-is_plain w ↦
          skip-none c.args.c.now.nodes c.args.held (c.loop-k.k + 1) c.if-not-is_plain.last (λ i. w.last-is i)
      | else-not-is_plain w ↦
          let P : ℕ → Type 0 = Skip c.args.c.now.nodes c.args.held (c.loop-k.k + 1) in
          subst P (sym (λ i. w.last-is i))
          (skip-one c.args.c.now.nodes c.args.held c.loop-k.k (c.loop-k.k + 1) c.loop-k.last c.loop-k.invariant.end
          (plain-node c.args.c.now.nodes c.args.held c.loop-k.k _ (node_at c.args.c.now.nodes c.loop-k.k) refl
          (c.requires.links.each c.loop-k.k (omega arith)) (sym c.is_plain.ensures ∙ w.if-not-is_plain.false)) refl)
    ])
    c.in_ok-push-2.ensures.added refl

use Rattle.std.proofs.Common.{◌∷◌, [], ◌+◌, ℕ, List, length, map, sym, ap, ◌∙◌, subst, arith, length-append}
use Rattle.ltl_closure.specs.Plain.{plain_node}
use Rattle.hy_formula.specs.Atoms.{plain_atom}
use Rattle.fin_monitor.specs.Lefts.{AreAsked}
use Rattle.fin_monitor.proofs.Masks.{masks-more}
use Rattle.fin_monitor.proofs.members.asked_masks.Goals as goal

pub loop-k-preserved : goal.loop-k-preserved
loop-k-preserved c =
    let inv = c.loop-k.invariant in
    let P : List ℕ → Type 0 = λ l. AreAsked c.args.closure.now.nodes (map plain_atom c.args.atoms.now) l (c.loop-k.k + 1) in
    record {
      long = ap length c.in_ok-push.ensures.added ∙ length-append c.loop-k.masks (c.asked_by-mask.result ∷ []) ∙ ap (λ n. n + 1) inv.long;
      asked = subst P (sym c.in_ok-push.ensures.added)
          (masks-more c.args.closure.now.nodes c.len-k-end.ensures.operands (map plain_atom c.args.atoms.now) c.loop-k.masks c.loop-k.k (plain_node c.node.result) c.asked_by-mask.result
          (omega (arith, c.len-k-end.ensures.len, c.loop-k-test.true)) inv.long c.node.ensures.node inv.asked c.asked_by-mask.ensures);
    }

use Rattle.std.proofs.Common.{◌≡◌, ℕ, ◌≤◌, ◌∷◌, ◌++◌, ◌/◌, ◌∙◌, List, length, take, ap, arith, sym, map}
use Rattle.std.proofs.lemmas.List.{take_all, map-append}
use Rattle.aig_order.specs.Gates.{gate_at}
use Rattle.aiger_body.specs.declared.content.Content.{Content}
use Rattle.aiger_body.specs.declared.content.Latch.{Latch}
use Rattle.aiger_body.specs.Files.{own_literal, own_variables}
use Rattle.aiger_body.proofs.Known.{map-twice}
use Rattle.aiger_read.proofs.read.in_order.Goals as goal

-- the constant, and the variables of inputs and latches
own-list : (c : Content) (list : List ℕ) (i : ℕ) → length c.latches ≤ i → list ≡ (0 ∷ map (λ x. x / 2) c.inputs) ++ map (λ (x : Latch). x.own / 2) (take i c.latches) → list ≡ 0 ∷ own_variables c
own-list c list i all is =
    is ∙ ap (λ l. (0 ∷ map (λ x. x / 2) c.inputs) ++ map (λ (x : Latch). x.own / 2) l) (take_all i c.latches all)
    ∙ ap (λ l. (0 ∷ map (λ x. x / 2) c.inputs) ++ l) (sym (map-twice own_literal (λ x. x / 2) c.latches))
    ∙ ap (λ l. 0 ∷ l) (sym (map-append (λ x. x / 2) c.inputs (map own_literal c.latches)))

pub returns : goal.returns
returns c =
    let content = c.args.body.now.content in
    c.in_ok-push_gates.ensures
    ∙ ap (λ gs. c.loop-latch.list ++ map (λ k. (gate_at gs k).lhs / 2) c.as_slice-2.result.now) c.as_slice.ensures
    ∙ ap (λ o. c.loop-latch.list ++ map (λ k. (gate_at content.gates k).lhs / 2) o) c.as_slice-2.ensures
    ∙ ap (λ l. l ++ map (λ k. (gate_at content.gates k).lhs / 2) c.args.body.now.order) (own-list content c.loop-latch.list c.loop-latch.latch-index (omega (arith, c.loop-latch-test.false, ap length c.as_slice-latch-items.ensures)) c.loop-latch.invariant)

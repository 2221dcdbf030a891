use Rattle.std.proofs.Common.{◌≡◌, Bool, true, false, ◌||◌, ◌&&◌, not, nat_eq, List, length, sym, ◌∙◌, ap}
use Rattle.std.specs.List.{list_any}
use Rattle.ltl_closure.specs.declared.node.Node.{Node as Kept}
use Rattle.ltl_closure.specs.contracts.node.NodePartialEq.TheImpl.{ghosts}
use Rattle.ltl_closure.proofs.Inserting.{same-kept, few-left, inserted-full, inserted-room}
use Rattle.ltl_closure.proofs.numbering.Numbering.insert.Goals as goal

not-first : (a b : Bool) → (a || b) ≡ false → a ≡ true → ⊥
not-first true b e t = cc
not-first false b e t = cc

pub returns-then-refuses-clause-inserted : goal.returns-then-refuses-clause-inserted
returns-then-refuses-clause-inserted c forms f stands parts is =
    inserted-full c.args.self.now c.args.node forms f stands parts is _ (λ _. true) (sym c.refuses.ensures ∙ c.if-refuses.true)

pub returns-clause-few : goal.returns-clause-few
returns-clause-few c =
    let keys : List Kept = c.args.self.now.members.keys in
    few-left c.args.self.now.full (list_any (λ k. ghosts.eq c.args.node k) keys) keys _ c.args.node
    (ap (λ test. c.args.self.now.full || (nat_eq (length keys) 1024 && not (list_any test keys))) (λ i k. same-kept c.args.node k i)
    ∙ sym c.refuses.ensures ∙ c.if-refuses.false)
    c.requires.few
    c.in_ok-place.ensures.keys

pub returns-clause-inserted : goal.returns-clause-inserted
returns-clause-inserted c forms f stands parts is =
    inserted-room c.args.self.now c.args.node forms f stands parts is (λ k. ghosts.eq c.args.node k) (same-kept c.args.node) _ _ (λ _. c.args.self.now.full)
    (not-first _ _ (sym c.refuses.ensures ∙ c.if-refuses.false))
    c.in_ok-place.ensures.keys
    c.in_ok-place.ensures.index

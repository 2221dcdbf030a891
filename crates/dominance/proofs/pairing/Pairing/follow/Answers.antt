use Rattle.std.proofs.Common.{◌≡◌, ℕ, ◌<◌, List, length, sym, ap, ◌∙◌, subst, arith}
use Rattle.std.specs.List.{Contains}
use Rattle.dominance.specs.declared.reached.Node.{Node}
use Rattle.dominance.specs.Runs.{Pairing, next_node}
use Rattle.dominance.specs.Seen.{pairing_of}
use Rattle.dominance.specs.Trails.{node_at}
use Rattle.dominance.proofs.Reaching.{grows-through, leads-on, leads-more, grows-at, grows-length}
use Rattle.dominance.proofs.pairing.Pairing.follow.Goals as goal

pub loop-choice-preserved : goal.loop-choice-preserved
loop-choice-preserved g c =
    let s : Pairing = pairing_of c.args.self.now in
    let old : List Node = c.args.reached.now.nodes.keys in
    let mid : List Node = c.loop-choice.reached.nodes.keys in
    let new : List Node = c.add.new.self.nodes.keys in
    let k : ℕ = c.args.k in
    let choice : ℕ = c.loop-choice.choice in
    let inv = c.loop-choice.invariant in
    let e = c.in_ok-add.ensures in
    let there : k < length mid = omega (arith, c.requires.there, grows-length old mid inv.grown) in
    let node : c.args.node ≡ node_at mid k = c.requires.node
    ∙ sym (grows-at old mid inv.grown k c.requires.there) in
    let next : c.next-next.result ≡ next_node s (node_at mid k) choice = c.next-next.ensures.next
    ∙ ap (λ x. next_node s x choice) node in
    let next' : c.next-next.result ≡ next_node s (node_at new k) choice = next
    ∙ ap (λ x. next_node s x choice) (sym (grows-at mid new e.grown k there)) in
    let P : Node → Type 0 = Contains new in
    record {
      linked = e.linked;
      reached = e.reached s inv.reached c.next-next.ensures.inside c.loop-choice-test.true next;
      grown = grows-through old mid new inv.grown e.grown;
      leads = leads-more s new k choice (leads-on s mid new e.grown k there choice inv.leads)
          (subst P next' e.there);
    }

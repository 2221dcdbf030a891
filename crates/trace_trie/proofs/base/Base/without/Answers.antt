use Rattle.std.proofs.Common.{◌≡◌, not, eqb, List, ◌++◌, sym, ap, ◌∙◌, subst}
use Rattle.hy_formula.specs.Quantifiers.{Each}
use Rattle.trace_trie.specs.Numbered.{Numbered, in_order, without_number}
use Rattle.trace_trie.specs.Forests.{passing}
use Rattle.trace_trie.specs.Newests.{waiting, IsLast}
use Rattle.trace_trie.proofs.Numbering.{without-append}
use Rattle.trace_trie.proofs.Ordering.{each-unorder, in-order-filter}
use Rattle.trace_trie.proofs.Waiting.{last-without}
use Rattle.trace_trie.proofs.base.Base.without.Goals as goal

pub uprooted-requires-clause-only : goal.uprooted-requires-clause-only
uprooted-requires-clause-only c =
    let P : Numbered → Type 0 = λ p. p.0 ≡ c.args.number → p.1 ≡ c.args.trace.now in
    let Q : List Numbered → Type 0 = Each P in
    let held : List Numbered = passing c.self.inside.node.ends c.self.inside.node.children in
    subst Q (sym c.in_ok-share.ensures)
    (each-unorder P held
    (subst Q (sym (c.self.invariant.rests ∙ c.self.view_is)) c.requires))

pub invariant_of-result : goal.invariant_of-result
invariant_of-result c =
    let n = c.args.number in
    let numbers : List Numbered = c.self.inside.numbers in
    let held : List Numbered = passing c.self.inside.node.ends c.self.inside.node.children in
    let P : List Numbered → Type 0 = IsLast c.in_ok-last.last in
    record {
      last =
          subst P (sym c.in_ok-numbers.ensures)
          (c.in_ok-last.ensures.last _
          (last-without n c.self.inside.last numbers c.self.invariant.last));
      rests =
          ap in_order (c.in_ok-node.ensures ∙ ap (without_number n) c.in_ok-share.ensures)
          ∙ in-order-filter (λ (p : Numbered). not (eqb p.0 n)) held
          ∙ ap (without_number n) c.self.invariant.rests
          ∙ without-append n numbers (waiting c.self.inside.last)
          ∙ ap (λ l. l ++ without_number n (waiting c.self.inside.last))
          (sym c.in_ok-numbers.ensures)
          ∙ ap (λ l. c.in_ok-numbers.numbers ++ l) (sym c.in_ok-last.ensures.same);
    }

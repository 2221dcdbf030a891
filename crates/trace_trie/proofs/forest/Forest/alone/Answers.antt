use Rattle.std.proofs.Common.{◌≡◌, ◌≤◌, List, [], length, sym, ap, ◌∙◌, arith}
use Rattle.std.proofs.lemmas.Bool.{eqb-true}
use Rattle.std.proofs.lemmas.List.{nil_from_length}
use Rattle.trace_trie.specs.Numbered.{Numbered}
use Rattle.trace_trie.specs.Kids.{Kid}
use Rattle.trace_trie.specs.Forests.{passing}
use Rattle.trace_trie.proofs.Alone.{at_tail, alone-goes}
use Rattle.trace_trie.proofs.forest.Forest.alone.Goals as goal

pub returns-then-is_empty : goal.returns-then-is_empty
returns-then-is_empty c =
    let tail = at_tail c.children.view_is c.children.invariant c.in-Tail.is in
    let none : c.args.ends.now ≡ [] =
    nil_from_length c.args.ends.now
    (eqb-true (length c.args.ends.now) 0 (sym c.is_empty.ensures ∙ c.if-is_empty.true)) in
    let within : c.in-Tail.at ≤ length c.in-Tail.trace.value = omega (arith, tail.within) in (
      within,
      ap (λ (q : List Numbered). passing q c.args.children.now) none
          ∙ ap (λ (q : List Kid). passing [] q) tail.is ∙ alone-goes c.in-Tail.number _ tail.some,
    )

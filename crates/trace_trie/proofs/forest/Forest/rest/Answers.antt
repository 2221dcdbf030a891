use Rattle.std.proofs.Common.{[], List, sym, ◌∙◌, subst}
use Rattle.trace_trie.specs.Kids.{Kid, IsSwapped}
use Rattle.trace_trie.proofs.Alone.{only-child}
use Rattle.trace_trie.proofs.Kids.{swapped-gone}
use Rattle.trace_trie.proofs.forest.Forest.rest.Goals as goal

pub returns-then-same : goal.returns-then-same
returns-then-same c =
    let at = only-child c.requires c.kids_differ.ensures in
    let P : List Kid → Type 0 = λ q. IsSwapped c.args.letter [] q [] in
    let Q : List Kid → Type 0 = λ q. IsSwapped c.args.letter [] c.args.self.now q in
    subst Q (sym c.new.ensures) (subst P (sym at.is)
    (swapped-gone c.args.letter c.args.held _ (sym c.same.ensures ∙ c.if-same.true) at.some))

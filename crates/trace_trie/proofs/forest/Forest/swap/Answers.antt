use Rattle.std.proofs.Common.{◌≡◌, ◌∷◌, [], List, sym, ap, ◌∙◌, subst}
use Rattle.std.proofs.lemmas.Result.{IfOk-weaker}
use Rattle.trace_trie.specs.Numbered.{Numbered}
use Rattle.trace_trie.specs.Kids.{Kid, IsSwapped, behind}
use Rattle.trace_trie.specs.Forests.{passing}
use Rattle.trace_trie.proofs.Kids.{behind-one}
use Rattle.trace_trie.proofs.forest.Forest.swap.Goals as goal

pub put-requires : goal.put-requires
put-requires c =
    let held : List Numbered = passing c.args.ends c.args.children in
    let is : behind c.args.letter c.in_ok-one.one ≡ held =
    ap (behind c.args.letter) c.in_ok-one.ensures ∙ behind-one c.args.letter held [] in
    c.in_ok-one.ensures ∙ ap (λ (q : List Numbered). (c.args.letter, q) ∷ []) (sym is)

pub returns : goal.returns
returns c =
    let held : List Numbered = passing c.args.ends c.args.children in
    let is : behind c.args.letter c.in_ok-one.one ≡ held =
    ap (behind c.args.letter) c.in_ok-one.ensures ∙ behind-one c.args.letter held [] in
    let P : List Kid → List Numbered → Type 0 =
    λ made q. IsSwapped c.args.letter q c.args.self.now made in
    IfOk-weaker c.put.result (λ made. P made (behind c.args.letter c.in_ok-one.one))
    (λ made. P made held)
    (λ made s. subst (P made) is s) c.put.ensures

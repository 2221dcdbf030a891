use Rattle.std.proofs.Common.{◌≡◌, ◌++◌, [], ◌∷◌, List, cond, sym, subst}
use Rattle.std.proofs.lemmas.Result.{IfOk-weaker}
use Rattle.trace_trie.specs.Numbered.{Numbered}
use Rattle.trace_trie.specs.Kids.{Kid, IsSwapped, behind}
use Rattle.trace_trie.proofs.Alone.{only-child}
use Rattle.trace_trie.proofs.Kids.{swapped-same, swapped-beside}
use Rattle.trace_trie.proofs.forest.Forest.beside.Goals as goal

pub returns-in-None : goal.returns-in-None
returns-in-None c =
    let at = only-child c.requires.only c.kids_differ.ensures in
    let new = only-child c.requires.one c.kids_differ-2.ensures in
    let held : List Numbered = behind c.args.letter c.args.one in
    let P : List Kid → Type 0 = λ q. IsSwapped c.args.letter held q ((c.args.letter, held) ∷ []) in
    let Q : List Kid → Type 0 = λ q. IsSwapped c.args.letter held c.args.self.now q in
    subst Q (sym new.is) (subst P (sym at.is)
    (swapped-same c.args.letter c.args.held held _ c.in-None.ensures.none at.some new.some))

pub returns-in_ok-share-in-Some : goal.returns-in_ok-share-in-Some
returns-in_ok-share-in-Some c =
    let at = only-child c.requires.only c.kids_differ.ensures in
    let new = only-child c.requires.one c.kids_differ-2.ensures in
    let held : List Numbered = behind c.args.letter c.args.one in
    let one : List Kid = (c.args.letter, held) ∷ [] in
    let others : List Kid = c.in_ok-share-in-Some.field-0 in
    let R : List Kid → Type 0 = λ q. IsSwapped c.args.letter held c.args.self.now q in
    let F : List Kid → Type 0 =
    λ q. IsSwapped c.args.letter held q (cond c.has.result (q ++ one) (one ++ q)) in
    let G : List Kid → Type 0 = λ q. R (cond c.has.result (q ++ one) (one ++ q)) in
    let H : List Kid → Type 0 = λ q. R (cond c.has.result (others ++ q) (q ++ others)) in
    let s =
    swapped-beside c.args.letter c.args.held held _ c.in-Some.name c.has.result (sym c.has.ensures)
    c.in-Some.ensures.some.1 new.some in
    let whole : H c.args.one =
    subst H (sym new.is) (subst G (sym c.in_ok-share-in-Some.ensures) (subst F (sym at.is) s)) in
    IfOk-weaker c.forked.result
    (λ q. q ≡ cond c.has.result (others ++ c.args.one) (c.args.one ++ others)) R
    (λ q e. subst R (sym e) whole) c.forked.ensures

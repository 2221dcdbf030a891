use Rattle.std.proofs.Common.{◌≡◌, ◌-◌, ◌<◌, List, [], ◌∷◌, length, length-drop, take, drop, get_or, slice_get, Some, sym, ap, ◌∙◌, subst}
use Rattle.std.specs.Option.{option_map}
use Rattle.std.proofs.Math.Seq.{take-length}
use Rattle.std.proofs.lemmas.Option.{slice_get-map}
use Rattle.hy_bits.specs.Letter.{Letter}
use Rattle.trace_trie.specs.Numbered.{under, in_order}
use Rattle.trace_trie.specs.Kids.{Kid, kid_letters}
use Rattle.trace_trie.specs.Forests.{passing}
use Rattle.trace_trie.specs.Points.{ends_at, kids_at, rests_of}
use Rattle.trace_trie.specs.declared.point.Point.{Point}
use Rattle.trace_trie.proofs.Finding.{child-right, alone-child}
use Rattle.trace_trie.proofs.point.Point.at.Goals as goal

pub returns-in-Node-clause-child : goal.returns-in-Node-clause-child
returns-in-Node-clause-child c =
    let kids = c.in-Node.children.now in
    let a = c.at-letter.result.0 in
    let at : slice_get (kid_letters kids) c.args.i ≡ Some a =
    slice_get-map (λ (k : Kid). k.0) kids c.args.i
    ∙ ap (option_map (λ (k : Kid). k.0)) c.at-letter.ensures in
    let P : Point → Type 0 =
    λ q. rests_of c.behind.result ≡ under a (in_order (passing (ends_at q) (kids_at q))) in
    subst P (sym c.in-Node.is) (c.behind.ensures
    ∙ child-right c.in-Node.field-0.now kids c.args.i a _ c.kids_differ.ensures c.at-letter.ensures
    at)

pub returns-in-Alone-clause-child : goal.returns-in-Alone-clause-child
returns-in-Alone-clause-child c =
    let t : List Letter = c.in-Alone.rest.now in
    let n = c.in-Alone.number in
    let a : Letter = get_or t 0 c.index-rest-0.result in
    let rest : take (length t - 1) (drop 1 t) ≡ drop 1 t =
    ap (λ k. take k (drop 1 t)) (sym (length-drop 1 t)) ∙ take-length (drop 1 t) in
    let P : Point → Type 0 =
    λ q. rests_of c.of_one.result ≡ under a (in_order (passing (ends_at q) (kids_at q))) in
    let Q : Point → Type 0 = λ q. c.args.i < length (kid_letters (kids_at q)) in
    subst P (sym c.in-Alone.is) (c.of_one.ensures.rests
    ∙ ap (λ (q : List Letter). (n, q) ∷ []) rest
    ∙ alone-child n t c.args.i c.index-rest-0.result (subst Q c.in-Alone.is c.requires))

use Rattle.std.proofs.Common.{◌≡◌, ◌-◌, ◌+◌, List, ◌∷◌, [], drop, slice_get, Some, sym, ap, ◌∙◌, arith}
use Rattle.hy_base.proofs.Places.{drop-at}
use Rattle.hy_bits.specs.Letter.{Letter}
use Rattle.trace_trie.specs.Numbered.{Numbered}
use Rattle.trace_trie.specs.Forests.{passing, kids_alone}
use Rattle.trace_trie.proofs.Lettering.{equal-letter}
use Rattle.trace_trie.proofs.forest.Forest.longer.Goals as goal

pub returns-in_ok-trace-in-Some : goal.returns-in_ok-trace-in-Some
returns-in_ok-trace-in-Some c =
    let at = c.in-Some.at in
    let trace : List Letter = c.in-Some.trace.now.value in
    let before : (at - 1) + 1 ≡ at = omega (arith, c.if-at-gt0.true) in
    let e : slice_get trace (at - 1) ≡ Some c.at.result =
    ap (λ (q : List Letter). slice_get q (at - 1)) (sym c.deref.ensures) ∙ c.at.ensures in
    let whole : drop (at - 1) trace ≡ c.at.result ∷ drop at trace =
    drop-at trace (at - 1) c.at.result e ∙ ap (λ k. c.at.result ∷ drop k trace) before in
    let same : c.args.letter ≡ c.at.result =
    equal-letter c.args.letter c.at.result (sym c.same.ensures ∙ c.if-same.true) in
    c.tail.ensures ∙ ap (λ (q : List Letter). kids_alone c.in-Some.number (drop (at - 1) q))
    c.in_ok-trace-in-Some.ensures.cases
    ∙ ap (kids_alone c.in-Some.number) whole
    ∙ ap (λ (q : List Numbered). (c.at.result, q) ∷ []) (sym c.in-Some.ensures.1)
    ∙ ap (λ (q : Letter). (q, passing c.args.ends.now c.args.children.now) ∷ []) (sym same)

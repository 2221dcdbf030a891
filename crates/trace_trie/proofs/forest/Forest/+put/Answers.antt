use Rattle.std.proofs.Common.{◌≡◌, ◌++◌, [], ◌∷◌, List, true, false, slice_get, Some, sym, ap, ◌∙◌, subst}
use Rattle.std.proofs.lemmas.Result.{IfOk-weaker}
use Rattle.std.specs.FinSet.{contains}
use Rattle.hy_bits.specs.Letter.{Letter}
use Rattle.hy_formula.specs.Quantifiers.{Each}
use Rattle.trace_trie.specs.Numbered.{Numbered}
use Rattle.trace_trie.specs.Kids.{Kid, IsSwapped, behind}
use Rattle.trace_trie.specs.Forests.{kids_of}
use Rattle.trace_trie.proofs.Kids.{each-swapped, swapped-none}
use Rattle.trace_trie.proofs.Alone.{child-itself, only-child, at_tail, tail_child}
use Rattle.trace_trie.proofs.Forked.{at_fork, at_child, swapped-have, swapped-lack}
use Rattle.trace_trie.proofs.forest.Forest.+put.Goals as goal

pub beside-requires-clause-only : goal.beside-requires-clause-only
beside-requires-clause-only t c =
    child-itself (at_child c.self.view_is c.self.invariant c.in-Child.is)

pub beside-requires-in-Tail-clause-only : goal.beside-requires-in-Tail-clause-only
beside-requires-in-Tail-clause-only t c =
    let e : slice_get c.in-Tail.trace.value c.in-Tail.at ≡ Some c.at.result =
    ap (λ (q : List Letter). slice_get q c.in-Tail.at) (sym c.deref.ensures) ∙ c.at.ensures in
    child-itself (tail_child (at_tail c.self.view_is c.self.invariant c.in-Tail.is) e)

pub with_second-requires-clause-lack : goal.with_second-requires-clause-lack
with_second-requires-clause-lack t c =
    let at = at_fork c.self.view_is c.self.invariant c.in-Fork.is in
    at.lack

pub with_second-requires-clause-have : goal.with_second-requires-clause-have
with_second-requires-clause-have t c =
    let at = at_fork c.self.view_is c.self.invariant c.in-Fork.is in
    let P : List Kid → Type 0 = Each (λ (k : Kid). contains k.0 c.in-Fork.name ≡ true) in
    each-swapped (λ (a : Letter). contains a c.in-Fork.name ≡ true) c.in_ok-more-in-Fork.ensures
    (sym c.has.ensures ∙ c.if-has.true) (subst P (sym c.deref-then-has.ensures) at.have)

pub with_first-requires-clause-lack : goal.with_first-requires-clause-lack
with_first-requires-clause-lack t c =
    let at = at_fork c.self.view_is c.self.invariant c.in-Fork.is in
    let P : List Kid → Type 0 = Each (λ (k : Kid). contains k.0 c.in-Fork.name ≡ false) in
    each-swapped (λ (a : Letter). contains a c.in-Fork.name ≡ false) c.in_ok-more-in-Fork-2.ensures
    (sym c.has.ensures ∙ c.if-has.false) (subst P (sym c.deref-else-has.ensures) at.lack)

pub with_first-requires-clause-have : goal.with_first-requires-clause-have
with_first-requires-clause-have t c =
    let at = at_fork c.self.view_is c.self.invariant c.in-Fork.is in
    at.have

pub returns-in-Bare : goal.returns-in-Bare
returns-in-Bare t c =
    let one = only-child c.requires c.kids_differ.ensures in
    let held : List Numbered = behind c.args.letter c.args.one in
    let P : List Kid → Type 0 = λ q. IsSwapped c.args.letter held c.args.self.now q in
    let Q : List Kid → Type 0 = λ q. IsSwapped c.args.letter held q ((c.args.letter, held) ∷ []) in
    let none : [] ≡ c.args.self.now = sym (ap kids_of c.in-Bare.is) ∙ c.self.view_is in
    subst P (sym one.is) (subst Q none (swapped-none c.args.letter held one.some))

pub returns-in_ok-more-in-Fork : goal.returns-in_ok-more-in-Fork
returns-in_ok-more-in-Fork t c =
    let at = at_fork c.self.view_is c.self.invariant c.in-Fork.is in
    let P : List Kid → Type 0 =
    λ (q : List Kid). IsSwapped c.args.letter (behind c.args.letter c.args.one) q
    c.in_ok-more-in-Fork.more in
    let Q : List Kid → Type 0 =
    λ (q : List Kid). IsSwapped c.args.letter (behind c.args.letter c.args.one) c.args.self.now q in
    let s : Q (c.in-Fork.first.value ++ c.in_ok-more-in-Fork.more) =
    swapped-have c.args.letter at (sym c.has.ensures ∙ c.if-has.true)
    (subst P c.deref-then-has.ensures c.in_ok-more-in-Fork.ensures) in
    IfOk-weaker c.with_second.result
    (λ (q : List Kid). q ≡ c.in-Fork.first.value ++ c.in_ok-more-in-Fork.more) Q
    (λ q e. subst Q (sym e) s) c.with_second.ensures

pub returns-in_ok-more-in-Fork-2 : goal.returns-in_ok-more-in-Fork-2
returns-in_ok-more-in-Fork-2 t c =
    let at = at_fork c.self.view_is c.self.invariant c.in-Fork.is in
    let P : List Kid → Type 0 =
    λ (q : List Kid). IsSwapped c.args.letter (behind c.args.letter c.args.one) q
    c.in_ok-more-in-Fork-2.more in
    let Q : List Kid → Type 0 =
    λ (q : List Kid). IsSwapped c.args.letter (behind c.args.letter c.args.one) c.args.self.now q in
    let s : Q (c.in_ok-more-in-Fork-2.more ++ c.in-Fork.second.value) =
    swapped-lack c.args.letter at (sym c.has.ensures ∙ c.if-has.false)
    (subst P c.deref-else-has.ensures c.in_ok-more-in-Fork-2.ensures) in
    IfOk-weaker c.with_first.result
    (λ (q : List Kid). q ≡ c.in_ok-more-in-Fork-2.more ++ c.in-Fork.second.value) Q
    (λ q e. subst Q (sym e) s) c.with_first.ensures

use Rattle.std.proofs.Common.{ℕ, List, sym, ◌∙◌, subst}
use Rattle.std.proofs.lemmas.Option.{IfSome_then}
use Rattle.std.specs.List.{Contains}
use Rattle.hy_bits.specs.Letter.{Letter}
use Rattle.trace_trie.specs.Kids.{Kid, spread}
use Rattle.trace_trie.proofs.Alone.{at_tail, alone-any}
use Rattle.trace_trie.proofs.Forked.{at_fork, at_child}
use Rattle.trace_trie.proofs.Finding.{any-ended, any-behind, any-left}
use Rattle.trace_trie.proofs.forest.Forest.+any.Goals as goal

pub returns-in-Some-clause-some : goal.returns-in-Some-clause-some
returns-in-Some-clause-some t c =
    let at = at_child c.self.view_is c.self.invariant c.in-Child.is in
    let P : List Kid → Type 0 =
    λ (q : List Kid). (t : List Letter) × Contains (spread q) (c.in-Some.number, t) in
    subst P (sym at.is) (any-ended _ c.in-Child.ends c.in-Child.children.value c.in-Some.number
    (sym c.first.ensures ∙ c.in-Some.is))

pub returns-in-None-clause-some : goal.returns-in-None-clause-some
returns-in-None-clause-some t c =
    let at = at_child c.self.view_is c.self.invariant c.in-Child.is in
    let P : List Kid → ℕ → Type 0 =
    λ (q : List Kid) (n : ℕ). (t : List Letter) × Contains (spread q) (n, t) in
    IfSome_then c.any.result {P = λ (n : ℕ). P c.deref.result.now n}
    {Q = λ (n : ℕ). P c.args.self.now n} c.any.ensures.some
    (λ n h. let Q : List Kid → Type 0 = λ (q : List Kid). P q n in subst Q (sym at.is)
    (any-behind _ c.in-Child.ends c.in-Child.children.value n (subst Q c.deref.ensures h)))

pub returns-in-Fork-clause-some : goal.returns-in-Fork-clause-some
returns-in-Fork-clause-some t c =
    let at = at_fork c.self.view_is c.self.invariant c.in-Fork.is in
    let P : List Kid → ℕ → Type 0 =
    λ (q : List Kid) (n : ℕ). (t : List Letter) × Contains (spread q) (n, t) in
    IfSome_then c.any-in-Fork.result {P = λ (n : ℕ). P c.deref-in-Fork.result.now n}
    {Q = λ (n : ℕ). P c.args.self.now n} c.any-in-Fork.ensures.some
    (λ n h. let Q : List Kid → Type 0 = λ (q : List Kid). P q n in subst Q (sym at.is)
    (any-left c.in-Fork.first.value c.in-Fork.field-3.value n (subst Q c.deref-in-Fork.ensures h)))

pub returns-in-Tail-clause-some : goal.returns-in-Tail-clause-some
returns-in-Tail-clause-some t c =
    let tail = at_tail c.self.view_is c.self.invariant c.in-Tail.is in
    let P : List Kid → Type 0 =
    λ q. (u : List Letter) × Contains (spread q) (c.in-Tail.number, u) in
    subst P (sym tail.is) (alone-any c.in-Tail.number _ tail.some)

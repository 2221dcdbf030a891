use Rattle.std.proofs.Common.{◌≡◌, ◌<◌, ◌+◌, ◌≤◌, List, [], ◌∷◌, length, sym, ap, ◌∙◌, subst, drop, arith}
use Rattle.hy_base.proofs.Places.{drop-at}
use Rattle.hy_bits.specs.Letter.{Letter}
use Rattle.hy_formula.specs.Quantifiers.{Each}
use Rattle.hy_formula.proofs.Each.{each-right, each-like}
use Rattle.trace_trie.specs.Numbered.{Numbered, ended, without_number}
use Rattle.trace_trie.specs.Kids.{behind, spread}
use Rattle.trace_trie.specs.Forests.{passing}
use Rattle.trace_trie.proofs.Rests.{each-behind, without-ended, without-spread}
use Rattle.trace_trie.proofs.Lettering.{drop-end}
use Rattle.trace_trie.proofs.node.+uprooted.Goals as goal

tail-is : (a : Letter) (t u : List Letter) → a ∷ t ≡ a ∷ u → t ≡ u
tail-is a t u e = cc

pub returns-then-at-len : goal.returns-then-at-len
returns-then-at-len t c =
    let len : c.len.result ≡ length c.args.trace.now = c.len.ensures.len in
    let left : drop c.args.at c.args.trace.now ≡ [] =
    drop-end c.args.trace.now c.args.at (omega (arith, len, c.if-at-len.true)) in
    let P : List Letter → Type 0 =
    λ (q : List Letter). Each (λ (p : Numbered). p.0 ≡ c.args.number → p.1 ≡ q)
    (passing c.args.node.ends c.args.node.children) in
    rw c.in_ok-ends.ensures (without-ended c.args.number c.args.node.ends c.args.node.children
    (subst P left c.requires.only))

pub uprooted-requires : goal.uprooted-requires
uprooted-requires t c =
    let len : c.len.result ≡ length c.args.trace.now = c.len.ensures.len in
    let trace : List Letter = c.args.trace.now in
    let lt : c.args.at < length c.args.trace.now =
    omega (arith, len, c.if-at-len.false, c.requires.within) in
    let within : c.args.at + 1 ≤ length c.args.trace.now = omega (arith, lt) in
    let left : drop c.args.at trace ≡ c.at-letter.result ∷ drop (c.args.at + 1) trace =
    drop-at trace c.args.at c.at-letter.result c.at-letter.ensures in
    let P : List Letter → Type 0 =
    λ (q : List Letter). Each (λ (p : Numbered). p.0 ≡ c.args.number → p.1 ≡ q)
    (passing c.args.node.ends c.args.node.children) in
    let Q : List Numbered → Type 0 =
    Each (λ (p : Numbered). p.0 ≡ c.args.number → p.1 ≡ drop (c.args.at + 1) trace) in
    let only = subst P left c.requires.only in (
      omega (arith, lt, c.decreases),
      (
        within,
        subst Q (c.in-Some.ensures.some ∙ sym c.in_ok-behind-in-Some.ensures)
            (each-like (λ (p : Numbered). p.0 ≡ c.args.number → c.at-letter.result ∷
            p.1 ≡ c.at-letter.result ∷ drop (c.args.at + 1) trace)
            (λ (p : Numbered). p.0 ≡ c.args.number → p.1 ≡ drop (c.args.at + 1) trace)
            (λ p f e. tail-is c.at-letter.result p.1 (drop (c.args.at + 1) trace) (f e)) _
            (each-behind (λ (p : Numbered). p.0 ≡ c.args.number → p.1 ≡ c.at-letter.result ∷ drop
            (c.args.at + 1) trace) c.at-letter.result c.args.node.children
            (each-right (λ (p : Numbered). p.0 ≡ c.args.number → p.1 ≡ c.at-letter.result ∷ drop
            (c.args.at + 1) trace) (ended c.args.node.ends) (spread c.args.node.children) only))),
      ),
    )

pub returns-in-None : goal.returns-in-None
returns-in-None t c =
    let trace : List Letter = c.args.trace.now in
    let left : drop c.args.at trace ≡ c.at-letter.result ∷ drop (c.args.at + 1) trace =
    drop-at trace c.args.at c.at-letter.result c.at-letter.ensures in
    let P : List Letter → Type 0 =
    λ (q : List Letter). Each (λ (p : Numbered). p.0 ≡ c.args.number → p.1 ≡ q)
    (passing c.args.node.ends c.args.node.children) in
    without-spread c.args.number (drop (c.args.at + 1) trace) c.args.node.ends
    c.in_ok-children-in-None.ensures (sym c.in-None.ensures.none) (subst P left c.requires.only)

pub returns : goal.returns
returns t c =
    let trace : List Letter = c.args.trace.now in
    let left : drop c.args.at trace ≡ c.at-letter.result ∷ drop (c.args.at + 1) trace =
    drop-at trace c.args.at c.at-letter.result c.at-letter.ensures in
    let P : List Letter → Type 0 =
    λ (q : List Letter). Each (λ (p : Numbered). p.0 ≡ c.args.number → p.1 ≡ q)
    (passing c.args.node.ends c.args.node.children) in
    let below = c.in_ok-below-in-Some.below in
    let rest : passing below.ends below.children ≡ without_number c.args.number
    (behind c.at-letter.result c.args.node.children) =
    c.in_ok-below-in-Some.ensures
    ∙ ap (without_number c.args.number)
    (c.in_ok-behind-in-Some.ensures ∙ sym c.in-Some.ensures.some) in
    without-spread c.args.number (drop (c.args.at + 1) trace) c.args.node.ends
    c.in_ok-children-in-Some.ensures rest (subst P left c.requires.only)

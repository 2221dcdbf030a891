use Rattle.std.proofs.Common.{◌≡◌, List, [], length, sym, ap, ◌∙◌, subst, arith}
use Rattle.trace_trie.specs.Numbered.{Numbered, under, in_order}
use Rattle.trace_trie.specs.Forests.{passing}
use Rattle.trace_trie.specs.Grown.{left_in}
use Rattle.trace_trie.specs.Points.{ends_at, kids_at, rests_of}
use Rattle.trace_trie.specs.declared.point.Point.{Point}
use Rattle.trace_trie.proofs.Ordering.{length-in-order}
use Rattle.trace_trie.proofs.Walking.{child-some, child-none}
use Rattle.trace_trie.proofs.point.Point.child_of.Goals as goal

pub returns-in-Some-clause-some : goal.returns-in-Some-clause-some
returns-in-Some-clause-some c =
    let P : Point → Type 0 =
    λ q. rests_of c.behind.result ≡ under c.args.letter
    (in_order (passing (ends_at q) (kids_at q))) in
    subst P (sym c.in-Node.is) (c.behind.ensures
    ∙ child-some c.args.letter c.in-Node.field-0.now c.in-Node.children.now c.kids_differ.ensures
    (left_in c.in-Some.grown) c.in-Some.ensures.some)

pub returns-in-Some-clause-passed : goal.returns-in-Some-clause-passed
returns-in-Some-clause-passed c =
    let rests : List Numbered = left_in c.in-Some.grown in
    omega (arith, ap length c.behind.ensures, length-in-order rests, c.in-Some.ensures.passed)

pub returns-in-None-clause-none : goal.returns-in-None-clause-none
returns-in-None-clause-none c =
    let P : Point → Type 0 =
    λ q. under c.args.letter (in_order (passing (ends_at q) (kids_at q))) ≡ [] in
    subst P (sym c.in-Node.is)
    (child-none c.args.letter c.in-Node.field-0.now c.in-Node.children.now c.kids_differ.ensures
    c.in-None.ensures.none)

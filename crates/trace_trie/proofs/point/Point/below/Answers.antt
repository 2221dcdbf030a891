use Rattle.std.proofs.Common.{ℕ, List, [], Option, sym, ◌∙◌, subst}
use Rattle.std.proofs.lemmas.Option.{IfSome_then}
use Rattle.std.specs.List.{Contains}
use Rattle.std.specs.Option.{IfSome}
use Rattle.hy_bits.specs.Letter.{Letter}
use Rattle.trace_trie.specs.Kids.{spread}
use Rattle.trace_trie.specs.Numbered.{in_order}
use Rattle.trace_trie.specs.Forests.{passing}
use Rattle.trace_trie.specs.Points.{ends_at, kids_at}
use Rattle.trace_trie.specs.declared.point.Point.{Point}
use Rattle.trace_trie.proofs.Finding.{first-some, any-passing, alone-below}
use Rattle.trace_trie.proofs.point.Point.below.Goals as goal

abbrev Passes : ℕ → Point → Type 0
Passes n q = (t : List Letter) × Contains (in_order (passing (ends_at q) (kids_at q))) (n, t)

pub returns-in-Some-clause-some : goal.returns-in-Some-clause-some
returns-in-Some-clause-some c =
    let ends = c.in-Node.ends.now in
    let kids = c.in-Node.children.now in
    let P : Option ℕ → Type 0 =
    λ q. IfSome q (λ n. Contains (in_order (passing ends kids)) (n, [])) in
    subst (Passes c.in-Some.number) (sym c.in-Node.is)
    ([], subst P (sym c.first.ensures ∙ c.in-Some.is) (first-some ends kids))

pub returns-in-None-clause-some : goal.returns-in-None-clause-some
returns-in-None-clause-some c =
    let ends = c.in-Node.ends.now in
    let kids = c.in-Node.children.now in
    IfSome_then c.any.result {P = λ (n : ℕ). (t : List Letter) × Contains (spread kids) (n, t)}
    {Q = λ (n : ℕ). Passes n c.args.self.now} c.any.ensures.some
    (λ n h. subst (Passes n) (sym c.in-Node.is) (any-passing ends kids n h))

pub returns-in-Alone-clause-some : goal.returns-in-Alone-clause-some
returns-in-Alone-clause-some c =
    subst (Passes c.in-Alone.number) (sym c.in-Alone.is)
    (alone-below c.in-Alone.number c.in-Alone.field-1.now)

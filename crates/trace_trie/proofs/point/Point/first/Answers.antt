use Rattle.std.proofs.Common.{◌<◌, [], length, sym, subst}
use Rattle.std.specs.List.{Contains}
use Rattle.std.specs.Option.{IfSome, IfNone}
use Rattle.hy_formula.specs.Quantifiers.{Each}
use Rattle.trace_trie.specs.Numbered.{Numbered, in_order}
use Rattle.trace_trie.specs.Forests.{passing}
use Rattle.trace_trie.specs.Points.{ends_at, kids_at}
use Rattle.trace_trie.specs.declared.point.Point.{Point}
use Rattle.trace_trie.proofs.Finding.{first-some, first-none}
use Rattle.trace_trie.proofs.point.Point.first.Goals as goal

pub returns-in-Node-clause-some : goal.returns-in-Node-clause-some
returns-in-Node-clause-some c =
    let P : Point → Type 0 =
    λ q. IfSome c.first.result
    (λ n. Contains (in_order (passing (ends_at q) (kids_at q))) (n, [])) in
    subst P (sym c.in-Node.is)
    (rw c.first.ensures (first-some c.in-Node.ends.now c.in-Node.field-1.now))

pub returns-in-Node-clause-none : goal.returns-in-Node-clause-none
returns-in-Node-clause-none c =
    let P : Point → Type 0 =
    λ q. IfNone c.first.result
    (Each (λ (p : Numbered). 0 < length p.1) (in_order (passing (ends_at q) (kids_at q)))) in
    subst P (sym c.in-Node.is)
    (rw c.first.ensures (first-none c.in-Node.ends.now c.in-Node.field-1.now))

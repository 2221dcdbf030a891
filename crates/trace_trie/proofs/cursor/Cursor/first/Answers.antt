use Rattle.std.proofs.Common.{◌≡◌, [], List, length, sym, ◌∙◌, subst}
use Rattle.std.proofs.lemmas.Bool.{eqb-true}
use Rattle.std.proofs.lemmas.List.{nil_from_length}
use Rattle.std.specs.List.{Contains}
use Rattle.hy_bits.specs.Letter.{Letter}
use Rattle.trace_trie.specs.Cursors.{rests_at}
use Rattle.trace_trie.specs.Points.{rests_of}
use Rattle.trace_trie.proofs.Beside.{newest-passes}
use Rattle.trace_trie.proofs.cursor.Cursor.first.Goals as goal

pub returns-in-Some-newest-clause-some : goal.returns-in-Some-newest-clause-some
returns-in-Some-newest-clause-some c =
    let rest : List Letter = c.in-Some-newest.rest.now in
    let none : rest ≡ [] =
    nil_from_length rest (eqb-true (length rest) 0 (sym c.is_empty.ensures ∙ c.if-is_empty.true)) in
    let P : List Letter → Type 0 = λ q. Contains (rests_at c.args.self.now) (c.in-Some-newest.number, q) in
    subst P none (newest-passes (rests_of c.args.self.now.point) c.in-Some-newest.is)

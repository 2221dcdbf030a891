use Rattle.std.proofs.Common.{◌≡◌, ℕ, ◌∙◌, arith, sym, subst, length}
use Rattle.std.specs.FinSet.{union}
use Rattle.hy_bits.proofs.RowOperations.{AreOred, ored-all, ored-words, members-union}
use Rattle.hy_bits.proofs.bit_row.BitRow.union.Goals as goal

pub invariant_of-result : goal.invariant_of-result
invariant_of-result g c =
    let xs = c.self.inside.words in
    let ys = c.other.inside.words in
    let whole : c.loop-j.j ≡ length xs = omega (arith, c.self.invariant.1) in
    let P : ℕ → Type 0 = λ j. AreOred xs ys j c.loop-j.words in
    let each = ored-all xs ys c.loop-j.words (c.other.invariant.1 ∙ sym c.self.invariant.1)
    (subst P whole c.loop-j.invariant) in (
      c.requires,
      c.loop-j.invariant.long ∙ c.self.invariant.1,
      ored-words xs ys c.loop-j.words c.self.invariant.2 c.other.invariant.2 each,
    )

pub returns : goal.returns
returns g c =
    let xs = c.self.inside.words in
    let ys = c.other.inside.words in
    let whole : c.loop-j.j ≡ length xs = omega (arith, c.self.invariant.1) in
    let P : ℕ → Type 0 = λ j. AreOred xs ys j c.loop-j.words in
    let each = ored-all xs ys c.loop-j.words (c.other.invariant.1 ∙ sym c.self.invariant.1)
    (subst P whole c.loop-j.invariant) in
    members-union xs ys c.self.invariant.2 c.other.invariant.2 c.loop-j.words
    (ored-words xs ys c.loop-j.words c.self.invariant.2 c.other.invariant.2 each) each
    ∙ (λ i. union (c.self.view_is i) (c.other.view_is i))

use Rattle.std.proofs.Common.{◌≤◌, sym, ◌∙◌, inl, inr, arith, length, get_or, bit_and}
use Rattle.std.proofs.lemmas.Bool.{cases_lt}
use Rattle.std.proofs.lemmas.List.{get_or_past}
use Rattle.std.specs.FinSet.{is_subset}
use Rattle.hy_bits.proofs.RowOperations.{is_subset-within, is_subset-beyond}
use Rattle.hy_bits.proofs.bit_row.BitRow.is_subset.Goals as goal

pub returns-then-self-j : goal.returns-then-self-j
returns-then-self-j g c =
    sym (is_subset-beyond c.self.inside.words c.other.inside.words c.self.invariant.2
    c.other.invariant.2 c.loop-j.j c.if-self-j.true)
    ∙ (λ i. is_subset (c.self.view_is i) (c.other.view_is i))

pub returns : goal.returns
returns g c =
    let xs = c.self.inside.words in
    let ys = c.other.inside.words in
    sym (is_subset-within xs ys c.self.invariant.2 c.other.invariant.2 (λ k.
    elim (cases_lt k c.loop-j.j) [
      | inl lt ↦ c.loop-j.invariant k lt
      | inr le ↦
          let past : length xs ≤ k = omega (arith, c.self.invariant.1) in
          (λ i. bit_and (get_or_past xs k 0 past i) (get_or ys k 0)) ∙ sym (get_or_past xs k 0 past)
    ]))
    ∙ (λ i. is_subset (c.self.view_is i) (c.other.view_is i))

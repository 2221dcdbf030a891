use Rattle.std.proofs.Common.{List, not, eqb, length, take, ap, arith, length-take}
use Rattle.trace_trie.specs.Numbered.{Numbered}
use Rattle.trace_trie.proofs.Numbering.{no_longer}
use Rattle.trace_trie.proofs.bucket.Bucket.without.Goals as goal

pub invariant_of-result : goal.invariant_of-result
invariant_of-result c =
    let items : List Numbered = c.deref-held-items.result.now in
    let i = c.loop-held.held-index in
    omega (
      arith,
      ap length c.loop-held.invariant,
      no_longer (λ (p : Numbered). not (eqb p.0 c.args.number)) (take i items),
      length-take i items,
      ap length c.deref-held-items.ensures.value,
      c.self.invariant,
    )

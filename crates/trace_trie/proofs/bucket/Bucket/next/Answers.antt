use Rattle.std.proofs.Common.{◌≡◌, suc, List, drop, sym, ap, ◌∙◌, subst, get_or}
use Rattle.trace_trie.specs.Numbered.{Numbered, rest_from}
use Rattle.trace_trie.proofs.Numbering.{rest-at}
use Rattle.trace_trie.proofs.bucket.Bucket.next.Goals as goal

pub returns-then-from-held-clause-some : goal.returns-then-from-held-clause-some
returns-then-from-held-clause-some c =
    let items : List Numbered = c.deref-held-items.result.now in
    let i = c.loop-held.held-index in
    let held : Numbered = (c.held.inside.number, c.deref-trace.result.now) in
    let is : c.held-item.result ≡ held = sym c.held.view_is ∙ ap (λ t. (c.held.inside.number, t)) (sym c.deref-trace.ensures) in
    let at : held ≡ get_or items i held = subst (λ h. h ≡ get_or items i h) is c.held-item.is in
    let all : c.args.self.now ≡ items = sym (c.deref-held-items.ensures.value ∙ c.self.view_is) in (
      drop (suc i) items,
      ap (rest_from c.args.from) all ∙ c.loop-held.invariant
          ∙ rest-at c.args.from items i held c.loop-held-test.true at c.if-from-held.true,
    )

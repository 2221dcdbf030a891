use Rattle.std.proofs.Common.{◌≡◌, List, inl, inr, sym, ◌∙◌, subst}
use Rattle.trace_trie.specs.Numbered.{Numbered}
use Rattle.trace_trie.specs.Newests.{IsLast}
use Rattle.trace_trie.proofs.Waiting.{ascending-last}
use Rattle.trace_trie.proofs.version.Version.settled.Goals as goal

pub take_in-requires : goal.take_in-requires
take_in-requires c =
    let base : List Numbered = c.self.inside.base.value in
    let same : c.in_ok-make_mut.field-0.now ≡ c.in_ok-base.base.value =
    elim c.in_ok-make_mut.ensures.value [ inl e ↦ e | inr e ↦ e ] in
    let P : List Numbered → Type 0 = IsLast c.self.inside.newest in
    subst P (sym (same ∙ c.in_ok-base.ensures.cases))
    (ascending-last c.self.inside.newest base c.self.invariant.ascending)

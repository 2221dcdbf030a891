use Rattle.std.proofs.Common.{◌≡◌, ◌≤◌, ◌<◌, List, [], ◌∷◌, ◌++◌, length, length-append, inl, inr, refl, subst, sym, ap, ◌∙◌, arith}
use Rattle.hy_formula.specs.Quantifiers.{Each}
use Rattle.hy_formula.proofs.Each.{each-append}
use Rattle.trace_trie.specs.Numbered.{Numbered}
use Rattle.trace_trie.proofs.Parts.{at_two, split-le, all-second, shorter-second}
use Rattle.trace_trie.proofs.numbers.Numbers.+add.Goals as goal

pub add-requires : goal.add-requires
add-requires t c =
    let at = at_two c.self.view_is c.self.invariant c.in-Two.is in
    let P : List Numbered → Type 0 = Each (λ (p : Numbered). p.0 < c.args.number) in
    let shorter : length c.in-Two.second.value < length c.args.self.now = shorter-second c.args.number at in
    let e : c.in_ok-make_mut-in-Two.field-0.now ≡ c.in-Two.second.value =
    elim c.in_ok-make_mut-in-Two.ensures.value [ inl h ↦ h | inr h ↦ h ] in
    (rw e (omega (arith, shorter, c.decreases)), subst P (sym e) (all-second c.args.number at c.requires))

pub invariant_of-self-then-count : goal.invariant_of-self-then-count
invariant_of-self-then-count t c =
    let at = at_two c.self.view_is c.self.invariant c.in-Two.is in
    let second : List Numbered = c.in-Two.second.value in
    let new : Numbered = (c.args.number, c.args.trace.now.value) in
    let P : List Numbered → Type 0 = Each (λ (p : Numbered). c.in-Two.field-0 ≤ p.0) in
    let e : c.in_ok-make_mut-in-Two.field-0.now ≡ second =
    elim c.in_ok-make_mut-in-Two.ensures.value [ inl h ↦ h | inr h ↦ h ] in
    let is : (c.make_mut.follows.lender c.add.new.self).value ≡ second ++ new ∷ [] =
    c.make_mut.follows.holds c.add.new.self (rw c.in_ok-make_mut-in-Two.was refl)
    ∙ c.in_ok-add-in-Two.ensures.added ∙ ap (λ q. q ++ new ∷ []) e in (
      at.first,
      omega (arith, ap length is, length-append second (new ∷ [])),
      at.below,
      subst P (sym is) (each-append (λ (p : Numbered). c.in-Two.field-0 ≤ p.0) second (new ∷ []) at.above
          (split-le c.args.number at c.requires, tt)),
    )

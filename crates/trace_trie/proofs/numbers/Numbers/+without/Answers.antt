use Rattle.std.proofs.Common.{◌≡◌, ◌≤◌, ◌<◌, List, not, eqb, subst, sym, ap, ◌∙◌}
use Rattle.hy_formula.specs.Quantifiers.{Each}
use Rattle.hy_formula.proofs.Each.{each-filter}
use Rattle.trace_trie.specs.Numbered.{Numbered, without_number}
use Rattle.trace_trie.proofs.Parts.{at_two, without-below, without-above}
use Rattle.trace_trie.proofs.numbers.Numbers.+without.Goals as goal

pub with_first-requires-clause-below : goal.with_first-requires-clause-below
with_first-requires-clause-below t c =
    let at = at_two c.self.view_is c.self.invariant c.in-Two.is in
    let P : List Numbered → Type 0 = Each (λ (p : Numbered). p.0 < c.in-Two.split) in
    subst P (sym (c.in_ok-rest-in-Two.ensures ∙ ap (without_number c.args.number) c.deref.ensures))
    (each-filter (λ (p : Numbered). p.0 < c.in-Two.split) (λ (p : Numbered). not (eqb p.0 c.args.number)) _ at.below)

pub with_first-requires-clause-above : goal.with_first-requires-clause-above
with_first-requires-clause-above t c =
    let at = at_two c.self.view_is c.self.invariant c.in-Two.is in
    at.above

pub with_second-requires-clause-below : goal.with_second-requires-clause-below
with_second-requires-clause-below t c =
    let at = at_two c.self.view_is c.self.invariant c.in-Two.is in
    at.below

pub with_second-requires-clause-above : goal.with_second-requires-clause-above
with_second-requires-clause-above t c =
    let at = at_two c.self.view_is c.self.invariant c.in-Two.is in
    let P : List Numbered → Type 0 = Each (λ (p : Numbered). c.in-Two.split ≤ p.0) in
    subst P (sym (c.in_ok-rest-in-Two-2.ensures ∙ ap (without_number c.args.number) c.deref-else-number-split.ensures))
    (each-filter (λ (p : Numbered). c.in-Two.split ≤ p.0) (λ (p : Numbered). not (eqb p.0 c.args.number)) _ at.above)

pub returns-in_ok-rest-in-Two : goal.returns-in_ok-rest-in-Two
returns-in_ok-rest-in-Two t c =
    let at = at_two c.self.view_is c.self.invariant c.in-Two.is in
    let e : c.in_ok-rest-in-Two.rest ≡ without_number c.args.number c.in-Two.first.value = c.in_ok-rest-in-Two.ensures ∙ ap (without_number c.args.number) c.deref.ensures in
    rw (without-below c.args.number at c.if-number-split.true, sym e) c.with_first.ensures

pub returns-in_ok-rest-in-Two-2 : goal.returns-in_ok-rest-in-Two-2
returns-in_ok-rest-in-Two-2 t c =
    let at = at_two c.self.view_is c.self.invariant c.in-Two.is in
    let e : c.in_ok-rest-in-Two-2.rest ≡ without_number c.args.number c.in-Two.second.value = c.in_ok-rest-in-Two-2.ensures ∙ ap (without_number c.args.number) c.deref-else-number-split.ensures in
    rw (without-above c.args.number at c.if-number-split.false, sym e) c.with_second.ensures

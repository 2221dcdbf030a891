use Rattle.std.proofs.Common.{◌≡◌, ◌<◌, ◌≤◌, Option, length, nat_cmp, get_or, sym, ap, ◌∙◌, subst, Bor}
use Rattle.std.specs.FinSet.{empty, contains, contains-empty}
use Rattle.std.specs.Option.{is_some, IfSome}
use Rattle.std.proofs.lemmas.Bool.{ltb-true, ltb-false}
use Rattle.std.proofs.lemmas.List.{get_or_default, get_or_past}
use Rattle.hy_bits.specs.declared.letter_mask.LetterMask.{LetterMask}
use Rattle.fin_monitor.proofs.monitor.has_name.Goals as goal

pub returns-in-Some : goal.returns-in-Some
returns-in-Some c =
    let letters = c.args.letters.now in
    let inside : c.args.a.var < length letters = ltb-true c.args.a.var (length letters) (sym c.get.ensures.lookup.0 ∙ ap is_some c.in-Some.is) in
    let P : Option (Bor LetterMask) → Type 0 = λ r. IfSome r (λ x. x.now ≡ get_or letters c.args.a.var x.now) in
    let at : c.in-Some.letter.now ≡ get_or letters c.args.a.var c.in-Some.letter.now = subst P c.in-Some.is c.get.ensures.lookup.1 in
    c.has.ensures ∙ ap (λ s. contains s c.args.a.name) (at ∙ get_or_default letters c.args.a.var c.in-Some.letter.now empty inside)

pub returns-in-None : goal.returns-in-None
returns-in-None c =
    let letters = c.args.letters.now in
    let past : length letters ≤ c.args.a.var = ltb-false c.args.a.var (length letters) (sym c.get.ensures.lookup.0 ∙ ap is_some c.in-None.is) in
    sym (contains-empty nat_cmp c.args.a.name) ∙ ap (λ s. contains s c.args.a.name) (sym (get_or_past letters c.args.a.var empty past))

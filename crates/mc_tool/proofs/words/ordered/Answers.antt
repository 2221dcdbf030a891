use Rattle.std.proofs.Common.{[], false, length, refl, sym, ap, subst, ◌∙◌, arith, rules}
use Rattle.std.proofs.lemmas.List.{length-map}
use Rattle.hy_words.specs.Found.{listed_slice}
use Rattle.mc_tool.specs.Words.{Orders}
use Rattle.mc_tool.specs.declared.verdict.Question.TheVariants.{Check, CheckByStrategy}
use Rattle.mc_tool.proofs.Asking.{checks_of, no_ask, not_both, two_files, two_named}
use Rattle.mc_tool.proofs.words.ordered.Goals as goal

pub returns-in_default-clause-none : goal.returns-in_default-clause-none
returns-in_default-clause-none c = λ items question names tells orders.
    let two = simp length-map at (ap length (c.requires ∙ sym tells.files) ∙ two_named items question names orders) in grind arith

pub returns-in_err-ask-clause-none : goal.returns-in_err-ask-clause-none
returns-in_err-ask-clause-none c =
    rw c.from_residual.ensures (λ items question names tells. no_ask items c.args.found.now tells c.in_err-ask.ensures.none question names)

pub returns-in-None-default-clause-some : goal.returns-in-None-default-clause-some
returns-in-None-default-clause-some c = λ items tells.
    let checks = checks_of items c.args.found.now tells c.value-strategy.result c.value-strategy.ensures c.has-proof.result c.has-proof.ensures _ _
    (sym c.requires ∙ two_files c.args.files.now _ c.in-len2.len_at_least c.in-len2.len_below) [] (ap listed_slice c.in-None-default.is-0)
    c.has-proof.result refl c.in_ok-ask.ask (c.in_ok-ask.ensures.some items tells) in
    subst (Orders items (Check c.in_ok-ask.ask c.has-proof.result)) (sym c.two.ensures) checks

pub returns-in-Some-false-clause-some : goal.returns-in-Some-false-clause-some
returns-in-Some-false-clause-some c = λ items tells.
    let checks = checks_of items c.args.found.now tells c.value-strategy.result c.value-strategy.ensures c.has-proof.result c.has-proof.ensures _ _
    (sym c.requires ∙ two_files c.args.files.now _ c.in-len2.len_at_least c.in-len2.len_below) _ (ap listed_slice c.in-Some-false.is-0)
    false (search rules) c.in_ok-ask.ask (c.in_ok-ask.ensures.some items tells) in
    subst (Orders items (CheckByStrategy c.in_ok-ask.ask)) (sym c.three.ensures) checks

pub returns-in-Some-true-clause-none : goal.returns-in-Some-true-clause-none
returns-in-Some-true-clause-none c = λ items question names tells.
    not_both items c.args.found.now tells c.value-strategy.result c.value-strategy.ensures c.has-proof.result c.has-proof.ensures _ c.in-Some-true.is-0
    (search rules) question names

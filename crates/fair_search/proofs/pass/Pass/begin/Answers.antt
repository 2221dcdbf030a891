use Rattle.std.proofs.Common.{◌+◌, ℕ, sym, ◌∙◌, subst}
use Rattle.std.proofs.lemmas.Option.{get_or_from_slice_get}
use Rattle.std.proofs.lemmas.Result.{on_ok_weaker}
use Rattle.fair_search.specs.declared.pass.Place.TheVariants.{New}
use Rattle.fair_search.specs.declared.pass.Pass.{Pass}
use Rattle.fair_search.specs.Passing.{Goes}
use Rattle.fair_search.proofs.Looking.{begin_new, begin_seen}
use Rattle.fair_search.proofs.pass.Pass.begin.Goals as goal

pub returns-in-New-clause-goes : goal.returns-in-New-clause-goes
returns-in-New-clause-goes g c =
    let p = c.args.self.now in
    let at = get_or_from_slice_get p.places c.member_at-node.result c.at.result.now New c.at.ensures
    ∙ c.in-New.is in
    let P : Pass → Type 0 = λ q. Goes c.args.g.now p q c.args.steps.now (c.args.steps.now + 1) in
    let Q : ℕ → Type 0 = λ s. Goes c.args.g.now p c.open.new.self c.args.steps.now s in
    on_ok_weaker c.open.result
    (λ e.
    subst Q (sym c.member_at-node.ensures.step)
    (subst P (sym e) (begin_new c.args.g.now p c.requires.pass c.args.steps.now c.requires.idle
    c.requires.more c.member_at-node.result c.member_at-node.ensures.member at
    c.member_at-node.ensures.made)))
    c.open.ensures

pub returns-in_default-clause-goes : goal.returns-in_default-clause-goes
returns-in_default-clause-goes g c =
    let p = c.args.self.now in
    let at = get_or_from_slice_get p.places c.member_at-node.result c.at.result.now New c.at.ensures
    in
    let Q : ℕ → Type 0 = λ s. Goes c.args.g.now p (record p { begun = p.begun + 1 })
    c.args.steps.now s in
    subst Q (sym c.member_at-node.ensures.step)
    (begin_seen c.args.g.now p c.requires.pass c.args.steps.now c.requires.idle c.requires.more
    c.member_at-node.result c.member_at-node.ensures.member
    (λ e. c.in_default.not-New (sym at ∙ e)))

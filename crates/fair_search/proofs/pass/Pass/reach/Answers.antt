use Rattle.std.proofs.Common.{sym, ◌∙◌, subst}
use Rattle.std.proofs.lemmas.Option.{get_or_from_slice_get}
use Rattle.std.proofs.lemmas.Result.{on_ok_weaker}
use Rattle.fair_search.specs.declared.pass.Place.TheVariants.{New}
use Rattle.fair_search.specs.declared.pass.Pass.{Pass}
use Rattle.fair_search.specs.Passing.{HasReached}
use Rattle.fair_search.proofs.Reaching.{reached_new, reached_open, reached_done}
use Rattle.fair_search.proofs.pass.Pass.reach.Goals as goal

pub returns-in-New : goal.returns-in-New
returns-in-New c =
    let p = c.args.self.now in
    let at = get_or_from_slice_get p.places c.args.node c.at.result.now New c.at.ensures
    ∙ c.in-New.is in
    let P : Pass → Type 0 = λ q. HasReached c.args.g.now p q c.args.place c.args.node in
    on_ok_weaker c.open.result (λ e. subst P (sym e)
    (reached_new c.args.g.now p c.requires.pass c.args.place c.args.node c.requires.last
    c.requires.edge at c.requires.made)) c.open.ensures

pub returns-in-Open : goal.returns-in-Open
returns-in-Open c =
    let p = c.args.self.now in
    let at = get_or_from_slice_get p.places c.args.node c.at.result.now New c.at.ensures
    ∙ c.in-Open.is in
    reached_open c.args.g.now p c.requires.pass c.args.place c.args.node c.requires.last
    c.requires.edge c.in-Open.back at c.keep_upto.new.numbers c.keep_upto.ensures.rises
    c.keep_upto.ensures.was c.keep_upto.ensures.kept

pub returns-in-Done : goal.returns-in-Done
returns-in-Done c =
    let p = c.args.self.now in
    let at = get_or_from_slice_get p.places c.args.node c.at.result.now New c.at.ensures
    ∙ c.in-Done.is in
    reached_done c.args.g.now p c.requires.pass c.args.place c.args.node c.requires.last
    c.requires.edge c.in-Done.field-0 at

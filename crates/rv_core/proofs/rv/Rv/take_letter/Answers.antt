use Rattle.std.proofs.Common.{sym, subst}
use Rattle.std.proofs.lemmas.Result.{err_from_is_err_and}
use Rattle.hy_finite.specs.declared.event.Event.TheVariants as event
use Rattle.rv_core.specs.Opened.{Open}
use Rattle.rv_core.specs.Replies.{Answers}
use Rattle.rv_core.specs.Seen.{held}
use Rattle.rv_core.proofs.Standing.{changed}
use Rattle.rv_core.proofs.Answering.{answered-letter, refused-letter}
use Rattle.rv_core.proofs.rv.Rv.take_letter.Goals as goal

pub returns-in_err-extend-clause-answers : goal.returns-in_err-extend-clause-answers
returns-in_err-extend-clause-answers c =
    let m = held c.args.self.now in
    let p = err_from_is_err_and c.from_residual.result c.from_residual.ensures.1 in
    let P : Open → Type 0 =
    λ os. Answers m (changed m m.kept m.arrived os m.clean)
    (event.Letter c.args.session c.args.letter) c.from_residual.result in
    subst P (sym c.in_err-extend.ensures.unchanged)
    (rw (p.1, p.2)
    (refused-letter m c.args.session c.args.letter _ c.in_err-extend.ensures.refused))

pub returns-clause-answers : goal.returns-clause-answers
returns-clause-answers c =
    answered-letter (held c.args.self.now) c.args.session c.args.letter c.extend.new.self
    c.in_ok-extend.ensures.extended

use Rattle.std.proofs.Common.{sym, ap, ◌∙◌, subst}
use Rattle.std.specs.FinSet.{insert, remove}
use Rattle.hy_bits.specs.Letter.{Letter}
use Rattle.hy_base.specs.Rows.{row}
use Rattle.wit_lasso.specs.Seeing.{Counts}
use Rattle.wit_lasso.proofs.Letters.{counts_false, counts_true}
use Rattle.wit_lasso.proofs.seeing.with_signal.Goals as goal

pub returns-then-value_of : goal.returns-then-value_of
returns-then-value_of c =
    let P : Letter → Type 0 = Counts c.args.signal (row c.args.values.now) c.args.letter in
    subst P (sym (c.with.ensures ∙ ap (insert c.args.letter) c.from-name.ensures))
    (counts_true c.args.signal c.args.letter (row c.args.values.now) c.if-signal-ne0.false
    (sym c.value_of.ensures ∙ c.if-value_of.true))

pub returns-else-value_of : goal.returns-else-value_of
returns-else-value_of c =
    let P : Letter → Type 0 = Counts c.args.signal (row c.args.values.now) c.args.letter in
    subst P (sym (c.without.ensures ∙ ap (remove c.args.letter) c.from-name.ensures))
    (counts_false c.args.signal c.args.letter (row c.args.values.now) c.if-signal-ne0.false
    (sym c.value_of.ensures ∙ c.if-value_of.false))

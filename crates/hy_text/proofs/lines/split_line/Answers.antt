use Rattle.std.proofs.Common.{◌<◌, ◌∙◌, sym, ap, arith, length, ◌∷◌}
use Rattle.std.proofs.lemmas.Bool.{eqb-true, eqb-false}
use Rattle.hy_text.specs.Lines.{lines_of}
use Rattle.hy_text.proofs.Splitting.{last_line, next_line}
use Rattle.hy_text.proofs.lines.split_line.Goals as goal

pub returns-then-is_empty-clause-lines : goal.returns-then-is_empty-clause-lines
returns-then-is_empty-clause-lines c =
    last_line c.args.text.now c.split.result.0.now c.split.result.1.now c.split.ensures.run
    c.split.ensures.rest (eqb-true _ 0 (sym c.if-is_empty.ensures))

pub returns-clause-lines : goal.returns-clause-lines
returns-clause-lines c =
    let apart = eqb-false _ 0 (sym c.if-is_empty.ensures) in
    let some : 0 < length c.split.result.1.now = omega (arith, apart) in
    let line = next_line c.args.text.now c.split.result.0.now c.split.result.1.now
    c.split.ensures.run c.split.ensures.rest some in
    line ∙ ap (λ t. c.split.result.0.now ∷ lines_of t) (sym c.split_at.ensures.back)

use Rattle.hy_finite.proofs.LineAnswers.{no-mark}
use Rattle.hy_finite.proofs.begun.begin_mark.Goals as goal

pub returns : goal.returns
returns c =
    no-mark c.args.text.now c.requires.0 c.requires.1
    (λ only. let is = c.is_save.ensures.1 only in cc (is, c.if-is_save.false))
    (λ only. let is = c.is_back.ensures.1 only in cc (is, c.if-is_back.false))

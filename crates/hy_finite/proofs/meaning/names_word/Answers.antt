use Rattle.std.proofs.Common.{ap, ◌∙◌, arith}
use Rattle.std.specs.FinSet.{contains}
use Rattle.hy_finite.proofs.Carrying.{byte-of}
use Rattle.hy_finite.proofs.NameWords.{names-more}
use Rattle.hy_finite.proofs.meaning.names_word.Goals as goal

pub loop-i-preserved : goal.loop-i-preserved
loop-i-preserved c =
    rw byte-of
    (names-more c.args.trace.now c.args.name c.args.from c.loop-i.i c.loop-i.word c.loop-i.invariant
    (omega arith) c.has.result
    (c.has.ensures ∙ ap (λ a. contains a c.args.name) c.letter_at.ensures))

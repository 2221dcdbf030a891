use Rattle.std.proofs.Common.{◌≡◌, ◌++◌, ◌∷◌, [], length, refl, sym, ap₂, ◌∙◌}
use Rattle.std.proofs.lemmas.Option.{slice_get_read}
use Rattle.hy_bits.specs.Letter.{Letter}
use Rattle.hy_finite.specs.Traces.{Trace}
use Rattle.rv_core.specs.Held.{spec_of}
use Rattle.rv_core.specs.Masks.{masked_letter}
use Rattle.rv_core.specs.Seen.{watched}
use Rattle.rv_core.proofs.Looking.{masked-next}
use Rattle.rv_core.proofs.Masking.{mask-names}
use Rattle.rv_core.proofs.Places.{take-next}
use Rattle.rv_core.proofs.watch.Watch.sees_all.Goals as goal

pub loop-letter-preserved : goal.loop-letter-preserved
loop-letter-preserved c =
    let w = c.args.self.now in
    let t = c.args.trace.now in
    let i = c.loop-letter.letter-index in
    let a = c.letter-item.result in
    let spec = spec_of (watched w) in
    let at = slice_get_read t (length t) i a refl c.loop-letter-test.true c.letter-item.is in
    let same : masked_letter spec a ≡ a =
    sym (mask-names spec w.names a w.named) ∙ c.have.ensures c.if-not-have.false in
    masked-next spec t i a at
    ∙ ap₂ (λ (front : Trace) (x : Letter). front ++ x ∷ []) c.loop-letter.invariant same
    ∙ sym (take-next t i a at)

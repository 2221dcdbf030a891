use Rattle.std.proofs.Common.{◌≡◌, ◌⊎◌, ◌<◌, ◌∙◌, length, take, Option, Some, None, IfNone, IsSome, inl, inr, refl, ap, arith}
use Rattle.std.proofs.Math.Seq.{take-length}
use Rattle.std.proofs.lemmas.List.{length-map}
use Rattle.rv_core.specs.Held.{spec_of}
use Rattle.rv_core.specs.Masks.{masked_letter, masked}
use Rattle.rv_core.specs.Seen.{watched}
use Rattle.rv_core.proofs.watch.Watch.masked.Goals as goal

some-of : {X : Type 0} (o : Option X) (P : Type 0) → IfNone o P → (¬ P) → IsSome o
some-of None P none not_p = absurd (not_p none)
some-of (Some x) P none not_p = refl

pub unwrap-requires : goal.unwrap-requires
unwrap-requires c =
    let spec = spec_of (watched c.args.self.now) in
    let whole = c.as_slice-whole.result.now in
    let letters = c.loop-letter.letters in
    let end : c.loop-letter.letter-index ≡ length whole =
    omega (arith, c.loop-letter-test.false, c.loop-letter.auto.letter-index-end) in
    let all : letters ≡ masked spec whole =
    c.loop-letter.invariant
    ∙ ap (masked spec) (ap (λ k. take k whole) end ∙ take-length whole) in
    let long = ap length all ∙ length-map whole (masked_letter spec)
    ∙ ap length c.as_slice-whole.ensures in
    some-of c.new.result ((length letters ≡ 0) ⊎ (1024 < length letters)) c.new.ensures.refused
    (λ bad. elim bad [
      | inl none ↦ absurd (omega (arith, none, long, c.len.ensures.some, c.len.ensures.len))
      | inr many ↦ absurd (omega (arith, many, long, c.len.ensures.few, c.len.ensures.len))
    ])

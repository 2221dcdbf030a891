use Rattle.std.proofs.Common.{inl, inr, ap, ◌∙◌, ◌∷◌}
use Rattle.std.specs.Prelude.{codes}
use Rattle.cert_text.proofs.Heads.{no_latch, no_latches}
use Rattle.cert_text.proofs.induction_lines.read_fact.Goals as goal

pub returns-in-None : goal.returns-in-None
returns-in-None c =
    no_latch c.args.line.now c.in-Some-cut.sign.now c.in-Some-cut.latches.now
    (record { parts = c.in-Some.ensures ∙ ap (λ l. codes "f" ∷ l) c.in-Some-cut.ensures.pieces })
    (inl (c.equals.ensures.0 c.if-equals.true)) c.in-None.ensures.said

pub returns-in-None-one_number : goal.returns-in-None-one_number
returns-in-None-one_number c =
    no_latch c.args.line.now c.in-Some-cut.sign.now c.in-Some-cut.latches.now
    (record { parts = c.in-Some.ensures ∙ ap (λ l. codes "f" ∷ l) c.in-Some-cut.ensures.pieces })
    (inr (c.equals-2.ensures.0 c.if-equals-2.true)) c.in-None-one_number.ensures.said

pub returns-in-None-two_numbers : goal.returns-in-None-two_numbers
returns-in-None-two_numbers c =
    no_latches c.args.line.now c.in-Some-cut.sign.now c.in-Some-cut.latches.now
    (record { parts = c.in-Some.ensures ∙ ap (λ l. codes "f" ∷ l) c.in-Some-cut.ensures.pieces })
    (inl (c.equals-3.ensures.0 c.if-equals-3.true)) c.in-None-two_numbers.ensures.said

pub returns-in-None-two_numbers-2 : goal.returns-in-None-two_numbers-2
returns-in-None-two_numbers-2 c =
    no_latches c.args.line.now c.in-Some-cut.sign.now c.in-Some-cut.latches.now
    (record { parts = c.in-Some.ensures ∙ ap (λ l. codes "f" ∷ l) c.in-Some-cut.ensures.pieces })
    (inr (c.equals-4.ensures.0 c.if-equals-4.true)) c.in-None-two_numbers-2.ensures.said

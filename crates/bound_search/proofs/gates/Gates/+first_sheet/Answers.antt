use Rattle.std.proofs.Common.{◌≡◌, ◌∙◌, false, ap, arith}
use Rattle.std.proofs.lemmas.Result.{IfOk-weaker}
use Rattle.bound_search.specs.Making.{first_place}
use Rattle.bound_search.specs.Shapes.{body_shape, is_temporal_one, is_temporal_two}
use Rattle.bound_search.specs.Tuples.{asked_first_sheet, asked_frame}
use Rattle.bound_search.proofs.Making.{second-drawn}
use Rattle.bound_search.proofs.MadeSheets.{one-drawn, two-drawn}
use Rattle.bound_search.proofs.gates.Gates.+first_sheet.Goals as goal

pub returns-in_ok-part-in-One-clause-drawn : goal.returns-in_ok-part-in-One-clause-drawn
returns-in_ok-part-in-One-clause-drawn t c =
    let local : is_temporal_one c.in-One.op ≡ false =
    grind (arith, c.is_temporal.ensures, c.if-not-is_temporal.true) in
    rw (c.parts_of.ensures, c.in-One.is)
    (IfOk-weaker c.by_row.result _ _ (λ made h.
    second-drawn (is_temporal_one c.in-One.op) _ _ _ _ made local
    (one-drawn c.first_place-frame.result (first_place (asked_frame c.args.asked.now))
    (c.first_place-frame.ensures.frame ∙ ap first_place c.frame-whole.ensures.frame)
    (asked_first_sheet c.args.asked.now (body_shape c.in-One.f.now)) c.in-One.op _ _ _ _ made
    c.in_ok-part-in-One.ensures.drawn h)) c.by_row.ensures.drawn)

pub returns-in_ok-right-in-Two-clause-drawn : goal.returns-in_ok-right-in-Two-clause-drawn
returns-in_ok-right-in-Two-clause-drawn t c =
    let local : is_temporal_two c.in-Two.op ≡ false =
    grind (arith, c.if-not-is_temporal-2.ensures, c.if-not-is_temporal-2.true) in
    rw (c.parts_of.ensures, c.in-Two.is)
    (IfOk-weaker c.by_choice.result _ _ (λ made h.
    second-drawn (is_temporal_two c.in-Two.op) _ _ _ _ made local
    (two-drawn c.first_place-frame.result (first_place (asked_frame c.args.asked.now))
    (c.first_place-frame.ensures.frame ∙ ap first_place c.frame-whole.ensures.frame)
    (asked_first_sheet c.args.asked.now (body_shape c.in-Two.f.now))
    (asked_first_sheet c.args.asked.now (body_shape c.in-Two.g.now)) c.in-Two.op _ _ _ _ _ _ made
    c.in_ok-left-in-Two.ensures.drawn c.in_ok-right-in-Two.ensures.drawn h))
    c.by_choice.ensures.drawn)

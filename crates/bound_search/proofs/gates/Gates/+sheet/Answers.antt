use Rattle.std.proofs.lemmas.Result.{IfOk-weaker}
use Rattle.bound_search.specs.Shapes.{body_shape}
use Rattle.bound_search.specs.Tuples.{asked_frame, asked_sheet}
use Rattle.bound_search.proofs.MadeSheets.{one-drawn, two-drawn}
use Rattle.bound_search.proofs.gates.Gates.+sheet.Goals as goal

pub returns-in_ok-part-in-One-clause-drawn : goal.returns-in_ok-part-in-One-clause-drawn
returns-in_ok-part-in-One-clause-drawn t c =
    rw (c.parts_of.ensures, c.in-One.is)
    (IfOk-weaker c.by_row.result _ _ (λ made h.
    one-drawn c.frame-frame.result (asked_frame c.args.asked.now) c.frame-frame.ensures.frame
    (asked_sheet c.args.asked.now (body_shape c.in-One.f.now)) c.in-One.op _ _ _ _ made
    c.in_ok-part-in-One.ensures.drawn h) c.by_row.ensures.drawn)

pub returns-in_ok-right-in-Two-clause-drawn : goal.returns-in_ok-right-in-Two-clause-drawn
returns-in_ok-right-in-Two-clause-drawn t c =
    rw (c.parts_of.ensures, c.in-Two.is)
    (IfOk-weaker c.by_choice.result _ _ (λ made h.
    two-drawn c.frame-frame.result (asked_frame c.args.asked.now) c.frame-frame.ensures.frame
    (asked_sheet c.args.asked.now (body_shape c.in-Two.f.now))
    (asked_sheet c.args.asked.now (body_shape c.in-Two.g.now)) c.in-Two.op _ _ _ _ _ _ made
    c.in_ok-left-in-Two.ensures.drawn c.in_ok-right-in-Two.ensures.drawn h)
    c.by_choice.ensures.drawn)

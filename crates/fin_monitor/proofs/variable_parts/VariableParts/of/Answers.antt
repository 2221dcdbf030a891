use Rattle.std.proofs.Common.{◌+◌, sym, ap, ◌∙◌, arith}
use Rattle.fin_monitor.specs.Parts.{bits_of}
use Rattle.fin_monitor.proofs.LowParts.{looked-up, none-high}
use Rattle.fin_monitor.proofs.variable_parts.VariableParts.of.Goals as goal

pub returns-then-is_empty : goal.returns-then-is_empty
returns-then-is_empty c =
    omega (
      arith,
      looked-up c.args.self.now c.args.letter c.low_number.result c.at-low.result.now c.low_number.ensures.number c.at-low.ensures,
      none-high c.args.self.now.high c.args.letter (sym c.is_empty.ensures ∙ c.if-is_empty.true),
    )

pub overflow_add-result : goal.overflow_add-result
overflow_add-result c =
    omega (
      arith,
      looked-up c.args.self.now c.args.letter c.low_number.result c.at-low.result.now c.low_number.ensures.number c.at-low.ensures,
      c.bits_in.ensures,
      ap (λ l. bits_of l c.args.letter) c.as_slice.ensures,
      c.requires,
    )

pub returns : goal.returns
returns c =
    ap (λ n. c.at-low.result.now + n) (c.bits_in.ensures ∙ ap (λ l. bits_of l c.args.letter) c.as_slice.ensures)
    ∙ looked-up c.args.self.now c.args.letter c.low_number.result c.at-low.result.now c.low_number.ensures.number c.at-low.ensures

use Rattle.std.proofs.Common.{true, false, sym, ◌∙◌}
use Rattle.cert_text.proofs.Verdicts.{holds_opens}
use Rattle.cert_text.proofs.take.take_circuit.Goals as goal
use Rattle.cert_text.proofs.take.take_circuit.Goals.{then-equals, else-equals}

pub returns-then-equals-2 : goal.returns-then-equals-2
returns-then-equals-2 c = elim c.if-equals.branch [
  | then-equals w ↦ holds_opens true c.args.line.now (c.equals.ensures.0 w.if-equals.true)
  | else-equals w ↦
      let is = w.equals-else-equals.ensures.0 (sym w.value-is ∙ c.if-equals-2.true) in
      holds_opens false c.args.line.now is
]

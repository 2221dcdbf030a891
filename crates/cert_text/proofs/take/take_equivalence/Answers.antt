use Rattle.std.proofs.Common.{sym, ◌∙◌}
use Rattle.cert_text.specs.Certificates.{first, second}
use Rattle.cert_text.proofs.Verdicts.{side_opens, equivalent_opens}
use Rattle.cert_text.proofs.take.take_equivalence.Goals as goal
use Rattle.cert_text.proofs.take.take_equivalence.Goals.{then-equals, else-equals}

pub returns-then-equals-2 : goal.returns-then-equals-2
returns-then-equals-2 c = elim c.if-equals.branch [
  | then-equals w ↦ side_opens first c.args.line.now (c.equals.ensures.0 w.if-equals.true)
  | else-equals w ↦
      let is = w.equals-else-equals.ensures.0 (sym w.value-is ∙ c.if-equals-2.true) in
      side_opens second c.args.line.now is
]

pub returns-then-equals-3 : goal.returns-then-equals-3
returns-then-equals-3 c =
    equivalent_opens c.args.line.now (c.equals-else-equals-2.ensures.0 c.if-equals-3.true)

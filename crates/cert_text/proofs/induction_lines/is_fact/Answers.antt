use Rattle.std.proofs.Common.{◌≡◌, true, false, sym, ◌∙◌}
use Rattle.cert_text.proofs.ClauseLines.{known_fact, clause_said}
use Rattle.cert_text.proofs.induction_lines.is_fact.Goals as goal

pub returns-in-Some : goal.returns-in-Some
returns-in-Some c = known_fact c.args.clauses c.args.line.now _ c.in-Some.ensures

pub returns-then-clauses : goal.returns-then-clauses
returns-then-clauses c =
    clause_said c.args.clauses c.are_literals.result c.args.line.now c.in_default.ensures (
      λ yes. (c.if-clauses.true, c.are_literals.ensures.0 yes),
      λ (_, says). c.are_literals.ensures.1 says,
    )

pub returns-else-clauses : goal.returns-else-clauses
returns-else-clauses c =
    clause_said c.args.clauses c.args.clauses c.args.line.now c.in_default.ensures (
      λ on.
          let clash : false ≡ true = sym c.if-clauses.false ∙ on in absurd (cc),
      λ (on, _). on,
    )

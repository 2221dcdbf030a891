use Rattle.std.proofs.lemmas.Result.{IfOk-weaker}
use Rattle.induction_judge.specs.Reading.{IsClauseTaken, IsFactTaken}
use Rattle.induction_judge.proofs.Starting.{start_taken, clause_taken, no_clause}
use Rattle.induction_judge.proofs.facts.start_fact.Goals as goal

pub returns-in-Some : goal.returns-in-Some
returns-in-Some c =
    start_taken c.args.clauses c.args.latches c.args.line.now c.in-Some.fact c.at_start.result
    c.in-Some.ensures c.at_start.ensures

pub returns-then-clauses : goal.returns-then-clauses
returns-then-clauses c =
    IfOk-weaker c.start_clause.result (IsClauseTaken c.args.latches c.args.line.now)
    (IsFactTaken c.args.clauses c.args.latches c.args.line.now)
    (λ taken. clause_taken c.args.clauses c.args.latches c.args.line.now taken
    c.if-clauses.true c.in_default.ensures) c.start_clause.ensures

pub returns-else-clauses : goal.returns-else-clauses
returns-else-clauses c = λ fact says start.
    absurd (no_clause c.args.clauses c.args.line.now fact c.if-clauses.false c.in_default.ensures
    says)

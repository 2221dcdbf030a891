use Rattle.std.proofs.Common.{ℕ, false, List, sym, ◌∙◌, ap, subst, Option}
use Rattle.cnf_frames.specs.declared.facts.Fact.{Fact}
use Rattle.cnf_frames.specs.Facts.{any_true}
use Rattle.cert_text.specs.Lines.{IsSaid}
use Rattle.induction_judge.specs.Reading.{IsClauseTaken, SaysLatches}
use Rattle.induction_judge.proofs.Latches.{clause_taken, no_latches}
use Rattle.induction_judge.proofs.clauses.start_clause.Goals as goal

pub returns-in_default : goal.returns-in_default
returns-in_default c = λ ls says start. c.in_default.ensures (ls, says)

pub returns-in_default-2 : goal.returns-in_default-2
returns-in_default-2 c =
    let P : Option (List ℕ) → Type 0 = IsSaid (SaysLatches c.args.latches) c.in-Some.words.now in
    no_latches c.args.latches c.args.line.now c.in-Some.words.now c.in-Some.ensures
    (subst P c.in_default-2.is c.in_ok-literals.ensures)

pub returns : goal.returns
returns c =
    let P : Option (List ℕ) → Type 0 = IsSaid (SaysLatches c.args.latches) c.in-Some.words.now in
    let Q : Option Fact → Type 0 = IsClauseTaken c.args.latches c.args.line.now in
    subst Q (sym c.then_some.ensures)
    (clause_taken c.args.latches c.args.line.now c.in-Some.words.now c.in-Some-2.literals
    c.is_any_at_start-starts.result c.in-Some.ensures
    (subst P c.in-Some-2.is c.in_ok-literals.ensures)
    (c.is_any_at_start-starts.ensures ∙ ap (any_true (λ _. false)) c.as_slice.ensures))

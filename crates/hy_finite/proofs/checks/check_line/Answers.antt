use Rattle.std.proofs.Common.{Some, inr, subst, List, ℕ}
use Rattle.hy_finite.specs.declared.begun.Begun.{Begun}
use Rattle.hy_finite.specs.EventLines.{back, finish}
use Rattle.hy_finite.specs.LineParts.{IsBegun, IsWordChecked}
use Rattle.hy_finite.proofs.LineAnswers.{checked-word, checked-set}
use Rattle.hy_finite.proofs.checks.check_line.Goals as goal

pub returns-in-Some-Word : goal.returns-in-Some-Word
returns-in-Some-Word c =
    let P : Begun → Type 0 = λ b. IsBegun c.args.line.now (Some b) in
    let (speaks, (here, (inner, first))) = subst P c.in-Some-Word.field-0-is c.in-Some-Word.ensures
    in
    let Q : List ℕ → Type 0 = λ t. IsWordChecked t c.check_word.result in
    checked-word c.args.line.now inner c.check_word.result speaks first
    (subst Q here c.check_word.ensures)

pub returns-in-Some-Letter : goal.returns-in-Some-Letter
returns-in-Some-Letter c =
    let P : Begun → Type 0 = λ b. IsBegun c.args.line.now (Some b) in
    let (speaks, (session, no_end)) = subst P c.in-Some-Letter.field-0-is c.in-Some-Letter.ensures
    in
    checked-set c.args.line.now c.in-Some-Letter.field-0-0 c.in-Some-Letter.set.now
    c.check_set.result speaks session no_end c.check_set.ensures

pub returns-in-Some-End : goal.returns-in-Some-End
returns-in-Some-End c =
    let P : Begun → Type 0 = λ b. IsBegun c.args.line.now (Some b) in
    inr (
      finish c.in-Some-End.field-0-0,
      (subst P c.in-Some-End.field-0-is c.in-Some-End.ensures).1,
      tt,
    )

pub returns-in-Some-Back : goal.returns-in-Some-Back
returns-in-Some-Back c =
    let P : Begun → Type 0 = λ b. IsBegun c.args.line.now (Some b) in
    inr (back, (subst P c.in-Some-Back.field-0-is c.in-Some-Back.ensures).1, tt)

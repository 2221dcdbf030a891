use Rattle.std.proofs.Common.{ℕ, List, [], Some, ap, subst, refl}
use Rattle.hy_finite.specs.declared.begun.Begun.{Begun}
use Rattle.hy_finite.specs.EventLines.{word, finish}
use Rattle.hy_finite.specs.declared.event.Event.TheVariants.{Whole}
use Rattle.hy_text.specs.Words.{SpellsWord}
use Rattle.hy_finite.specs.LineParts.{IsBegun}
use Rattle.hy_finite.proofs.LineAnswers.{letter-line}
use Rattle.hy_finite.proofs.line.read_line.Goals as goal

pub returns-in_ok-read_trace-in-Word : goal.returns-in_ok-read_trace-in-Word
returns-in_ok-read_trace-in-Word c =
    let P : Begun → Type 0 = λ b. IsBegun c.args.line.now (Some b) in
    let (speaks, (here, (inner, first))) = subst P c.in-Word.is c.in-Some.ensures in
    let (sets, spelled, short, e) = c.in_ok-read_trace-in-Word.ensures in
    let Q : List ℕ → Type 0 = λ text. SpellsWord text sets [] in
    (word sets, subst Q here spelled, short, ap Whole e)

pub returns-in-Letter : goal.returns-in-Letter
returns-in-Letter c =
    let P : Begun → Type 0 = λ b. IsBegun c.args.line.now (Some b) in
    letter-line c.args.names.now c.args.line.now c.in-Letter.session c.in-Letter.set
    c.read_letter.result (subst P c.in-Letter.is c.in-Some.ensures) c.read_letter.ensures

pub returns-in-End : goal.returns-in-End
returns-in-End c =
    let P : Begun → Type 0 = λ b. IsBegun c.args.line.now (Some b) in
    (finish c.in-End.session, (subst P c.in-End.is c.in-Some.ensures).1, tt, refl)

use Rattle.std.proofs.Common.{sym, subst}
use Rattle.std.proofs.lemmas.Result.{err_from_is_err_and}
use Rattle.rv_tool.specs.Watching.{AreGood, AreRead, IsNext}
use Rattle.rv_tool.specs.declared.source.Source.{Source}
use Rattle.rv_tool.specs.declared.source.Source.TheVariants.{Lines}
use Rattle.rv_tool.proofs.Sources.{next-of-lines, lines-read, lines-no_fault}
use Rattle.rv_tool.proofs.source.Source.next.Goals as goal

pub returns-in_err-next-in-Lines-clause-ended : goal.returns-in_err-next-in-Lines-clause-ended
returns-in_err-next-in-Lines-clause-ended c =
    let p = err_from_is_err_and c.from_residual.result c.from_residual.ensures.1 in
    rw (p.1, p.2)
    (λ good. lines-no_fault c.in-Lines.lines c.next.new.self c.in-Lines.names c.in_err-next-in-Lines.field-0.0 c.in_err-next-in-Lines.ensures
    (subst AreGood c.in-Lines.is good))

pub returns-in_ok-next-in-Lines-clause-next : goal.returns-in_ok-next-in-Lines-clause-next
returns-in_ok-next-in-Lines-clause-next c =
    let P : Source → Type 0 = λ s. IsNext s (Lines c.next.new.self c.in-Lines.names) c.in_ok-next-in-Lines.next in
    subst P (sym c.in-Lines.is)
    (next-of-lines c.in-Lines.lines c.next.new.self c.in-Lines.names c.in_ok-next-in-Lines.next c.in_ok-next-in-Lines.ensures)

pub returns-in_ok-next-in-Lines-clause-read : goal.returns-in_ok-next-in-Lines-clause-read
returns-in_ok-next-in-Lines-clause-read c =
    let P : Source → Type 0 = λ s. AreRead s (Lines c.next.new.self c.in-Lines.names) in
    subst P (sym c.in-Lines.is)
    (lines-read c.in-Lines.lines c.next.new.self c.in-Lines.names c.in_ok-next-in-Lines.next c.in_ok-next-in-Lines.ensures)

use Rattle.std.proofs.Common.{◌<◌, ◌^◌, length, sym, subst}
use Rattle.hy_finite.specs.EventAnswers.{AreChecked}
use Rattle.hy_finite.specs.EventFiles.{SayEvents}
use Rattle.hy_finite.specs.LinesLeft.{LinesLeft}
use Rattle.rv_tool.proofs.Sources.{few-lines}
use Rattle.rv_tool.proofs.source.Source.of_lines.Goals as goal

pub returns-clause-left : goal.returns-clause-left
returns-clause-left c events left =
    let P : LinesLeft → Type 0 = λ l. SayEvents c.args.names.now l.first l.lines events in
    subst P c.new.ensures left

pub returns-clause-few : goal.returns-clause-few
returns-clause-few c =
    let P : LinesLeft → Type 0 = λ l. length l.lines < 2 ^ 31 in
    subst P (sym c.new.ensures) (few-lines c.args.bytes.now c.requires)

pub returns-clause-all : goal.returns-clause-all
returns-clause-all c found left =
    let P : LinesLeft → Type 0 = λ l. AreChecked l found in
    subst P c.new.ensures left

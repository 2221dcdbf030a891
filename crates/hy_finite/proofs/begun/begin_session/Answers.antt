use Rattle.std.proofs.Common.{sym, ap, ◌∙◌}
use Rattle.std.specs.Option.{option_map}
use Rattle.hy_finite.specs.LineParts.{plain_number}
use Rattle.hy_finite.proofs.LineAnswers.{no-session}
use Rattle.hy_finite.proofs.begun.begin_session.Goals as goal

pub returns-in_default : goal.returns-in_default
returns-in_default c =
    no-session c.args.text.now c.requires.0 c.requires.1 (sym c.read_session.ensures
    ∙ ap (option_map plain_number) c.in_default.is)

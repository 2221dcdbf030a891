use Rattle.std.proofs.Common.{sym, ap, ◌∙◌}
use Rattle.std.specs.List.{list_all}
use Rattle.hy_words.specs.Found.{found_value}
use Rattle.hy_words.specs.Words.{is_value}
use Rattle.hy_words.proofs.Steps.{fails_at}
use Rattle.hy_words.proofs.found.are_values.Goals as goal

pub returns-then-not-is_value_or_none : goal.returns-then-not-is_value_or_none
returns-then-not-is_value_or_none c =
    sym (fails_at (λ name. list_all is_value (found_value c.args.found.now name)) c.args.names.now c.loop-name.name-index _ c.loop-name-test.true
    (ap (list_all is_value) (sym c.value.ensures) ∙ sym c.if-not-is_value_or_none.ensures))

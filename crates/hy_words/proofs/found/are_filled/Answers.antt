use Rattle.std.proofs.Common.{not, sym, ap, ◌∙◌}
use Rattle.hy_words.specs.Words.{is_filled}
use Rattle.hy_words.proofs.Steps.{fails_at}
use Rattle.hy_words.proofs.found.are_filled.Goals as goal

pub returns-then-is_empty : goal.returns-then-is_empty
returns-then-is_empty c = sym (fails_at is_filled c.args.names.now c.loop-name.name-index _ c.loop-name-test.true (ap not (sym c.is_empty.ensures ∙ c.if-is_empty.true)))

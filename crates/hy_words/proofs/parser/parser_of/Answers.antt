use Rattle.std.proofs.Common.{[], map}
use Rattle.hy_words.specs.Words.{syntax_of}
use Rattle.hy_words.specs.Parsers.{flag_rule, option_rule}
use Rattle.hy_words.proofs.Steps.{one_more}
use Rattle.hy_words.proofs.parser.parser_of.Goals as goal

pub loop-name-preserved : goal.loop-name-preserved
loop-name-preserved c =
    one_more flag_rule [] c.args.syntax.flags.now c.loop-name.name-index _ _ _ _ c.loop-name-test.true c.loop-name.invariant
    (c.in_ok-command.ensures.shape c.flag.ensures.local) c.flag.ensures.rule

pub loop-name-2-preserved : goal.loop-name-2-preserved
loop-name-2-preserved c =
    one_more option_rule (map flag_rule (syntax_of c.args.syntax).flags) c.args.syntax.options.now c.loop-name-2.name-index _ _ _ _ c.loop-name-2-test.true c.loop-name-2.invariant
    (c.in_ok-command-2.ensures.shape c.option.ensures.local) c.option.ensures.rule

use Rattle.std.proofs.Common.{◌≡◌, map, take, ◌++◌}
use Rattle.clap.specs.Simple.{app_of}
use Rattle.hy_words.specs.Words.{syntax_of}
use Rattle.hy_words.specs.Parsers.{taking, flag_rule, option_rule}
use Rattle.hy_words.proofs.parser.parser_of.Given as goal

abbrev pub invariant-loop-name : goal.invariant-loop-name
invariant-loop-name l = app_of l.command ≡ taking (map flag_rule (map (λ name. name.now) (take l.name-index l.name-items)))

abbrev pub invariant-loop-name-2 : goal.invariant-loop-name-2
invariant-loop-name-2 l = app_of l.command ≡ taking (map flag_rule (syntax_of l.fn.syntax).flags ++ map option_rule (map (λ name. name.now) (take l.name-index l.name-items)))

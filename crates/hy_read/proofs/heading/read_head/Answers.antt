use Rattle.std.proofs.Common.{◌∷◌, ap}
use Rattle.hy_read.specs.declared.symbol.Symbol.TheVariants.{Dot}
use Rattle.hy_read.specs.Grammar.{quantifier_word}
use Rattle.hy_read.specs.Scans.{plain}
use Rattle.hy_read.specs.Tokens.{symbol, variable}
use Rattle.hy_read.proofs.HeadsOfFormulas.{first_stands, first_missing, no_variable_there, head_stands}
use Rattle.hy_read.proofs.heading.read_head.Goals as goal

pub returns-in_default-clause-head : goal.returns-in_default-clause-head
returns-in_default-clause-head c = λ quant bound rest left.
    first_missing c.args.text.now c.args.at (symbol (quantifier_word quant)) (variable bound ∷ symbol Dot ∷ rest) c.in_default.ensures left

pub returns-in_default-quantifier_of-clause-head : goal.returns-in_default-quantifier_of-clause-head
returns-in_default-quantifier_of-clause-head c = λ quant bound rest left.
    c.in_default-quantifier_of.ensures quant (first_stands c.args.text.now c.args.at c.in-Some.word (symbol (quantifier_word quant)) (variable bound ∷ symbol Dot ∷ rest) c.in-Some.ensures left).0

pub returns-in_default-next_token-clause-head : goal.returns-in_default-next_token-clause-head
returns-in_default-next_token-clause-head c = λ quant bound rest left.
    let first = first_stands c.args.text.now c.args.at c.in-Some.word (symbol (quantifier_word quant)) (variable bound ∷ symbol Dot ∷ rest) c.in-Some.ensures left in
    first_missing c.args.text.now c.in-Some.word.behind (variable bound) (symbol Dot ∷ rest) c.in_default-next_token.ensures first.1

pub returns-in_default-token-clause-head : goal.returns-in_default-token-clause-head
returns-in_default-token-clause-head c = λ quant bound rest left.
    let first = first_stands c.args.text.now c.args.at c.in-Some.word (symbol (quantifier_word quant)) (variable bound ∷ symbol Dot ∷ rest) c.in-Some.ensures left in
    let second = first_stands c.args.text.now c.in-Some.word.behind c.in-Some-next_token.name (variable bound) (symbol Dot ∷ rest) c.in-Some-next_token.ensures first.1 in
    no_variable_there c.in-Some-next_token.name.token bound c.in_default-token.not-Variable second.0

pub returns-in_default-next_token-2-clause-head : goal.returns-in_default-next_token-2-clause-head
returns-in_default-next_token-2-clause-head c = λ quant bound rest left.
    let first = first_stands c.args.text.now c.args.at c.in-Some.word (symbol (quantifier_word quant)) (variable bound ∷ symbol Dot ∷ rest) c.in-Some.ensures left in
    let second = first_stands c.args.text.now c.in-Some.word.behind c.in-Some-next_token.name (variable bound) (symbol Dot ∷ rest) c.in-Some-next_token.ensures first.1 in
    first_missing c.args.text.now c.in-Some-next_token.name.behind (symbol Dot) rest c.in_default-next_token-2.ensures second.1

pub returns-then-not-is_dot-clause-head : goal.returns-then-not-is_dot-clause-head
returns-then-not-is_dot-clause-head c = λ quant bound rest left.
    let first = first_stands c.args.text.now c.args.at c.in-Some.word (symbol (quantifier_word quant)) (variable bound ∷ symbol Dot ∷ rest) c.in-Some.ensures left in
    let second = first_stands c.args.text.now c.in-Some.word.behind c.in-Some-next_token.name (variable bound) (symbol Dot ∷ rest) c.in-Some-next_token.ensures first.1 in
    let third = first_stands c.args.text.now c.in-Some-next_token.name.behind c.in-Some-next_token-2.dot (symbol Dot) rest c.in-Some-next_token-2.ensures second.1 in
    c.is_dot.ensures.no c.if-not-is_dot.true third.0

pub returns-clause-head : goal.returns-clause-head
returns-clause-head c =
    head_stands c.args.text.now c.args.at c.in-Some.word c.in-Some-next_token.name c.in-Some-next_token-2.dot c.in-Some-quantifier_of.quant c.in-Variable.variable.now c.in-Some.ensures c.in-Some-quantifier_of.ensures c.in-Some-next_token.ensures (ap plain c.in-Variable.is) c.in-Some-next_token-2.ensures (c.is_dot.ensures.yes c.if-not-is_dot.false)

-- Symbols of a text: what the code holds of one, and where what it names stands among all that can be named.
use Rattle.std.specs.Prelude.{ℕ, sum, take, Option, Some, None}
use Rattle.aiger_body.specs.declared.header.Header.{Header}
use Rattle.aiger_body.specs.Symbols as symbols
use Rattle.aiger_body.specs.Symbols.{kind_number, symbol_counts}
use Rattle.aiger_read.specs.declared.symbol.Symbol.{Symbol}

-- the symbol that the code holds
abbrev pub said : Option Symbol → Option symbols.Symbol
said None = None
said (Some s) = Some (record { kind = s.kind; number = s.number; name = s.name.now })

-- how many there are of the kinds before that of the letter
abbrev pub start_of : Header → ℕ → ℕ
start_of h letter = sum (take (kind_number letter) (symbol_counts h))

-- The tokens that have one spelling.
use Rattle.std.specs.Prelude.{ℕ, List, [], ◌∷◌, codes}
use Rattle.hy_read.specs.declared.symbol.Symbol.{Symbol}
use Rattle.hy_read.specs.declared.symbol.Symbol.TheVariants.{OpenParen, CloseParen, Not, And, Or, Implies, Iff, Dot, Semicolon, Exists, Forall, True, False, Next, Finally, Globally, Until, Release, Weak}

abbrev pub spelling : Symbol → List ℕ
spelling OpenParen = codes "("
spelling CloseParen = codes ")"
spelling Not = codes "!"
spelling And = codes "&"
spelling Or = codes "|"
spelling Implies = codes "->"
spelling Iff = codes "<->"
spelling Dot = codes "."
spelling Semicolon = codes ";"
spelling Exists = codes "exists"
spelling Forall = codes "forall"
spelling True = codes "true"
spelling False = codes "false"
spelling Next = codes "X"
spelling Finally = codes "F"
spelling Globally = codes "G"
spelling Until = codes "U"
spelling Release = codes "R"
spelling Weak = codes "W"

-- No sign begins another.
abbrev pub signs : List Symbol
signs = OpenParen ∷ CloseParen ∷ Not ∷ And ∷ Or ∷ Implies ∷ Iff ∷ Dot ∷ Semicolon ∷ []

abbrev pub reserved_words : List Symbol
reserved_words = Exists ∷ Forall ∷ True ∷ False ∷ Next ∷ Finally ∷ Globally ∷ Until ∷ Release ∷ Weak ∷ []

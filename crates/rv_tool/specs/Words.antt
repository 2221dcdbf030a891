-- Which words ask which question.
use Rattle.std.specs.Prelude.{◌≡◌, Bool, List, [], ◌∷◌, length, codes}
use Rattle.hy_finite.specs.declared.lengths.Lengths.{Lengths}
use Rattle.hy_finite.specs.declared.lengths.Lengths.TheVariants.{Min, Pad}
use Rattle.hy_words.specs.Numbers.{IsNumber}
use Rattle.hy_words.specs.Words.{Syntax, Item, AreItems, files_in, given_in, is_given}
use Rattle.hy_run.specs.Names.{Text}
use Rattle.rv_tool.specs.declared.verdict.Question.{Question}
use Rattle.rv_tool.specs.declared.verdict.Question.TheVariants.{Monitor, MonitorMade}

abbrev pub rv_syntax : Syntax
rv_syntax = record { flags = codes "drop" ∷ []; options = codes "lengths" ∷ codes "make" ∷ [] }

-- What the option is given is the rule of lengths; without it tuples are judged on the least length.
abbrev pub IsRule : List Text → Lengths → Type 0
IsRule [] rule = rule ≡ Min
IsRule (value ∷ _) Min = value ≡ codes "min"
IsRule (value ∷ _) Pad = value ≡ codes "pad"

-- The items ask for traces to be monitored: these are the files, the count of made traces, if any, the rule, and
-- whether dominated traces are dropped.
pub record Monitors (items : List Item) (names made : List Text) (lengths : Lengths) (drop : Bool) : Type 0 where
  pub files : files_in items ≡ names
  pub make : given_in (codes "make") items ≡ made
  pub rule : IsRule (given_in (codes "lengths") items) lengths
  pub drops : drop ≡ is_given (given_in (codes "drop") items)

-- The items ask this of files of these names.
abbrev pub Orders : List Item → Question → List Text → Type 0
Orders items (Monitor lengths drop) files = Monitors items files [] lengths drop × (length files ≡ 2)
Orders items (MonitorMade count lengths drop) files =
    (text : Text) × Monitors items files (text ∷ []) lengths drop × IsNumber text 1 1000000 count × (length files ≡ 1)

-- The words ask this of files of these names, in the order in which they are read.
abbrev pub asks : List Text → Question → List Text → Type 0
asks words question files = (items : List Item) × AreItems rv_syntax words items × Orders items question files

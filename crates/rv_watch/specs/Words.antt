-- Which words ask which question.
use Rattle.std.specs.Prelude.{◌≡◌, ◌≢◌, ℕ, List, [], ◌∷◌, Option, Some, None, codes}
use Rattle.hy_words.specs.Numbers.{IsNumber}
use Rattle.hy_words.specs.Words.{Syntax, Item, AreItems, files_in, given_in, is_given}
use Rattle.hy_run.specs.Names.{Text}
use Rattle.rv_tool.specs.Words.{IsRule}
use Rattle.rv_watch.specs.Input.{input_name}
use Rattle.rv_watch.specs.declared.verdict.Question.{Question}

abbrev pub watch_syntax : Syntax
watch_syntax = record { flags = codes "drop" ∷ []; options = codes "lengths" ∷ codes "count" ∷ [] }

-- What the option is given is how many arrivals stand between two lines of counts; without it there are none.
abbrev pub IsEvery : List Text → Option ℕ → Type 0
IsEvery [] every = every ≡ None
IsEvery (value ∷ _) None = ⊥
IsEvery (value ∷ _) (Some n) = IsNumber value 1 1000000000 n

-- The items ask this of formulas in the file of this name, which is not standard input.
pub record Orders (items : List Item) (question : Question) (file : Text) : Type 0 where
  pub files : files_in items ≡ file ∷ []
  pub apart : file ≢ input_name
  pub rule : IsRule (given_in (codes "lengths") items) question.lengths
  pub drops : question.drop ≡ is_given (given_in (codes "drop") items)
  pub every : IsEvery (given_in (codes "count") items) question.every

-- The words ask this of formulas in the file of this name.
abbrev pub asks : List Text → Question → Text → Type 0
asks words question file = (items : List Item) × AreItems watch_syntax words items × Orders items question file

-- Which question words ask: as what is found in them tells.
use Rattle.std.proofs.Common.{◌≡◌, List, [], ◌∷◌, slice_index_or, Option, Some, None, IfNone, ap}
use Rattle.hy_words.specs.Found.{Tells}
use Rattle.hy_words.specs.Words.{AreItems, Item}
use Rattle.hy_words.specs.declared.found.Found.{Found}
use Rattle.hy_run.specs.Names.{Text}
use Rattle.rv_watch.specs.Runs.{HasNoCommand}
use Rattle.rv_watch.specs.Words.{Orders, watch_syntax}
use Rattle.rv_watch.specs.declared.verdict.Question.{Question}
use Rattle.rv_watch.specs.declared.words.Order.{Order}

-- Where no question was found in words, these ask none.
pub question_none : (words : List Text) (found : Found) (o : Option Order)
    → ((items : List Item) → AreItems watch_syntax words items → Tells watch_syntax items found)
    → IfNone o ((items : List Item) (question : Question) (file : Text) → Tells watch_syntax items found → ¬ Orders items question file)
    → IfNone o (HasNoCommand words)
question_none words found (Some order) told none = tt
question_none words found None told none = λ question file (items, are, orders). none items question file (told items are) orders

pub same_head : (a b : Text) → a ∷ [] ≡ b ∷ [] → a ≡ b
same_head a b e = ap (λ (names : List Text). slice_index_or names 0 []) e

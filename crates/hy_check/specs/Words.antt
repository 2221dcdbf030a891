-- Which words are a command.
--
--     ea          FORMULA OUT
--     implies     FORMULA FORMULA OUT
--     equivalent  FORMULA FORMULA OUT
--     mc          CIRCUIT FORMULA OUT
--
-- There are no options, and the last file is the certificate.
use Rattle.std.specs.Prelude.{◌≡◌, ◌==◌, ◌||◌, ℕ, Bool, false, not, List, [], ◌∷◌, IsTrue, length, codes}
use Rattle.std.specs.List.{list_all}
use Rattle.cert_text.specs.declared.question.Question.{Question}
use Rattle.cert_text.specs.declared.question.Question.TheVariants.{Formula, Implication, Equivalence, Circuit}
use Rattle.hy_run.specs.Names.{Text}

-- the first word of a command that asks the question
abbrev pub word_of : Question → Text
word_of Formula = codes "ea"
word_of Implication = codes "implies"
word_of Equivalence = codes "equivalent"
word_of Circuit = codes "mc"

-- how many files it has, with the certificate
abbrev pub file_count : Question → ℕ
file_count Formula = 2
file_count Implication = 3
file_count Equivalence = 3
file_count Circuit = 3

-- whether a word may name a file: it is not empty, and begins with a dash only where it is one
abbrev pub is_file_name : Text → Bool
is_file_name [] = false
is_file_name (b ∷ bs) = not (b == 45) || length bs == 0

-- The words ask the question, and name these files, in the order in which they are read.
pub record IsCommand (words : List Text) (question : Question) (files : List Text) : Type 0 where
  pub said : words ≡ word_of question ∷ files
  pub count : length files ≡ file_count question
  pub named : IsTrue (list_all is_file_name files)

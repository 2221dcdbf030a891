-- The names of a command's files, in their order.
use Rattle.std.proofs.Common.{◌≡◌, List, [], ◌∷◌, length, sym, ◌∙◌, arith, subst}
use Rattle.hy_base.specs.declared.shelf.Shelf.{Ghosts}
use Rattle.cert_text.specs.declared.question.Question.{Question}
use Rattle.hy_files.specs.ErrorLines.{name_of_file}
use Rattle.hy_run.specs.Names.{Text}
use Rattle.hy_run.specs.Runs.{Answer, Follows}
use Rattle.hy_check.specs.Rules.{check_rules}
use Rattle.hy_check.specs.Words.{IsCommand, file_count}
use Rattle.hy_check.specs.declared.answer.CertFault.{CertFault}
use Rattle.hy_check.specs.declared.answer.CheckVerdict.{CheckVerdict}

two_in : (files : List Text) (one two : Text) → length files ≡ 2 → one ≡ name_of_file files 0 → two ≡ name_of_file files 1
    → files ≡ one ∷ two ∷ []
two_in [] one two e first second = absurd (omega (arith, e))
two_in (a ∷ []) one two e first second = absurd (omega (arith, e))
two_in (a ∷ b ∷ []) one two e first second = cc
two_in (a ∷ b ∷ c ∷ files) one two e first second = absurd (omega (arith, e))

three_in : (files : List Text) (one two three : Text) → length files ≡ 3 → one ≡ name_of_file files 0 → two ≡ name_of_file files 1
    → three ≡ name_of_file files 2 → files ≡ one ∷ two ∷ three ∷ []
three_in [] one two three e first second third = absurd (omega (arith, e))
three_in (a ∷ []) one two three e first second third = absurd (omega (arith, e))
three_in (a ∷ b ∷ []) one two three e first second third = absurd (omega (arith, e))
three_in (a ∷ b ∷ c ∷ []) one two three e first second third = cc
three_in (a ∷ b ∷ c ∷ d ∷ files) one two three e first second third = absurd (omega (arith, e))

module _ (words files : List Text) (asked : Question) (is : IsCommand words asked files) where
  pub two_named : file_count asked ≡ 2 → (one two : Text) → one ≡ name_of_file files 0 → two ≡ name_of_file files 1 → files ≡ one ∷ two ∷ []
  two_named many one two first second = two_in files one two (is.count ∙ many) first second

  pub three_named : file_count asked ≡ 3 → (one two three : Text) → one ≡ name_of_file files 0 → two ≡ name_of_file files 1
      → three ≡ name_of_file files 2 → files ≡ one ∷ two ∷ three ∷ []
  three_named many one two three first second third = three_in files one two three (is.count ∙ many) first second third

-- A run that follows a question of some files follows it by its other names.
pub of_files : {S : Type 0} (g : Ghosts S) (old new : S) (question other : Question) (files names table : List Text)
    (answer : Answer CheckVerdict CertFault) → other ≡ question → names ≡ files → Follows check_rules g old new question files table answer
    → Follows check_rules g old new other names table answer
of_files g old new question other files names table answer is are follows =
    let P : Question → Type 0 = λ q. Follows check_rules g old new q files table answer in
    let R : List Text → Type 0 = λ fs. Follows check_rules g old new other fs table answer in
    subst R (sym are) (subst P (sym is) follows)

-- Words as a command: each command has a first word of its own.
use Rattle.std.proofs.Common.{◌≡◌, ◌≢◌, ◌⊎◌, inl, inr, ℕ, List, ◌∷◌, length, get_or, arith, true, false, refl, sym, ap, ◌∙◌, true≢false}
use Rattle.std.specs.Prelude.{String}
use Rattle.std.specs.List.{list_all}
use Rattle.std.specs.String.{string_bytes}
use Rattle.std.proofs.lemmas.List.{length-map}
use Rattle.std.proofs.lemmas.List.Folds.{list_all-map}
use Rattle.cert_text.specs.declared.question.Question.{Question}
use Rattle.cert_text.specs.declared.question.Question.TheVariants.{Formula, Implication, Equivalence, Circuit}
use Rattle.hy_run.specs.Names.{Text, texts}
use Rattle.hy_run.specs.Runs.{HasNoCommand}
use Rattle.hy_check.specs.Rules.{check_rules}
use Rattle.hy_check.specs.Words.{IsCommand, file_count, is_file_name, word_of}

-- The second letters of the first words are all different.
letter : (question other : Question) → word_of question ≡ word_of other → get_or (word_of question) 1 0 ≡ get_or (word_of other) 1 0
letter question other e = ap (λ (word : List ℕ). get_or word 1 0) e

one-word : (question other : Question) → word_of question ≡ word_of other → question ≡ other
one-word Formula Formula e = refl
one-word Formula Implication e = let n : 97 ≡ 109 = letter Formula Implication e in absurd (omega (arith, n))
one-word Formula Equivalence e = let n : 97 ≡ 113 = letter Formula Equivalence e in absurd (omega (arith, n))
one-word Formula Circuit e = let n : 97 ≡ 99 = letter Formula Circuit e in absurd (omega (arith, n))
one-word Implication Formula e = let n : 109 ≡ 97 = letter Implication Formula e in absurd (omega (arith, n))
one-word Implication Implication e = refl
one-word Implication Equivalence e = let n : 109 ≡ 113 = letter Implication Equivalence e in absurd (omega (arith, n))
one-word Implication Circuit e = let n : 109 ≡ 99 = letter Implication Circuit e in absurd (omega (arith, n))
one-word Equivalence Formula e = let n : 113 ≡ 97 = letter Equivalence Formula e in absurd (omega (arith, n))
one-word Equivalence Implication e = let n : 113 ≡ 109 = letter Equivalence Implication e in absurd (omega (arith, n))
one-word Equivalence Equivalence e = refl
one-word Equivalence Circuit e = let n : 113 ≡ 99 = letter Equivalence Circuit e in absurd (omega (arith, n))
one-word Circuit Formula e = let n : 99 ≡ 97 = letter Circuit Formula e in absurd (omega (arith, n))
one-word Circuit Implication e = let n : 99 ≡ 109 = letter Circuit Implication e in absurd (omega (arith, n))
one-word Circuit Equivalence e = let n : 99 ≡ 113 = letter Circuit Equivalence e in absurd (omega (arith, n))
one-word Circuit Circuit e = refl

-- Words are one command.
pub command_once : (words files others : List Text) (question other : Question) → IsCommand words question files → IsCommand words other others
    → (question ≡ other) × (files ≡ others)
command_once words files others question other one two =
    let both : word_of question ∷ files ≡ word_of other ∷ others = sym one.said ∙ two.said in
    let word : word_of question ≡ word_of other = cc in
    (one-word question other word, cc)

-- ---- words of the code

module _ {Z : Type 0} (words rest : List (String Z)) (first : String Z) (question : Question)
    (cut : words ≡ first ∷ rest) (word : string_bytes first ≡ word_of question) where
  said : texts words ≡ word_of question ∷ texts rest
  said = ap texts cut ∙ ap (λ (w : List ℕ). w ∷ texts rest) word

  names-all : list_all is_file_name (texts rest) ≡ list_all (λ w. is_file_name (string_bytes w)) rest
  names-all = list_all-map is_file_name string_bytes rest

  -- A first word with the files behind it is a command.
  pub is_command : (files : List Text) → files ≡ texts rest → length rest ≡ file_count question
      → list_all (λ w. is_file_name (string_bytes w)) rest ≡ true → IsCommand (texts words) question files
  is_command files are count names = record {
    said = said ∙ ap (λ (fs : List Text). word_of question ∷ fs) (sym are);
    count = ap length are ∙ length-map rest string_bytes ∙ count;
    named = ap (λ fs. list_all is_file_name fs) are ∙ names-all ∙ names;
  }

  -- It is none with another number of files, or where some word names none.
  pub is_no_command : (length rest ≢ file_count question)
      ⊎ (list_all (λ w. is_file_name (string_bytes w)) rest ≡ false)
      → HasNoCommand check_rules (texts words)
  is_no_command wrong other files is =
      let both : word_of other ∷ files ≡ word_of question ∷ texts rest = sym is.said ∙ said in
      let begins : word_of other ≡ word_of question = cc in
      let same = one-word other question begins in
      let are : files ≡ texts rest = cc in
      elim wrong [
        | inl count ↦ count (sym (length-map rest string_bytes) ∙ ap length (sym are) ∙ is.count ∙ ap file_count same)
        | inr none ↦ true≢false (sym is.named ∙ ap (λ fs. list_all is_file_name fs) are ∙ names-all ∙ none)
      ]

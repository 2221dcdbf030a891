-- The numbers of words, one after the other.
use Rattle.std.proofs.Common.{◌≡◌, ℕ, ◌+◌, ◌<◌, ◌≤◌, List, [], ◌∷◌, ◌++◌, length, take, refl, sym, ◌∙◌, ap, arith, Option, Some, None, append_assoc, append-nil, min, length-append}
use Rattle.std.proofs.lemmas.List.{take-append-le, take_all}
use Rattle.std.proofs.Math.Seq.{take-length}
use Rattle.hy_text.specs.Numbers.{number_of}
use Rattle.aiger_body.specs.Texts.{with_number, all_numbers, or_empty}

-- the numbers read, and then those of the words that are left
abbrev pub onto : List ℕ → Option (List ℕ) → Option (List ℕ)
onto ns None = None
onto ns (Some ms) = Some (ns ++ ms)

onto-more : (ns : List ℕ) (n : ℕ) (o : Option (List ℕ)) → onto ns (with_number (Some n) o) ≡ onto (ns ++ n ∷ []) o
onto-more ns n None = refl
onto-more ns n (Some ms) = ap Some (sym (append_assoc ns (n ∷ []) ms))

-- The words read are numbers, of which the row has the first ten.
pub record AreRead (words left : List (List ℕ)) (front row : List ℕ) (count : ℕ) : Type 0 where
  pub numbers : List ℕ
  pub all : all_numbers words ≡ onto numbers (all_numbers left)
  pub row_is : row ≡ front ++ take 10 numbers
  pub count_is : count ≡ min (length numbers) 10

pub none_read : (words : List (List ℕ)) (front : List ℕ) → AreRead words words front front 0
none_read words front = record { numbers = []; all = step (all_numbers words); row_is = sym (append-nil front); count_is = refl }
  where
    step : (o : Option (List ℕ)) → o ≡ onto [] o
    step None = refl
    step (Some ns) = refl

said-more : (words left rest : List (List ℕ)) (word ns : List ℕ) (n : ℕ) → all_numbers words ≡ onto ns (all_numbers left) → left ≡ word ∷ rest → Some n ≡ number_of word → all_numbers words ≡ onto (ns ++ n ∷ []) (all_numbers rest)
said-more words left rest word ns n all cut said =
    all ∙ ap (λ l. onto ns (all_numbers l)) cut ∙ ap (λ o. onto ns (with_number o (all_numbers rest))) (sym said) ∙ onto-more ns n (all_numbers rest)

-- a number that is kept
pub read_more : (words left rest : List (List ℕ)) (front row word : List ℕ) (count n : ℕ) → AreRead words left front row count → left ≡ word ∷ rest → Some n ≡ number_of word → count < 10 → AreRead words rest front (row ++ n ∷ []) (count + 1)
read_more words left rest front row word count n are cut said few =
    let small : length are.numbers < 10 = omega (arith, are.count_is) in
    let whole : take 10 are.numbers ≡ are.numbers = take_all 10 are.numbers (omega arith) in
    let more : take 10 (are.numbers ++ n ∷ []) ≡ are.numbers ++ n ∷ [] = take_all 10 (are.numbers ++ n ∷ []) (omega (arith, length-append are.numbers (n ∷ []))) in
    record {
      numbers = are.numbers ++ n ∷ [];
      all = said-more words left rest word are.numbers n are.all cut said;
      row_is = ap (λ r. r ++ n ∷ []) (are.row_is ∙ ap (λ t. front ++ t) whole) ∙ append_assoc front are.numbers (n ∷ []) ∙ ap (λ t. front ++ t) (sym more);
      count_is = omega (arith, are.count_is, length-append are.numbers (n ∷ []));
    }

-- and one past the tenth
pub read_past : (words left rest : List (List ℕ)) (front row word : List ℕ) (count n : ℕ) → AreRead words left front row count → left ≡ word ∷ rest → Some n ≡ number_of word → 10 ≤ count → AreRead words rest front row count
read_past words left rest front row word count n are cut said many =
    let large : 10 ≤ length are.numbers = omega (arith, are.count_is) in
    record {
      numbers = are.numbers ++ n ∷ [];
      all = said-more words left rest word are.numbers n are.all cut said;
      row_is = are.row_is ∙ ap (λ t. front ++ t) (sym (take-append-le 10 are.numbers (n ∷ []) large));
      count_is = omega (arith, are.count_is, length-append are.numbers (n ∷ []));
    }

pub read_all : (words left : List (List ℕ)) (front row : List ℕ) (count : ℕ) → AreRead words left front row count → left ≡ [] → row ≡ front ++ take 10 (or_empty (all_numbers words))
read_all words left front row count are none =
    let ended : all_numbers words ≡ Some are.numbers = are.all ∙ ap (λ l. onto are.numbers (all_numbers l)) none ∙ ap Some (append-nil are.numbers) in
    are.row_is ∙ ap (λ o. front ++ take 10 (or_empty o)) (sym ended)

-- a word that is no number
pub read_none : (words left rest : List (List ℕ)) (front row word : List ℕ) (count : ℕ) → AreRead words left front row count → left ≡ word ∷ rest → None ≡ number_of word → take (length front) row ≡ front ++ take 10 (or_empty (all_numbers words))
read_none words left rest front row word count are cut said =
    let ended : all_numbers words ≡ None = are.all ∙ ap (λ l. onto are.numbers (all_numbers l)) cut ∙ ap (λ o. onto are.numbers (with_number o (all_numbers rest))) (sym said) in
    ap (take (length front)) are.row_is ∙ take-append-le (length front) front (take 10 are.numbers) (omega arith) ∙ take-length front ∙ sym (append-nil front) ∙ ap (λ o. front ++ take 10 (or_empty o)) (sym ended)

-- Counts, literals and members in words, and lines that end in numbers.
use Rattle.std.specs.Prelude.{◌≡◌, ℕ, ◌^◌, ◌<◌, ℤ, unsigned_abs, List, [], ◌∷◌, ◌++◌, codes}
use Rattle.std.specs.Fmt.{signed_decimal}
use Rattle.std.specs.List.Sorted.{IsStrictlyIncreasing}
use Rattle.hy_text.specs.Cuts.{cut_at}
use Rattle.hy_text.specs.Numbers.{SaysNumber}
use Rattle.cert_text.specs.Lines.{Line, words_of, Say}

-- The word is the number, which counts from 1.
pub record SaysCount (word : List ℕ) (n : ℕ) : Type 0 where
  pub number : SaysNumber word n
  pub some : 0 < n

-- a literal: a variable that counts from 1, with a minus for the opposite
pub record SaysLiteral (word : List ℕ) (l : ℤ) : Type 0 where
  pub spelled : word ≡ signed_decimal l
  pub some : 0 < unsigned_abs l
  pub short : unsigned_abs l < 10 ^ 10

-- ascending numbers with commas between them, and `-` where there are none
abbrev pub SaysMembers : List ℕ → List ℕ → Type 0
SaysMembers word [] = word ≡ codes "-"
SaysMembers word (k ∷ ks) =
    Say SaysNumber (cut_at 44 word) (k ∷ ks) × IsStrictlyIncreasing (k ∷ ks)

-- These words and one number are the words of the line.
abbrev pub SaysOne : List (List ℕ) → Line → ℕ → Type 0
SaysOne words line n =
    (word : List ℕ) × (words_of line ≡ words ++ word ∷ []) × SaysNumber word n

-- These words and two numbers are the words of the line.
abbrev pub SaysTwo : List (List ℕ) → Line → ℕ → ℕ → Type 0
SaysTwo words line m n =
    (one two : List ℕ) × (words_of line ≡ words ++ one ∷ two ∷ [])
    × SaysNumber one m × SaysNumber two n

-- Words that say these values, a 0, and the words behind it.
abbrev pub SayEnded : {A : Type 0} → (List ℕ → A → Type 0) → List (List ℕ) → List A
    → List (List ℕ) → Type 0
SayEnded Says words values rest =
    (front : List (List ℕ)) × (words ≡ front ++ codes "0" ∷ rest) × Say Says front values

-- Numbers of at most ten decimal digits, with no needless zero.
use Rattle.std.specs.Prelude.{◌≡◌, ℕ, ◌^◌, ◌<◌, ◌&&◌, nat_le, cond, List, length, decimal, bytes_eq, Option, Some, None}
use Rattle.std.specs.Str.Parse.{digits_value}

-- The word is the number as it is written.
pub record SaysNumber (word : List ℕ) (n : ℕ) : Type 0 where
  pub spelled : word ≡ decimal n
  pub short : n < 10 ^ 10

-- the number that the word spells: what is written of it is the word
abbrev pub number_of : List ℕ → Option ℕ
number_of word = cond (nat_le (length word) 10 && bytes_eq (decimal (digits_value 10 word)) word) (Some (digits_value 10 word)) None

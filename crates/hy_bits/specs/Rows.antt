-- A number in words of 64 bits, the lowest word first.
use Rattle.std.specs.Prelude.{ℕ, zero, suc, ◌+◌, ◌*◌, ◌/◌, ◌%◌, ◌^◌, ◌<◌, List, [], ◌∷◌, slice_index}
use Rattle.hy_bits.specs.Binary.{ones}
use Rattle.hy_bits.specs.Sets.{NumberSet}

-- the number that the words are
abbrev pub joined : List ℕ → ℕ
joined [] = 0
joined (w ∷ ws) = joined ws * 2 ^ 64 + w

-- the places at which the words have a 1
abbrev pub members : List ℕ → NumberSet
members ws = ones (joined ws)

-- the lowest words of a number, of which as many are taken as the first number says
abbrev pub words_of : ℕ → ℕ → List ℕ
words_of zero n = []
words_of (suc k) n = n % 2 ^ 64 ∷ words_of k (n / 2 ^ 64)

-- each fits in 64 bits
abbrev pub AreWords : List ℕ → Type 0
AreWords ws = (j : ℕ) → slice_index ws j < 2 ^ 64

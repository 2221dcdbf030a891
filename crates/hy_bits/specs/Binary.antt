-- A finite set of numbers, kept as the number that has a binary 1 at each of them and no other.
use Rattle.std.specs.Prelude.{ℕ, zero, suc, ◌^◌, Bool, cond, List, [], ◌∷◌, max, nat_eq, bit_or}
use Rattle.std.specs.Int.{bit_at}
use Rattle.std.specs.FinSet.{empty, insert, contains, items}
use Rattle.hy_bits.specs.Sets.{NumberSet}

-- number n has a 1 at place k, counted from the lowest
abbrev pub has_one : ℕ → ℕ → Bool
has_one n k = nat_eq (bit_at n k) 1

-- the places below k at which n has a 1
abbrev pub ones_below : ℕ → ℕ → NumberSet
ones_below n zero = empty
ones_below n (suc k) = cond (has_one n k) (insert (ones_below n k) k) (ones_below n k)

-- The places at which n has a 1. All are below n, since 2 ^ n is above n.
unfoldable pub ones : ℕ → NumberSet
ones n = ones_below n n

-- the number with a 1 at each member below k, and no other
abbrev pub number_below : NumberSet → ℕ → ℕ
number_below s zero = 0
number_below s (suc k) = bit_or (cond (contains s k) (2 ^ k) 0) (number_below s k)

-- a number above every number of the list
abbrev pub above_all : List ℕ → ℕ
above_all [] = 0
above_all (x ∷ xs) = max (suc x) (above_all xs)

-- the number with a 1 at each member, and no other
unfoldable pub number : NumberSet → ℕ
number s = number_below s (above_all (items s))

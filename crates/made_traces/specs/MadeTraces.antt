-- The traces that are made in place of those of a file. A sequence of numbers gives the letters, one after another: in
-- each of them both signals hold, or none does. The traces have one to four letters in turn.
use Rattle.std.specs.Prelude.{ℕ, zero, suc, ◌+◌, ◌*◌, ◌/◌, ◌%◌, ◌^◌, nat_eq, if◌then◌else◌, List, [], ◌∷◌, ◌++◌, codes}
use Rattle.std.specs.FinSet.{empty}
use Rattle.hy_bits.specs.Letter.{Letter}
use Rattle.hy_text.specs.Sets.{letter_of}
use Rattle.hy_finite.specs.Traces.{Trace}

-- the number behind this one in the sequence
abbrev pub behind : ℕ → ℕ
behind x = (x * 1103515245 + 12345) % 2 ^ 31

-- number k of the sequence, which starts at 1
abbrev pub number : ℕ → ℕ
number zero = 1
number (suc k) = behind (number k)

-- the letter of both signals, of which one that the table lacks is passed over
abbrev pub both_signals : List (List ℕ) → Letter
both_signals table = letter_of table (codes "i" ∷ codes "o" ∷ [])

-- the letter that a number of the sequence gives
abbrev pub letter_by : List (List ℕ) → ℕ → Letter
letter_by table x = if nat_eq (x / 65536 % 2) 1 then both_signals table else empty

-- n letters, of which the first is letter k of all traces together, counted from 0
abbrev pub letters_from : List (List ℕ) → ℕ → ℕ → List Letter
letters_from table k zero = []
letters_from table k (suc n) = letters_from table k n ++ letter_by table (number (suc (k + n))) ∷ []

-- how many letters trace k has
abbrev pub length_of : ℕ → ℕ
length_of k = 1 + k % 4

-- how many letters the traces before trace k have
abbrev pub letters_before : ℕ → ℕ
letters_before zero = 0
letters_before (suc k) = letters_before k + length_of k

-- trace k, counted from 0
abbrev pub made_trace : List (List ℕ) → ℕ → Trace
made_trace table k = letters_from table (letters_before k) (length_of k)

-- the first n traces
abbrev pub made_traces : List (List ℕ) → ℕ → List Trace
made_traces table zero = []
made_traces table (suc n) = made_traces table n ++ made_trace table n ∷ []

-- Lists of traces, or of what is left of them, with their numbers.
use Rattle.std.specs.Prelude.{ℕ, ◌+◌, ◌<◌, ◌≤◌, Bool, false, not, ◌&&◌, cond, nat_eq, nat_lt, List, [], ◌∷◌, length, map, Option, Some, None}
use Rattle.std.specs.List.{Contains, filter}
use Rattle.std.specs.FinSet.{is_subset}
use Rattle.hy_bits.specs.Letter.{Letter}
use Rattle.hy_formula.specs.Quantifiers.{Each}

-- a number, and a trace or what is left of one
abbrev pub Numbered : Type 0
Numbered = ℕ × List Letter

-- The numbers ascend.
abbrev pub IsAscending : List Numbered → Type 0
IsAscending [] = Unit {0}
IsAscending (p ∷ ps) = Each (λ (q : Numbered). p.0 < q.0) ps × IsAscending ps

-- Each trace has 1 to 1,024 letters.
abbrev pub AreTraces : List Numbered → Type 0
AreTraces list = Each (λ (p : Numbered). (1 ≤ length p.1) × (length p.1 ≤ 1024)) list

-- the list without a number
abbrev pub without_number : ℕ → List Numbered → List Numbered
without_number n list = filter (λ (p : Numbered). not (nat_eq p.0 n)) list

-- the trace with a number, where there is one
abbrev pub with_number : ℕ → List Numbered → Option (List Letter)
with_number n [] = None
with_number n (p ∷ ps) = cond (nat_eq p.0 n) (Some p.1) (with_number n ps)

-- The trace stands in the list, with some number.
abbrev pub IsHeld : List Letter → List Numbered → Type 0
IsHeld t list = (n : ℕ) × Contains list (n, t)

-- what is left of the list from the first number on that is not below n
abbrev pub rest_from : ℕ → List Numbered → List Numbered
rest_from n [] = []
rest_from n (p ∷ ps) = cond (nat_lt p.0 n) (rest_from n ps) (p ∷ ps)

-- the number of the first trace
abbrev pub first_number : List Numbered → Option ℕ
first_number [] = None
first_number (p ∷ ps) = Some p.0

-- the pairs in the order of their numbers
abbrev pub put_in_order : Numbered → List Numbered → List Numbered
put_in_order p [] = p ∷ []
put_in_order p (q ∷ qs) = cond (nat_lt q.0 p.0) (q ∷ put_in_order p qs) (p ∷ q ∷ qs)

abbrev pub in_order : List Numbered → List Numbered
in_order [] = []
in_order (p ∷ ps) = put_in_order p (in_order ps)

-- ---- letters

abbrev pub same_letter : Letter → Letter → Bool
same_letter a b = is_subset a b && is_subset b a

abbrev pub begins : Letter → List Letter → Bool
begins a [] = false
begins a (b ∷ t) = same_letter a b

abbrev pub tail : List Letter → List Letter
tail [] = []
tail (a ∷ t) = t

-- the traces that begin with the letter, with it taken off
abbrev pub under : Letter → List Numbered → List Numbered
under a list =
    map (λ (p : Numbered). (p.0, tail p.1)) (filter (λ (p : Numbered). begins a p.1) list)

-- the traces with the letter before each
abbrev pub led_by : Letter → List Numbered → List Numbered
led_by a list = map (λ (p : Numbered). (p.0, a ∷ p.1)) list

-- the numbers with nothing left of their traces
abbrev pub ended : List Numbered → List Numbered
ended list = map (λ (p : Numbered). (p.0, [])) list

-- how many letters there are
abbrev pub letters_in : List Numbered → ℕ
letters_in [] = 0
letters_in (p ∷ ps) = length p.1 + letters_in ps

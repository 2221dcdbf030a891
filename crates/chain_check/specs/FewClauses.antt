-- The few clauses of which larger questions are made.
use Rattle.std.specs.Prelude.{ℕ, zero, suc, ◌+◌, List, [], ◌∷◌, ◌++◌, map, length, ℤ, pos, neg_ℤ}
use Rattle.chain_check.specs.Clauses.{Clause}

-- the lists of 0 to n - 1, one after the other
abbrev pub for_each : {A : Type 0} → (ℕ → List A) → ℕ → List A
for_each f zero = []
for_each f (suc n) = for_each f n ++ f n

-- a variable counted from 0
abbrev pub further : ℕ → ℤ
further d = pos (suc d)

-- the literal is true
abbrev pub alone : ℤ → List Clause
alone l = (l ∷ []) ∷ []

-- l is the and of a and b
abbrev pub and_clauses : ℤ → ℤ → ℤ → List Clause
and_clauses l a b =
    (neg_ℤ l ∷ a ∷ []) ∷ (neg_ℤ l ∷ b ∷ []) ∷ (l ∷ neg_ℤ a ∷ neg_ℤ b ∷ []) ∷ []

-- y is n, as the next value of a latch
abbrev pub next_clauses : ℤ → ℤ → List Clause
next_clauses y n = (neg_ℤ y ∷ n ∷ []) ∷ (y ∷ neg_ℤ n ∷ []) ∷ []

abbrev pub same_clauses : ℤ → ℤ → List Clause
same_clauses x y = (x ∷ neg_ℤ y ∷ []) ∷ (neg_ℤ x ∷ y ∷ []) ∷ []

abbrev pub differ_clauses : ℤ → ℤ → List Clause
differ_clauses x y = (x ∷ y ∷ []) ∷ (neg_ℤ x ∷ neg_ℤ y ∷ []) ∷ []

-- the clauses, where d is true
abbrev pub guarded : ℤ → List Clause → List Clause
guarded d clauses = map (λ c. neg_ℤ d ∷ c) clauses

-- one of n variables from d on is true
abbrev pub some_further : ℕ → ℕ → List Clause
some_further d n = for_each (λ i. further (d + i) ∷ []) n ∷ []

-- how many literals clauses have
abbrev pub literals_in : List Clause → ℕ
literals_in [] = 0
literals_in (c ∷ clauses) = length c + literals_in clauses

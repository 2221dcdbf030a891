-- What literals and clauses say of an assignment, as tests.
use Rattle.std.specs.Prelude.{◌≡◌, ℕ, zero, suc, Bool, true, false, not, ◌||◌, List, [], ◌∷◌, ℤ, pos, negsuc, neg_ℤ}
use Rattle.chain_check.specs.Clauses.{Clause}

-- truth values of the variables 1, 2, ..
abbrev pub Assignment : Type 0
Assignment = ℕ → Bool

abbrev pub number_value : Assignment → ℤ → Bool
number_value a (pos zero) = a 0
number_value a (pos (suc x)) = a x
number_value a (negsuc x) = not (a x)

abbrev pub clause_value : Assignment → Clause → Bool
clause_value a [] = false
clause_value a (l ∷ ls) = number_value a l || clause_value a ls

-- Each clause is true.
abbrev pub AllMet : Assignment → List Clause → Type 0
AllMet a [] = Unit {0}
AllMet a (c ∷ cs) = (clause_value a c ≡ true) × AllMet a cs

-- the literal has the value, and its opposite the other one
pub record Means (a : Assignment) (l : ℤ) (b : Bool) : Type 0 where
  pub is : number_value a l ≡ b
  pub other : number_value a (neg_ℤ l) ≡ not b

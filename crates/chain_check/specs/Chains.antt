-- Chains of clauses: what they refute.
use Rattle.std.specs.Prelude.{◌≡◌, ◌≢◌, ℕ, ◌-◌, ◌<◌, ℤ, neg_ℤ, List, [], ◌∷◌, ◌++◌, map, Contains, Some, slice_get}
use Rattle.chain_check.specs.Clauses.{Clause, AreLiterals, IsApart}

-- A partial assignment is the list of the literals that it makes true.
abbrev pub IsFalseIn : List ℤ → ℤ → Type 0
IsFalseIn trues l = Contains trues (neg_ℤ l)

abbrev pub AllFalseIn : List ℤ → Clause → Type 0
AllFalseIn trues c = (l : ℤ) → Contains c l → IsFalseIn trues l

-- the literal is the only one of the clause that is not false
pub record IsUnit (trues : List ℤ) (c : Clause) (l : ℤ) : Type 0 where
  pub there : Contains c l
  pub open_yet : ¬ IsFalseIn trues l
  pub others : (m : ℤ) → Contains c m → m ≢ l → IsFalseIn trues m

-- the clause with this number, from 1
pub record IsNumbered (clauses : List Clause) (k : ℕ) (c : Clause) : Type 0 where
  pub counted : 0 < k
  pub there : slice_get clauses (k - 1) ≡ Some c

-- Each clause of the chain but the last has one literal that is not false, which is made true; the
-- last has none.
pub data Refutes (clauses : List Clause) : List ℤ → List ℕ → Type 0 where
  ends : {trues : List ℤ} {k : ℕ} (c : Clause) → IsNumbered clauses k c → AllFalseIn trues c →
      Refutes clauses trues (k ∷ [])
  goes : {trues : List ℤ} {k : ℕ} {chain : List ℕ} (c : Clause) (l : ℤ) → IsNumbered clauses k c →
      IsUnit trues c l → Refutes clauses (trues ++ l ∷ []) chain → Refutes clauses trues (k ∷ chain)

-- the clause follows from those before it
pub record Follows (variables : ℕ) (before : List Clause) (c : Clause)
    (chain : List ℕ) : Type 0 where
  pub literals : AreLiterals variables c
  pub apart : IsApart c
  pub refuted : Refutes before (map neg_ℤ c) chain

-- no literal of the clause is open yet but for this one, or there are two
pub record AreTwo (trues : List ℤ) (c : Clause) (l m : ℤ) : Type 0 where
  pub first : Contains c l
  pub second : Contains c m
  pub differ : l ≢ m
  pub open_first : ¬ IsFalseIn trues l
  pub open_second : ¬ IsFalseIn trues m

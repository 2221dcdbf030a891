-- Drawings: gates made one after the other, and what is drawn by them, as a literal or a row of
-- them. A gate is the conjunction of two literals, and has a variable of its own. A drawing is told
-- the number of its first one's, counted from 0; its gates have that variable and those after it.
use Rattle.std.specs.Prelude.{ℕ, suc, ◌+◌, List, [], ◌∷◌, ◌++◌, length, ℤ, neg_ℤ}
use Rattle.chain_check.specs.Clauses.{Clause}
use Rattle.chain_check.specs.FewClauses.{further, and_clauses}

pub record Gate : Type 0 where
  pub left : ℤ
  pub right : ℤ

pub record Drawn (A : Type 0) : Type 0 where
  pub gates : List Gate
  pub out : A

abbrev pub Drawing : Type 0 → Type 0
Drawing A = ℕ → Drawn A

-- no gate
abbrev pub plain : {A : Type 0} → A → Drawing A
plain x from = record { gates = []; out = x }

-- a drawing, and then one by what it drew
abbrev pub followed : {A B : Type 0} → Drawing A → (A → Drawing B) → Drawing B
followed first next from =
    let before = first from in
    let after = next before.out (from + length before.gates) in
    record { gates = before.gates ++ after.gates; out = after.out }

abbrev pub both : ℤ → ℤ → Drawing ℤ
both l m from = record { gates = record { left = l; right = m } ∷ []; out = further from }

abbrev pub either : ℤ → ℤ → Drawing ℤ
either l m = followed (both (neg_ℤ l) (neg_ℤ m)) (λ none. plain (neg_ℤ none))

-- both or neither
abbrev pub alike : ℤ → ℤ → Drawing ℤ
alike l m =
    followed (both l m) (λ all. followed (both (neg_ℤ l) (neg_ℤ m)) (λ none. either all none))

-- the literal that is always true
abbrev pub sure : ℤ
sure = further 0

abbrev pub never : ℤ
never = neg_ℤ sure

-- what the gates say, the first of which has this variable
abbrev pub gate_clauses : ℕ → List Gate → List Clause
gate_clauses from [] = []
gate_clauses from (g ∷ gates) =
    and_clauses (further from) g.left g.right ++ gate_clauses (suc from) gates

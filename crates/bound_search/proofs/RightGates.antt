-- Gates that are right under an assignment, and what drawings give where theirs are.
use Rattle.std.proofs.Common.{◌≡◌, ℕ, suc, ◌+◌, Bool, ◌&&◌, List, [], ◌∷◌, ◌++◌, length, subst, arith}
use Rattle.chain_check.specs.Values.{Assignment, number_value}
use Rattle.bound_search.specs.Drawings.{Gate, Drawing, plain, followed}

abbrev pub gate_value : Assignment → Gate → Bool
gate_value a g = number_value a g.left && number_value a g.right

-- The variable of each gate has its value; that of the first one is given.
abbrev pub AreRight : Assignment → ℕ → List Gate → Type 0
AreRight a from [] = Unit {0}
AreRight a from (g ∷ gates) = (a from ≡ gate_value a g) × AreRight a (suc from) gates

-- Where all gates of the drawing are right, it draws what has P.
pub record Gives {A : Type 0} (a : Assignment) (drawing : Drawing A)
    (P : A → Type 0) : Type 0 where
  pub at : (from : ℕ) → AreRight a from (drawing from).gates → P (drawing from).out

module _ (a : Assignment) where
  pub right-append : (from : ℕ) (xs ys : List Gate) → AreRight a from (xs ++ ys) →
      AreRight a from xs × AreRight a (from + length xs) ys
  right-append from [] ys h =
      let e : from ≡ from + 0 = omega arith in
      let P : ℕ → Type 0 = λ n. AreRight a n ys in
      (tt, subst P e h)
  right-append from (x ∷ xs) ys (h, more) =
      let e : suc from + length xs ≡ from + suc (length xs) = omega arith in
      let P : ℕ → Type 0 = λ n. AreRight a n ys in
      let (p, q) = right-append (suc from) xs ys more in
      ((h, p), subst P e q)

  pub gives-plain : {A : Type 0} (x : A) (P : A → Type 0) → P x → Gives a (plain x) P
  gives-plain x P h = record { at = λ from right. h }

  pub gives-followed : {A B : Type 0} (first : Drawing A) (next : A → Drawing B) (P : A → Type 0)
      (Q : B → Type 0) → Gives a first P → ((x : A) → P x → Gives a (next x) Q) →
      Gives a (followed first next) Q
  gives-followed {A} {B} first next P Q before after = record { at = at }
    where
      at : (from : ℕ) → AreRight a from (followed first next from).gates →
          Q (followed first next from).out
      at from right =
          let (r, s) = right-append from (first from).gates _ right in
          (after (first from).out (before.at from r)).at (from + length (first from).gates) s

  pub gives-like : {A : Type 0} (drawing : Drawing A) (P Q : A → Type 0) →
      ((x : A) → P x → Q x) → Gives a drawing P → Gives a drawing Q
  gives-like drawing P Q f g = record { at = λ from right. f (drawing from).out (g.at from right) }

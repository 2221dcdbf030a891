-- The normal form of a lasso.
use Rattle.std.specs.Prelude.{◌≡◌, ◌≢◌, ℕ, zero, suc, List, [], ◌∷◌, ◌++◌}
use Rattle.hy_formula.specs.Lassos.{Lasso}

-- a word n times, one behind another
abbrev pub times : {A : Type 0} → ℕ → List A → List A
times zero word = []
times (suc n) word = word ++ times n word

-- The cycle is no repetition of a shorter word, and the stem does not end as the cycle does.
pub record IsNormal {A : Type 0} (l : Lasso A) : Type 0 where
  pub primitive : (word : List A) (n : ℕ) → l.cycle ≡ times n word → n ≡ 1
  pub apart : (front rest : List A) (x y : A) → l.stem ≡ front ++ x ∷ []
      → l.cycle ≡ rest ++ y ∷ [] → x ≢ y

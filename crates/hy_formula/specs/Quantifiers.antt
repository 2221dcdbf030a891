-- Quantifiers over the members of something, a list or what a circuit shows, and what is said of the tuple chosen.
use Rattle.std.specs.Prelude.{◌≡◌, ◌↔◌, ℕ, zero, suc, List, [], ◌∷◌, length}
use Rattle.hy_formula.specs.declared.prefix.Quant.{Quant}
use Rattle.hy_formula.specs.declared.prefix.Quant.TheVariants.{Exists, Forall}

-- What is said of the tuple holds for the choices that the prefix asks for, the first choice first.
abbrev pub Quantified : {A : Type 0} → (A → Type 0) → (List A → Type 0) → List Quant → Type 0
Quantified Member Body [] = Body []
Quantified {A} Member Body (Exists ∷ prefix) = (x : A) × Member x × Quantified Member (λ tuple. Body (x ∷ tuple)) prefix
Quantified {A} Member Body (Forall ∷ prefix) = (x : A) → Member x → Quantified Member (λ tuple. Body (x ∷ tuple)) prefix

abbrev pub turned : Quant → Quant
turned Exists = Forall
turned Forall = Exists

-- the quantifier n times
abbrev pub repeated : Quant → ℕ → List Quant
repeated quant zero = []
repeated quant (suc n) = quant ∷ repeated quant n

-- P holds of each element
abbrev pub Each : {A : Type 0} → (A → Type 0) → List A → Type 0
Each P [] = Unit {0}
Each P (x ∷ xs) = P x × Each P xs

-- tuples of two kinds that match, element by element
abbrev pub AreMatched : {A B : Type 0} → (A → B → Type 0) → List A → List B → Type 0
AreMatched Match [] [] = Unit {0}
AreMatched Match [] (y ∷ ys) = ⊥
AreMatched Match (x ∷ xs) [] = ⊥
AreMatched Match (x ∷ xs) (y ∷ ys) = Match x y × AreMatched Match xs ys

-- Each member of one kind has a match among those of the other, both ways.
pub record MatchBothWays {A B : Type 0} (Member : A → Type 0) (Other : B → Type 0) (Match : A → B → Type 0) : Type 0 where
  pub there : (x : A) → Member x → (y : B) × Other y × Match x y
  pub back : (y : B) → Other y → (x : A) × Member x × Match x y

-- What is said of a tuple of one kind is said of each tuple of the other that matches it, and back.
abbrev pub SayTheSame : {A B : Type 0} → (A → B → Type 0) → (List A → Type 0) → (List B → Type 0) → Type 0
SayTheSame {A} {B} Match Body Told = (xs : List A) (ys : List B) → AreMatched Match xs ys → Body xs ↔ Told ys

-- a tuple of n members
pub record IsTuple {A : Type 0} (Member : A → Type 0) (n : ℕ) (tuple : List A) : Type 0 where
  pub count : length tuple ≡ n
  pub members : Each Member tuple

-- The test of equal lassos decides whether they are the same.
use Rattle.std.proofs.Common.{◌≡◌, ◌↔◌, Bool, true, IsTrue, List, sym, ap, refl, ◌∙◌, subst}
use Rattle.std.proofs.lemmas.Bool.{eqb-true, eq-eqb, and_parts}
use Rattle.std.specs.Cmp.Lexicographic.{pointwise, pointwise_decides}
use Rattle.hy_bits.specs.Binary.{number, ones}
use Rattle.hy_bits.specs.BinaryLaws.{ones-number}
use Rattle.hy_bits.specs.Letter.{Letter}
use Rattle.hy_formula.specs.Lassos.{Lasso}
use Rattle.hy_lasso.specs.Equal.{are_same, is_equal}
use Rattle.hy_lasso.specs.EqualLaws.{equal_laws}

letters_same : (a b : Letter) → are_same a b ≡ true → a ≡ b
letters_same a b e = sym (ones-number a) ∙ ap ones (eqb-true (number a) (number b) e)
    ∙ ones-number b

letters_decide : (a b : Letter) → (are_same a b ≡ true → a ≡ b) × (a ≡ b → are_same a b ≡ true)
letters_decide a b = (
  letters_same a b,
  λ e. let P : Letter → Type 0 = λ c. are_same a c ≡ true in
      subst P e (eq-eqb (number a) (number a) refl),
)

words_same : (xs ys : List Letter) → pointwise are_same xs ys ≡ true → xs ≡ ys
words_same xs ys e = (pointwise_decides letters_decide xs ys).0 e

lassos_same : (l m : Lasso Letter) → IsTrue (is_equal l m) → l ≡ m
lassos_same l m e =
    let both = and_parts (pointwise are_same l.stem m.stem)
    (pointwise are_same l.cycle m.cycle) e in
    let stem = words_same l.stem m.stem both.0 in
    let cycle = words_same l.cycle m.cycle both.1 in
    λ i. record { stem = stem i; cycle = cycle i }

-- what is computed is whether they are the same
pub finds_equal : (l m : Lasso Letter) (found : Bool) → found ≡ is_equal l m
    → IsTrue found ↔ (l ≡ m)
finds_equal l m found computed = (
  λ t. lassos_same l m (sym computed ∙ t),
  λ e. let P : Lasso Letter → Type 0 = λ n. IsTrue (is_equal l n) in computed
      ∙ subst P e (equal_laws.refl l),
)

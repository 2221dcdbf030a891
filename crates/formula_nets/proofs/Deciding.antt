-- What paths of the safe net, and witnesses, say of a formula whose quantifiers are of one kind.
use Rattle.std.proofs.Common.{◌≡◌, ℕ, zero, suc, ◌<◌, Bool, true, false, not, cond, List, length, IsTrue, inl, inr, refl, sym, ap, ◌∙◌, subst}
use Rattle.hy_bits.specs.Letter.{Letter}
use Rattle.hy_formula.specs.Lassos as letters
use Rattle.hy_formula.specs.Classes.{behind, class_of, has_only}
use Rattle.hy_formula.specs.Normals.{Signed}
use Rattle.hy_formula.specs.Quantifiers.{repeated}
use Rattle.hy_formula.specs.Trees.{Tree, vars_below}
use Rattle.hy_formula.specs.declared.classes.Class.{Class}
use Rattle.hy_formula.specs.declared.classes.Class.TheVariants as class
use Rattle.hy_formula.specs.declared.prefix.Quant.{Quant}
use Rattle.hy_formula.specs.declared.prefix.Quant.TheVariants as quant
use Rattle.hy_formula.proofs.Shapes.{exists-shape, forall-shape}
use Rattle.hy_lasso.specs.Words as words
use Rattle.aig_net.specs.declared.run.Run.{Run}
use Rattle.aig_net.specs.declared.signals.Signal.{Signal}
use Rattle.aig_net.specs.Executions.{Word}
use Rattle.aig_net.specs.Nets.{IsNet, Net}
use Rattle.live_safe.specs.Paths.{IsBadPath}
use Rattle.wit_lasso.specs.FormulaNets.{AreOwn, formula_safe}
use Rattle.wit_lasso.specs.Satisfaction.{Satisfies}
use Rattle.wit_lasso.proofs.Checking.{existential-right, universal-right}
use Rattle.wit_lasso.proofs.Witnessing.{refute-all, show-some}
use Rattle.formula_nets.specs.Posed.{IsTaken, checked_safe, is_existential}
use Rattle.formula_nets.specs.Witnesses.{AreWitnesses}

-- ---- the two kinds of prefixes

length-repeated : (q : Quant) (n : ℕ) → length (repeated q n) ≡ n
length-repeated q zero = refl
length-repeated q (suc n) = ap suc (length-repeated q n)

repeated-long : (q : Quant) (prefix : List Quant) (n : ℕ) → prefix ≡ repeated q n →
    prefix ≡ repeated q (length prefix)
repeated-long q prefix n e =
    e ∙ ap (repeated q) (sym (ap (λ (l : List Quant). length l) e ∙ length-repeated q n))

data Kind (prefix : List Quant) : Type 0 where
  all_exist : is_existential prefix ≡ true → prefix ≡ repeated quant.Exists (length prefix) →
      Kind prefix
  all_forall : is_existential prefix ≡ false → prefix ≡ repeated quant.Forall (length prefix) →
      Kind prefix

kind-of : (prefix : List Quant) → IsTaken prefix → Kind prefix
kind-of prefix taken = at (is_existential prefix) refl
  where
    class-exists : is_existential prefix ≡ true → class_of prefix ≡ class.Exists
    class-exists e =
        let C : Bool → Class = λ b. cond b class.Exists
        (cond (has_only quant.Forall prefix) class.Forall
        (cond (has_only quant.Forall (behind quant.Exists prefix)) class.ExistsForall
        class.Other)) in
        ap C e

    class-other : is_existential prefix ≡ false → class_of prefix ≡ class.Exists → ⊥
    class-other e is =
        let C : Bool → Class = λ b. cond b class.Exists
        (cond (has_only quant.Forall prefix) class.Forall
        (cond (has_only quant.Forall (behind quant.Exists prefix)) class.ExistsForall
        class.Other)) in
        none (has_only quant.Forall prefix) (has_only quant.Forall (behind quant.Exists prefix))
        (sym (ap C e) ∙ is)
      where
        none : (a b : Bool) → cond a class.Forall (cond b class.ExistsForall class.Other) ≡ class.Exists
            → ⊥
        none true b h = absurd (cc)
        none false true h = absurd (cc)
        none false false h = absurd (cc)

    at : (b : Bool) → is_existential prefix ≡ b → Kind prefix
    at true e = let (n, is) = exists-shape prefix (class-exists e) in
        all_exist e (repeated-long quant.Exists prefix n is)
    at false e = elim taken [
      | inl is ↦ absurd (class-other e is)
      | inr is ↦ let (n, is) = forall-shape prefix is in
          all_forall e (repeated-long quant.Forall prefix n is)
    ]

-- ---- a path, or none

module _ (net : Net) (signals : List Signal) (prefix : List Quant) (body : Tree) (good : IsNet net)
    (are : AreOwn net signals) (some : 0 < length prefix)
    (small : IsTrue (vars_below (length prefix) body)) (taken : IsTaken prefix) where
  abbrev n : ℕ
  n = length prefix

  abbrev Sat : List Quant → Type 0
  Sat p = Satisfies net signals p body

  pub none-bad : ((k : ℕ) (word : Word) → ¬ IsBadPath (checked_safe net signals prefix body) k word) →
      Signed (not (is_existential prefix)) (Sat prefix)
  none-bad none = elim (kind-of prefix taken) [
    | all_exist e is ↦
        let P : Bool → Type 0 = λ b. (k : ℕ) (word : Word) →
        ¬ IsBadPath (formula_safe net signals n body b) k word in
        let Q : List Quant → Type 0 = λ p. ¬ Sat p in
        let R : Bool → Type 0 = λ b. Signed (not b) (Sat prefix) in
        subst R (sym e) (subst Q (sym is) (λ holds.
        let (k, word, bad) = (existential-right net signals n body good are some small).0
        holds in
        subst P e none k word bad))
    | all_forall e is ↦
        let P : Bool → Type 0 = λ b. (k : ℕ) (word : Word) →
        ¬ IsBadPath (formula_safe net signals n body b) k word in
        let R : Bool → Type 0 = λ b. Signed (not b) (Sat prefix) in
        subst R (sym e) (subst Sat (sym is)
        ((universal-right net signals n body good are some small).1 (subst P e none)))
  ]

  pub some-bad : (k : ℕ) (word : Word) → IsBadPath (checked_safe net signals prefix body) k word →
      Signed (is_existential prefix) (Sat prefix)
  some-bad k word bad = elim (kind-of prefix taken) [
    | all_exist e is ↦
        let P : Bool → Type 0 = λ b. IsBadPath (formula_safe net signals n body b) k word in
        let R : Bool → Type 0 = λ b. Signed b (Sat prefix) in
        subst R (sym e) (subst Sat (sym is)
        ((existential-right net signals n body good are some small).1 (k, word, subst P e bad)))
    | all_forall e is ↦
        let P : Bool → Type 0 = λ b. IsBadPath (formula_safe net signals n body b) k word in
        let Q : List Quant → Type 0 = λ p. ¬ Sat p in
        let R : Bool → Type 0 = λ b. Signed b (Sat prefix) in
        subst R (sym e) (subst Q (sym is) (λ holds.
        (universal-right net signals n body good are some small).0 holds k word
        (subst P e bad)))
  ]

-- ---- witnesses

module _ (net : Net) (signals : List Signal) (prefix : List Quant) (body : Tree)
    (traces : List (letters.Lasso Letter)) (runs : List Run) (some : 0 < length prefix)
    (small : IsTrue (vars_below (length prefix) body)) (taken : IsTaken prefix)
    (are : AreWitnesses net signals (length prefix) body (is_existential prefix) traces runs) where
  pub witnesses-right : Signed (is_existential prefix) (Satisfies net signals prefix body)
  witnesses-right = elim (kind-of prefix taken) [
    | all_exist e is ↦
        let M : Bool → Type 0 = λ b. Signed b (words.Meets body traces) in
        let P : List Quant → Type 0 = λ p. Satisfies net signals p body in
        let R : Bool → Type 0 = λ b. Signed b (P prefix) in
        subst R (sym e) (subst P (sym is)
        (show-some net signals (length prefix) body some small runs traces are.each
        (subst M e are.says)))
    | all_forall e is ↦
        let M : Bool → Type 0 = λ b. Signed b (words.Meets body traces) in
        let P : List Quant → Type 0 = λ p. ¬ Satisfies net signals p body in
        let R : Bool → Type 0 = λ b. Signed b (Satisfies net signals prefix body) in
        subst R (sym e) (subst P (sym is)
        (refute-all net signals (length prefix) body some small runs traces are.each
        (subst M e are.says)))
  ]

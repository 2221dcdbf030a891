-- A body under a map says of a tuple what it says of the lassos that the map picks.
use Rattle.std.proofs.Common.{◌≡◌, ℕ, zero, suc, ◌<◌, ◌↔◌, Bool, List, [], ◌∷◌, ◌++◌, length, get_or, map, inl, inr, refl, sym, ap, ◌∙◌, subst, arith, IsTrue, length-append, ◌+◌, ap₂}
use Rattle.std.specs.FinSet.{contains}
use Rattle.std.proofs.Math.Path.{fun_ext}
use Rattle.std.proofs.lemmas.Bool.{cases_lt}
use Rattle.std.proofs.lemmas.List.{get_or_past, get_or_append_left, get_or_default}
use Rattle.std.proofs.Math.Seq.{get_or-append_seam}
use Rattle.hy_bits.specs.Letter.{Letter}
use Rattle.hy_formula.specs.Trees.{Tree, and, vars_below}
use Rattle.hy_formula.specs.Temporal.{endless, Words, SatisfiesAt}
use Rattle.hy_formula.specs.Normals.{Signed}
use Rattle.hy_formula.specs.Renamed.{with_variables}
use Rattle.hy_formula.specs.Lassos.{Lasso}
use Rattle.hy_formula.proofs.Renaming.{renamed-same, renamed-alike}
use Rattle.hy_lasso.specs.Words.{no_lasso, letter_at, lasso_words, picked, Meets}
use Rattle.ltl_closure.specs.Jobs.{variable_in}
use Rattle.hy_lasso.specs.NormalForms.{IsNormal}
use Rattle.ea_reduce.specs.declared.joint.Joint.{Joint}
use Rattle.ea_reduce.specs.Joints.{AreShortened, lasso_of, lassos_from}
use Rattle.ea_reduce.proofs.Jobs.{HoldsUnder}

-- what stands at a place of a mapped list, and past its end
pub mapped-at : {A B : Type 0} (f : A → B) (xs : List A) (k : ℕ) (d : A) (e : B) → f d ≡ e → get_or (map f xs) k e ≡ f (get_or xs k d)
mapped-at f [] k d e same = sym same
mapped-at f (x ∷ xs) zero d e same = refl
mapped-at f (x ∷ xs) (suc k) d e same = mapped-at f xs k d e same

module _ (tuple : List (Lasso Letter)) (m : List ℕ) where
  -- the place in the tuple of a variable, past its end where the map is
  abbrev spread : ℕ → ℕ
  spread v = get_or m v (length tuple)

  picked-words : with_variables spread (lasso_words tuple) ≡ lasso_words (picked tuple m)
  picked-words = fun_ext (λ name. fun_ext (λ v. fun_ext (λ i.
      ap (λ l. contains (letter_at l i) name) (sym (mapped-at (λ k. get_or tuple k no_lasso) m v (length tuple) no_lasso (get_or_past tuple (length tuple) no_lasso (omega arith)))))))

  under-map : (f : Tree) → IsTrue (vars_below (length m) f)
      → SatisfiesAt endless (with_variables (variable_in m) (lasso_words tuple)) f ≡ SatisfiesAt endless (lasso_words (picked tuple m)) f
  under-map f b =
      sym (renamed-same endless (lasso_words tuple) (variable_in m) f)
      ∙ ap (SatisfiesAt endless (lasso_words tuple)) (renamed-alike (length m) (variable_in m) spread (λ v lt. get_or_default m v 0 (length tuple) lt) f b)
      ∙ renamed-same endless (lasso_words tuple) spread f
      ∙ ap (λ (w : Words). SatisfiesAt endless w f) picked-words

  pub under-picked : (f : Tree) (positive : Bool) → IsTrue (vars_below (length m) f)
      → HoldsUnder endless (lasso_words tuple) f positive m ↔ Signed positive (Meets f (picked tuple m))
  under-picked f positive b =
      let P = λ (F : ℕ → Type 0). Signed positive (F 0) in
      (λ h. subst P (under-map f b) h, λ h. subst P (sym (under-map f b)) h)

-- Shortened lassos have the same words.
pub shortened-words : (tuple list : List (Lasso Letter)) → AreShortened tuple list → lasso_words tuple ≡ lasso_words list
shortened-words tuple list s = fun_ext (λ name. fun_ext (λ v. fun_ext (λ i. ap (λ x. contains x name) (same v i))))
  where
    same : (v i : ℕ) → letter_at (get_or tuple v no_lasso) i ≡ letter_at (get_or list v no_lasso) i
    same v i = elim (cases_lt v (length list)) [
      | inl lt ↦ sym (s.words v i lt)
      | inr past ↦ ap (λ l. letter_at l i) (get_or_past tuple v no_lasso (omega (arith, s.count)) ∙ sym (get_or_past list v no_lasso past))
    ]

-- One more lasso is shortened.
pub shortened-more : (tuple list : List (Lasso Letter)) (l m : Lasso Letter) → AreShortened tuple list
    → 0 < length m.cycle → ((i : ℕ) → letter_at m i ≡ letter_at l i) → IsNormal m
    → AreShortened (tuple ++ l ∷ []) (list ++ m ∷ [])
shortened-more tuple list l m s some word normal =
    record {
      count = omega (arith, s.count, length-append tuple (l ∷ []), length-append list (m ∷ []));
      some = λ v lt. by v lt (λ x _. 0 < length x.cycle) (λ old. s.some v old) some;
      words = λ v i lt. by v lt (λ x y. letter_at x i ≡ letter_at y i) (λ old. s.words v i old) (word i);
      normal = λ v lt. by v lt (λ x _. IsNormal x) (λ old. s.normal v old) normal;
    }
  where
    by : (v : ℕ) → v < length (list ++ m ∷ []) → (P : Lasso Letter → Lasso Letter → Type 0)
        → (v < length list → P (get_or list v no_lasso) (get_or tuple v no_lasso)) → P m l
        → P (get_or (list ++ m ∷ []) v no_lasso) (get_or (tuple ++ l ∷ []) v no_lasso)
    by v lt P old last = elim (cases_lt v (length list)) [
      | inl inside ↦
          let here = get_or_append_left list (m ∷ []) no_lasso v inside in
          let there = get_or_append_left tuple (l ∷ []) no_lasso v (omega (arith, s.count)) in
          subst (λ x. P x (get_or (tuple ++ l ∷ []) v no_lasso)) (sym here) (subst (λ y. P (get_or list v no_lasso) y) (sym there) (old inside))
      | inr past ↦
          let e : v ≡ length list = omega (arith, length-append list (m ∷ [])) in
          let here : get_or (list ++ m ∷ []) v no_lasso ≡ m = ap (λ k. get_or (list ++ m ∷ []) k no_lasso) e ∙ get_or-append_seam list m [] no_lasso in
          let there : get_or (tuple ++ l ∷ []) v no_lasso ≡ l =
          ap (λ k. get_or (tuple ++ l ∷ []) k no_lasso) (e ∙ s.count) ∙ get_or-append_seam tuple l [] no_lasso in
          subst (λ x. P x (get_or (tuple ++ l ∷ []) v no_lasso)) (sym here) (subst (λ y. P m y) (sym there) last)
    ]

-- the lassos of n variables, and of one more
pub lassos-more : (joint : Joint) (v n : ℕ) → lassos_from joint v (n + 1) ≡ lassos_from joint v n ++ lasso_of joint (v + n) ∷ []
lassos-more joint v n = let one : n + 1 ≡ suc n = omega arith in ap (lassos_from joint v) one ∙ more v n
  where
    more : (a k : ℕ) → lassos_from joint a (suc k) ≡ lassos_from joint a k ++ lasso_of joint (a + k) ∷ []
    more a zero = ap (λ j. lasso_of joint j ∷ []) (omega arith)
    more a (suc k) =
        ap (λ ls. lasso_of joint a ∷ ls) (more (suc a) k) ∙ ap (λ j. lasso_of joint a ∷ (lassos_from joint (suc a) k ++ lasso_of joint j ∷ [])) (omega arith)

-- a lasso by its parts
pub lasso-parts : (l : Lasso Letter) (stem cycle : List Letter) → l.stem ≡ stem → l.cycle ≡ cycle → l ≡ record { stem = stem; cycle = cycle }
lasso-parts l stem cycle p q = ap₂ (λ (s c : List Letter). record { stem = s; cycle = c }) p q

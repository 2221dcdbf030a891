-- A trace that passes alone, and a child that stands alone.
use Rattle.std.proofs.Common.{◌≡◌, ℕ, zero, suc, ◌+◌, ◌-◌, ◌<◌, ◌≤◌, true, false, cond, List, [], ◌∷◌, ◌++◌, length, length-drop, drop, slice_get, Some, refl, sym, ap, ◌∙◌, subst, arith}
use Rattle.std.specs.List.{Contains}
use Rattle.hy_base.proofs.Members.{contains-here}
use Rattle.hy_base.proofs.Places.{drop-at}
use Rattle.hy_bits.specs.Letter.{Letter}
use Rattle.trace_trie.specs.Numbered.{Numbered, same_letter, in_order}
use Rattle.trace_trie.specs.Kids.{Kid, AreKids, behind, spread}
use Rattle.trace_trie.specs.Forests.{passing, ends_alone, kids_alone, kids_of, IsForked, IsForest}
use Rattle.trace_trie.specs.declared.forest.Branch.{Branch}
use Rattle.trace_trie.specs.declared.forest.Branch.TheVariants.{Tail}
use Rattle.trace_trie.proofs.Forked.{AtChild}
use Rattle.trace_trie.proofs.Kids.{behind-one}

-- ---- a trace

module _ (n : ℕ) where
  pub alone-passing : (t : List Letter) → passing (ends_alone n t) (kids_alone n t) ≡ (n, t) ∷ []
  alone-passing [] = refl
  alone-passing (a ∷ t) = refl

  pub alone-rests : (t : List Letter)
      → in_order (passing (ends_alone n t) (kids_alone n t)) ≡ (n, t) ∷ []
  alone-rests t = ap in_order (alone-passing t)

  pub alone-kids : (t : List Letter) → AreKids (kids_alone n t)
  alone-kids [] = tt
  alone-kids (a ∷ t) = (omega arith, tt, tt)

  -- where something is left of it
  pub alone-one : (t : List Letter) → 0 < length t → length (kids_alone n t) ≡ 1
  alone-one [] lt = absurd (omega arith)
  alone-one (a ∷ t) lt = refl

  pub alone-goes : (t : List Letter) → 0 < length t → passing [] (kids_alone n t) ≡ (n, t) ∷ []
  alone-goes [] lt = absurd (omega arith)
  alone-goes (a ∷ t) lt = refl

  pub alone-any : (t : List Letter) → 0 < length t
      → (u : List Letter) × Contains (spread (kids_alone n t)) (n, u)
  alone-any [] lt = absurd (omega arith)
  alone-any (a ∷ t) lt = (a ∷ t, contains-here (n, a ∷ t) [])

-- ---- a tail

pub record AtTail (list : List Kid) (n : ℕ) (t : List Letter) (at : ℕ) : Type 0 where
  pub is : list ≡ kids_alone n (drop at t)
  pub within : at < length t
  pub some : 0 < length (drop at t)

pub at_tail : {tree : Branch} {list : List Kid} {n at : ℕ} {t : _} → kids_of tree ≡ list
    → IsForest tree → tree ≡ Tail n t at → AtTail list n t.value at
at_tail {tree} {list} {n} {at} {t} view_is h is =
    let lt : at < length t.value = subst IsForked is h.forked in
    record {
      is = sym view_is ∙ ap kids_of is;
      within = lt;
      some = omega (arith, length-drop at t.value);
    }

pub tail-alone : (list : List Kid) (n : ℕ) (t : List Letter) (at : ℕ) (a : Letter)
    → list ≡ kids_alone n (drop at t) → slice_get t at ≡ Some a
    → AtChild list a ((n, drop (at + 1) t) ∷ [])
tail-alone list n t at a is e = record {
  is = is ∙ ap (kids_alone n) (drop-at t at a e);
  some = omega arith;
}

pub tail_child : {list : List Kid} {n : ℕ} {t : List Letter} {at : ℕ} {a : Letter}
    → AtTail list n t at → slice_get t at ≡ Some a → AtChild list a ((n, drop (at + 1) t) ∷ [])
tail_child {list} {n} {t} {at} {a} tail e = tail-alone list n t at a tail.is e

-- ---- a child

module _ {list : List Kid} {a : Letter} {held : List Numbered} (at : AtChild list a held) where
  pub child-itself : list ≡ (a, behind a list) ∷ []
  child-itself =
      at.is ∙ ap (λ l. (a, l) ∷ []) (sym (ap (behind a) at.is ∙ behind-one a held []))

  pub child-here : (b : Letter) → same_letter b a ≡ true → behind b list ≡ held
  child-here b e = ap (behind b) at.is ∙ ap (λ c. cond c held []) e

  pub child-other : (b : Letter) → same_letter b a ≡ false → behind b list ≡ []
  child-other b e = ap (behind b) at.is ∙ ap (λ c. cond c held []) e

  pub child-get : (i : ℕ) → i < length list → slice_get list i ≡ Some (a, held)
  child-get i lt = ap (λ l. slice_get l i) at.is ∙ first i (omega (arith, ap length at.is))
    where
      first : (i : ℕ) → i < 1 → slice_get {X = Kid} ((a, held) ∷ []) i ≡ Some (a, held)
      first zero lt = refl
      first (suc i) lt = absurd (omega arith)

-- the only child, where its letter is known
pub only-child : {list : List Kid} {a : Letter} → list ≡ (a, behind a list) ∷ [] → AreKids list
    → AtChild list a (behind a list)
only-child {list} {a} is h = record { is = is; some = (subst AreKids is h).0 }

-- ---- an element of two lists

pub slice_get-left : {X : Type 0} (xs ys : List X) (i : ℕ) → i < length xs
    → slice_get (xs ++ ys) i ≡ slice_get xs i
slice_get-left [] ys i lt = absurd (omega arith)
slice_get-left (x ∷ xs) ys zero lt = refl
slice_get-left (x ∷ xs) ys (suc i) lt = slice_get-left xs ys i (omega arith)

pub slice_get-right : {X : Type 0} (xs ys : List X) (i : ℕ) → length xs ≤ i
    → slice_get (xs ++ ys) i ≡ slice_get ys (i - length xs)
slice_get-right [] ys i le = let e : i ≡ i - 0 = omega arith in ap (slice_get ys) e
slice_get-right (x ∷ xs) ys zero le = absurd (omega arith)
slice_get-right (x ∷ xs) ys (suc i) le =
    let e : i - length xs ≡ suc i - suc (length xs) = omega arith in
    slice_get-right xs ys i (omega arith) ∙ ap (slice_get ys) e

-- What a body says at each position, by what its parts say.
use Rattle.std.proofs.Common.{◌≡◌, ℕ, ◌+◌, ◌-◌, ◌<◌, ◌⊎◌, ◌↔◌, Bool, true, false, not, ◌&&◌, ◌||◌, List, [], ◌∷◌, ◌++◌, length, get_or, replicate, EachIndex, refl, sym, ap, ◌∙◌, inl, inr, subst, arith}
use Rattle.std.specs.Bool.{beq, Decides}
use Rattle.std.proofs.lemmas.Bool.Decides.{Decides-at, Decides-and, Decides-or}
use Rattle.std.specs.FinSet.{contains}
use Rattle.std.proofs.lemmas.Bool.{cases_eq}
use Rattle.std.proofs.lemmas.Grind.{common_steps}
use Rattle.std.proofs.lemmas.List.{get_or-replicate, length-replicate, length-append, get_or_append_left}
use Rattle.hy_base.proofs.Truths.{decides-implies, decides-iff, decides-itself}
use Rattle.hy_bits.specs.Letter.{Letter}
use Rattle.hy_formula.specs.Lassos.{Lasso}
use Rattle.hy_formula.proofs.Repeating.{steady-tree}
use Rattle.hy_lasso.specs.Words.{no_lasso, letter_at, lasso_words}
use Rattle.hy_formula.specs.Trees.{Tree, always, never, atom, not as no, next, finally, globally, and, or, implies, iff, until, release, weak}
use Rattle.hy_formula.specs.Temporal.{endless, Words, Repeats, IsUntil, IsRelease, SatisfiesAt}
use Rattle.hy_lasso.specs.Rows.{value_at, place, around, Says, Tells, IsRowOf}
use Rattle.hy_lasso.proofs.Places.{place-within, tells-everywhere}
use Rattle.hy_lasso.proofs.Rows.{tells-long, until-like, release-like, tells-like, tells-not}

-- a row made place by place of two others
tells-by : (s m : ℕ) (left right row : List Bool) (P Q R : ℕ → Type 0) (f : Bool → Bool → Bool) → Tells s m left P → Tells s m right Q → length row ≡ length left → EachIndex left (λ i. value_at row i ≡ f (value_at left i) (value_at right i)) → ((i : ℕ) (p q : Bool) → Decides p (P i) → Decides q (Q i) → Decides (f p q) (R i)) → Tells s m row R
tells-by s m left right row P Q R f l r long values d =
    record { some = l.some; long = long ∙ l.long; right = λ i. Decides-at _ _ (same i) (d i _ _ (l.right i) (r.right i)) }
  where
    same : (i : ℕ) → around s row i ≡ f (around s left i) (around s right i)
    same i =
        let e : length left ≡ length right = l.long ∙ sym r.long in
        let some : s < length left = let lt = l.some in omega (arith, lt, l.long) in
        ap (λ n. value_at row (place s (n - s) i)) long
        ∙ values (place s (length left - s) i) (let lt = place-within s (length left - s) i (omega arith) in omega (arith, lt))
        ∙ ap (λ n. f (value_at left (place s (length left - s) i)) (value_at right (place s (n - s) i))) e

tells-constant : (s m : ℕ) (b : Bool) (P : ℕ → Type 0) → s < m → ((i : ℕ) → Decides b (P i)) → Tells s m (replicate m b) P
tells-constant s m b P some d = record { some = some; long = length-replicate m b; right = λ i. Decides-at _ _ (same i) (d i) }
  where
    same : (i : ℕ) → around s (replicate m b) i ≡ b
    same i =
        ap (λ n. value_at (replicate m b) (place s (n - s) i)) (length-replicate m b)
        ∙ get_or-replicate m (place s (m - s) i) b false (let lt = place-within s (m - s) i (omega arith) in omega (arith, lt))

-- ---- the row of a tree, by those of its parts

module _ (words : Words) (s m : ℕ) where
  pub row-always : s < m → IsRowOf always words s m (replicate m true)
  row-always some = record { told = tells-constant s m true _ some (λ i. (λ _. tt, λ _. refl)) }

  pub row-never : s < m → IsRowOf never words s m (replicate m false)
  row-never some = record { told = tells-constant s m false _ some (λ i. (λ e. absurd (cc), λ h. absurd h)) }

  pub row-not : (f : Tree) (old new : List Bool) → IsRowOf f words s m old → length new ≡ length old → EachIndex old (λ i. value_at new i ≡ not (value_at old i)) → IsRowOf (no f) words s m new
  row-not f old new r long values = record { told = tells-not s m old new _ r.told long values }

  pub row-and : (f g : Tree) (left right new : List Bool) → IsRowOf f words s m left → IsRowOf g words s m right → length new ≡ length left → EachIndex left (λ i. value_at new i ≡ (value_at left i && value_at right i)) → IsRowOf (and f g) words s m new
  row-and f g left right new l r long values =
      record { told = tells-by s m left right new _ _ _ (λ p q. p && q) l.told r.told long values (λ i p q. Decides-and p q) }

  pub row-or : (f g : Tree) (left right new : List Bool) → IsRowOf f words s m left → IsRowOf g words s m right → length new ≡ length left → EachIndex left (λ i. value_at new i ≡ (value_at left i || value_at right i)) → IsRowOf (or f g) words s m new
  row-or f g left right new l r long values =
      record { told = tells-by s m left right new _ _ _ (λ p q. p || q) l.told r.told long values (λ i p q. Decides-or p q) }

  pub row-implies : (f g : Tree) (left failing right new : List Bool) → IsRowOf f words s m left → IsRowOf g words s m right → length failing ≡ length left → EachIndex left (λ i. value_at failing i ≡ not (value_at left i)) → length new ≡ length failing → EachIndex failing (λ i. value_at new i ≡ (value_at failing i || value_at right i)) → IsRowOf (implies f g) words s m new
  row-implies f g left failing right new l r short negated long values =
      record {
        told = tells-by s m left right new _ _ _ (λ p q. not p || q) l.told r.told (long ∙ short)
            (λ i lt. values i (omega (arith, short, lt)) ∙ ap (λ b. b || value_at right i) (negated i lt))
            (λ i p q. decides-implies p q);
      }

  pub row-iff : (f g : Tree) (left right new : List Bool) → IsRowOf f words s m left → IsRowOf g words s m right → length new ≡ length left → EachIndex left (λ i. value_at new i ≡ beq (value_at left i) (value_at right i)) → IsRowOf (iff f g) words s m new
  row-iff f g left right new l r long values =
      record { told = tells-by s m left right new _ _ _ beq l.told r.told long values (λ i p q. decides-iff p q) }

  -- what a row says holds where its tree does
  says : (f : Tree) (row : List Bool) → IsRowOf f words s m row → (k : ℕ) → Says s row k ↔ SatisfiesAt endless words f k
  says f row r k = r.told.right k

  pub row-next : (f : Tree) (old new : List Bool) → IsRowOf f words s m old → Tells s (length old) new (λ i. Says s old (i + 1)) → IsRowOf (next f) words s m new
  row-next f old new r t =
      record { told = tells-like s m new _ _ (tells-long s _ m new _ r.told.long t) (λ i. let e = says f old r (i + 1) in (λ h. (tt, e.0 h), λ h. e.1 h.1)) }

  pub row-until : (f g : Tree) (left right new : List Bool) → IsRowOf f words s m left → IsRowOf g words s m right → Tells s (length right) new (IsUntil endless (Says s left) (Says s right)) → IsRowOf (until f g) words s m new
  row-until f g left right new l r t =
      record {
        told = tells-like s m new _ _ (tells-long s _ m new _ r.told.long t)
            (λ i. (until-like _ _ _ _ (λ k. (says f left l k).0) (λ k. (says g right r k).0) i, until-like _ _ _ _ (λ k. (says f left l k).1) (λ k. (says g right r k).1) i));
      }

  pub row-finally : (f : Tree) (old new : List Bool) → IsRowOf f words s m old → Tells s (length old) new (IsUntil endless (λ k. Unit {0}) (Says s old)) → IsRowOf (finally f) words s m new
  row-finally f old new r t =
      record {
        told = tells-like s m new _ _ (tells-long s _ m new _ r.told.long t)
            (λ i. (until-like _ _ _ _ (λ k h. h) (λ k. (says f old r k).0) i, until-like _ _ _ _ (λ k h. h) (λ k. (says f old r k).1) i));
      }

  pub row-release : (f g : Tree) (left right new : List Bool) → IsRowOf f words s m left → IsRowOf g words s m right → Tells s (length right) new (IsRelease endless (Says s left) (Says s right)) → IsRowOf (release f g) words s m new
  row-release f g left right new l r t =
      record { told = tells-like s m new _ _ (tells-long s _ m new _ r.told.long t) (release-like _ _ _ _ (says f left l) (says g right r)) }

  pub row-globally : (f : Tree) (old new : List Bool) → IsRowOf f words s m old → Tells s (length old) new (IsRelease endless (λ k. ⊥) (Says s old)) → IsRowOf (globally f) words s m new
  row-globally f old new r t =
      record { told = tells-like s m new _ _ (tells-long s _ m new _ r.told.long t) (release-like _ _ _ _ (λ k. (λ h. h, λ h. h)) (says f old r)) }

  pub row-weak : (f g : Tree) (left right new : List Bool) → IsRowOf f words s m left → IsRowOf g words s m right → Tells s (length right) new (IsRelease endless (Says s right) (λ k. Says s left k ⊎ Says s right k)) → IsRowOf (weak f g) words s m new
  row-weak f g left right new l r t =
      record { told = tells-like s m new _ _ (tells-long s _ m new _ r.told.long t) (release-like _ _ _ _ (says g right r) either) }
    where
      either : (k : ℕ) → (Says s left k ⊎ Says s right k) ↔ (SatisfiesAt endless words f k ⊎ SatisfiesAt endless words g k)
      either k = (
        λ h. elim h [ inl e ↦ inl ((says f left l k).0 e) | inr e ↦ inr ((says g right r k).0 e) ],
        λ h. elim h [ inl e ↦ inl ((says f left l k).1 e) | inr e ↦ inr ((says g right r k).1 e) ],
      )

pub ruleset rows = (row-always, row-never, row-not, row-next, row-and, row-or, row-implies, row-iff, row-until, row-release, row-finally, row-globally, row-weak)

-- ---- the row of an atom

-- The row says of the first n positions whether the name is in the letter there.
pub record IsAtomFront (l : Lasso Letter) (name n : ℕ) (row : List Bool) : Type 0 where
  pub long : length row ≡ n
  pub values : (i : ℕ) → i < n → value_at row i ≡ contains (letter_at l i) name

last : (row : List Bool) (b : Bool) (n : ℕ) → length row ≡ n → value_at (row ++ b ∷ []) n ≡ b
last row b n e = grind (arith, common_steps)

pub front-push : (l : Lasso Letter) (name n : ℕ) (row : List Bool) (b : Bool) → IsAtomFront l name n row → b ≡ contains (letter_at l n) name → IsAtomFront l name (n + 1) (row ++ b ∷ [])
front-push l name n row b t e = record { long = length-append row (b ∷ []) ∙ ap (λ k. k + 1) t.long; values = values }
  where
    values : (i : ℕ) → i < n + 1 → value_at (row ++ b ∷ []) i ≡ contains (letter_at l i) name
    values i lt =
        elim (cases_eq i n) [
          | inl same ↦
              let P : ℕ → Type 0 = λ j. value_at (row ++ b ∷ []) j ≡ contains (letter_at l j) name in
              subst P (sym same) (last row b n t.long ∙ e)
          | inr apart ↦ get_or_append_left row (b ∷ []) false i (omega (arith, t.long)) ∙ t.values i (omega arith)
        ]

pub row-atom : (tuple : List (Lasso Letter)) (s m name v : ℕ) (l : Lasso Letter) (row : List Bool) → s < m → Repeats (lasso_words tuple) s (m - s) → get_or tuple v no_lasso ≡ l → IsAtomFront l name m row → IsRowOf (atom name v) (lasso_words tuple) s m row
row-atom tuple s m name v l row some r is t =
    record {
      told = tells-everywhere s m row _ some t.long (steady-tree s (m - s) (lasso_words tuple) r (atom name v))
          (λ i lt. Decides-at _ _ (t.values i lt ∙ ap (λ x. contains (letter_at x i) name) (sym is)) (decides-itself _));
    }

-- What the row of a body says, by the rows of its parts.
use Rattle.std.proofs.Common.{◌≡◌, ℕ, zero, suc, ◌+◌, ◌-◌, ◌*◌, ◌/◌, ◌%◌, ◌<◌, ◌≤◌, ◌⊎◌, Bool, true, false, not, ◌||◌, List, length, get_or, nat_eq, refl, sym, ap, ◌∙◌, subst, arith}
use Rattle.std.specs.Bool.{Decides}
use Rattle.std.proofs.lemmas.Bool.Decides.{Decides-at, Decides-not, Decides-and, Decides-or}
use Rattle.std.proofs.lemmas.Nat.Bits.{bit_at_ones, bit_at-zero}
use Rattle.hy_base.proofs.Truths.{decides-implies, decides-iff}
use Rattle.hy_bits.specs.Binary.{has_one}
use Rattle.hy_formula.specs.Trees.{Tree, always, never, not as no, next, finally, globally, and, or, implies, iff, until, release, weak}
use Rattle.hy_formula.specs.Temporal.{Words, below, SatisfiesAt, IsUntil, IsRelease}
use Rattle.hy_finite.specs.declared.rule.Rule.{Rule}
use Rattle.hy_finite.specs.declared.rule.Rule.TheVariants.{Not, Next, Finally, Globally, And, Or, Implies, Iff, Until, Release, Weak}
use Rattle.hy_finite.specs.Rules.{says, carry_at, start}
use Rattle.hy_finite.specs.Rows.{one_at, IsApplied, IsFilled, IsRepeated}
use Rattle.hy_finite.proofs.Carrying.{carry-like, release-turned}
use Rattle.hy_finite.proofs.Truth.{until-step}

-- ---- values at places, the last position first

-- The values say at each position whether P holds there.
abbrev pub AreOf : ℕ → (ℕ → Bool) → (ℕ → Type 0) → Type 0
AreOf m F P = (i r : ℕ) → i + suc r ≡ m → Decides (F r) (P i)

-- What is carried by until says whether it holds at the position behind.
until-carried : (m : ℕ) (F G : ℕ → Bool) (P Q : ℕ → Type 0) → AreOf m F P → AreOf m G Q
    → (r i : ℕ) → i + r ≡ m → Decides (carry_at Until F G false r) (IsUntil (below m) P Q i)
until-carried m F G P Q p q zero i e =
    (λ e. absurd (cc), λ (j, from, within, here, all). absurd (omega arith))
until-carried m F G P Q p q (suc r) i e =
    until-step m i P Q (F r) (G r) (carry_at Until F G false r) (omega arith) (p i r e) (q i r e)
    (until-carried m F G P Q p q r (suc i) (omega arith))

not-false : (b : Bool) → Decides b ⊥ → b ≡ false
not-false true d = absurd (d.0 refl)
not-false false d = refl

release-carried : (m : ℕ) (F G : ℕ → Bool) (P Q : ℕ → Type 0) → AreOf m F P → AreOf m G Q
    → (r i : ℕ) → i + r ≡ m → Decides (carry_at Release F G true r) (IsRelease (below m) P Q i)
release-carried m F G P Q p q r i e =
    Decides-at _ _ (release-turned F G (λ k. not (F k)) (λ k. not (G k)) true r (λ k lt. refl)
    (λ k lt. refl) r (omega arith))
    (Decides-not _ (until-carried m (λ k. not (F k)) (λ k. not (G k)) (λ k. ¬ P k) (λ k. ¬ Q k)
    (λ j s f. Decides-not _ (p j s f)) (λ j s f. Decides-not _ (q j s f)) r i e))

-- ---- a rule is right for a tree, by what its parts say

module _ (words : Words) (m : ℕ) where
  abbrev pub Right : Rule → Tree → Tree → Tree → Type 0
  Right rule tree f g =
      (F G : ℕ → Bool) → AreOf m F (SatisfiesAt (below m) words f) → AreOf m G (SatisfiesAt
      (below m) words g)
      → AreOf m (λ r. says rule (F r) (G r) (carry_at rule F G (start rule) r)) (SatisfiesAt
      (below m) words tree)

  pub right-not : (f : Tree) → Right Not (no f) f f
  right-not f F G p q i r e = Decides-not _ (p i r e)

  pub right-next : (f : Tree) → Right Next (next f) f f
  right-next f F G p q i zero e = (λ e. absurd (cc), λ (within, h). absurd (omega arith))
  right-next f F G p q i (suc r) e =
      let d = p (i + 1) r (omega arith) in
      (λ is. (omega arith, d.0 is), λ (within, h). d.1 h)

  pub right-finally : (f : Tree) → Right Finally (finally f) f f
  right-finally f F G p q i r e =
      Decides-at _ _ (carry-like (λ b. b) Finally Until F G (λ _. true) F false false (suc r) refl
      (λ k lt b. refl) (suc r) (omega arith))
      (until-carried m (λ _. true) F (λ _. Unit {0}) (SatisfiesAt (below m) words f) (λ j s g.
      (λ _. tt, λ _. refl)) p (suc r) i e)

  pub right-globally : (f : Tree) → Right Globally (globally f) f f
  right-globally f F G p q i r e =
      Decides-at _ _ (carry-like (λ b. b) Globally Release F G (λ _. false) F true true
      (suc r) refl (λ k lt b. refl) (suc r) (omega arith))
      (release-carried m (λ _. false) F (λ _. ⊥) (SatisfiesAt (below m) words f) (λ j s g.
      (λ e. absurd (cc), λ h. absurd h)) p (suc r) i e)

  pub right-and : (f g : Tree) → Right And (and f g) f g
  right-and f g F G p q i r e = Decides-and _ _ (p i r e) (q i r e)

  pub right-or : (f g : Tree) → Right Or (or f g) f g
  right-or f g F G p q i r e = Decides-or _ _ (p i r e) (q i r e)

  pub right-implies : (f g : Tree) → Right Implies (implies f g) f g
  right-implies f g F G p q i r e = decides-implies _ _ (p i r e) (q i r e)

  pub right-iff : (f g : Tree) → Right Iff (iff f g) f g
  right-iff f g F G p q i r e = decides-iff _ _ (p i r e) (q i r e)

  pub right-until : (f g : Tree) → Right Until (until f g) f g
  right-until f g F G p q i r e = until-carried m F G _ _ p q (suc r) i e

  pub right-release : (f g : Tree) → Right Release (release f g) f g
  right-release f g F G p q i r e = release-carried m F G _ _ p q (suc r) i e

  pub right-weak : (f g : Tree) → Right Weak (weak f g) f g
  right-weak f g F G p q i r e =
      Decides-at _ _ (carry-like (λ b. b) Weak Release F G G (λ k. F k || G k) true true
      (suc r) refl (λ k lt b. refl) (suc r) (omega arith))
      (release-carried m G (λ k. F k || G k) (SatisfiesAt (below m) words g) (λ k. SatisfiesAt
      (below m) words f k ⊎ SatisfiesAt (below m) words g k) q (λ j s f. Decides-or _ _
      (p j s f) (q j s f)) (suc r) i e)

  module _ (width : ℕ) (enough : m ≤ 64 * width) where
    -- a row says what it said where its words are kept
    told-kept : (tree : Tree) (old new : List ℕ) (base : ℕ)
        → AreOf m (one_at old base) (SatisfiesAt (below m) words tree) → ((i : ℕ)
        → i < base + width → get_or new i 0 ≡ get_or old i 0)
        → AreOf m (one_at new base) (SatisfiesAt (below m) words tree)
    told-kept tree old new base told kept i r e =
        Decides-at _ _ (ap (λ w. has_one w (r % 64)) (kept (base + r / 64) (omega arith)))
        (told i r e)

    pub filled-unary : (rule : Rule) (tree f : Tree) → Right rule tree f f
        → (old mid new : List ℕ) → IsFilled f words m width old mid
        → (base : ℕ) → base ≡ length old → IsApplied rule mid new base base width → length new ≡
        length mid → IsFilled tree words m width old new
    filled-unary rule tree f right old mid new part base e done long = record {
      long = omega (arith, part.long);
      kept = λ i lt. done.kept i (omega arith) ∙ part.kept i lt;
      told =
          λ i r f. let P : ℕ → Type 0 = λ b. Decides (one_at new b r) (SatisfiesAt
          (below m) words tree i) in subst P e (told i r f);
    }
      where
        here : AreOf m (one_at mid base) (SatisfiesAt (below m) words f)
        here i r g =
            let P : ℕ → Type 0 = λ b. Decides (one_at mid b r) (SatisfiesAt (below m) words f i) in
            subst P (sym e) (part.told i r g)

        told : AreOf m (one_at new base) (SatisfiesAt (below m) words tree)
        told i r g =
            Decides-at _ _ (done.said r (omega arith)) (right (one_at mid base)
            (one_at mid base) here here i r g)

    pub filled-binary : (rule : Rule) (tree f g : Tree) → Right rule tree f g
        → (old mid high new : List ℕ) → IsFilled f words m width old mid
        → IsFilled g words m width mid high
        → (base other : ℕ) → base ≡ length old → other ≡ length mid → IsApplied rule high new base
        other width → length new + width ≡ length high → IsFilled tree words m width old new
    filled-binary rule tree f g right old mid high new left_part right_part base other e o done long
        = record {
          long = omega (arith, left_part.long, right_part.long);
          kept =
              λ i lt. done.kept i (omega arith) ∙ right_part.kept i (omega (arith, left_part.long))
              ∙ left_part.kept i lt;
          told =
              λ i r f. let P : ℕ → Type 0 = λ b. Decides (one_at new b r) (SatisfiesAt
              (below m) words tree i) in subst P e (told i r f);
        }
      where
        lower : AreOf m (one_at mid base) (SatisfiesAt (below m) words f)
        lower i r h =
            let P : ℕ → Type 0 = λ b. Decides (one_at mid b r) (SatisfiesAt (below m) words f i) in
            subst P (sym e) (left_part.told i r h)

        left : AreOf m (one_at high base) (SatisfiesAt (below m) words f)
        left =
            told-kept f mid high base lower (λ i lt. right_part.kept i (omega
            (arith, left_part.long)))

        upper : AreOf m (one_at high other) (SatisfiesAt (below m) words g)
        upper i r h =
            let P : ℕ → Type 0 = λ b. Decides (one_at high b r) (SatisfiesAt (below m) words g i) in
            subst P (sym o) (right_part.told i r h)

        told : AreOf m (one_at new base) (SatisfiesAt (below m) words tree)
        told i r h =
            Decides-at _ _ (done.said r (omega arith)) (right (one_at high base)
            (one_at high other) left upper i r h)

-- ---- the row of a tree, by those of its parts

module _ (words : Words) (m width : ℕ) (old : List ℕ) where
  one-part : (rule : Rule) (tree f : Tree) → Right words m rule tree f f → m ≤ 64 * width
      → (mid new : List ℕ) → IsFilled f words m width old mid
      → IsApplied rule mid new (length mid - width)
      (length mid - width) width → length new ≡ length mid → IsFilled tree words m width old new
  one-part rule tree f right enough mid new part done long =
      filled-unary words m width enough rule tree f right old mid new part (length mid - width)
      (omega (arith, part.long)) done long

  two-parts : (rule : Rule) (tree f g : Tree) → Right words m rule tree f g → m ≤ 64 * width
      → (mid high new : List ℕ) → IsFilled f words m width old mid
      → IsFilled g words m width mid high
      → IsApplied rule high new (length high - 2 * width)
      (length high - 2 * width + width) width → length new + width ≡ length high → IsFilled tree
      words m width old new
  two-parts rule tree f g right enough mid high new left_part right_part done long =
      filled-binary words m width enough rule tree f g right old mid high new left_part right_part
      (length high - 2 * width) (length high - 2 * width + width)
      (omega (arith, left_part.long, right_part.long)) (omega
      (arith, left_part.long, right_part.long)) done long

  pub row-not : (f : Tree) → m ≤ 64 * width → (mid new : List ℕ)
      → IsFilled f words m width old mid
      → IsApplied Not mid new (length mid - width) (length mid - width) width
      → length new ≡ length mid → IsFilled (no f) words m width old new
  row-not f = one-part Not (no f) f (right-not words m f)

  pub row-next : (f : Tree) → m ≤ 64 * width → (mid new : List ℕ)
      → IsFilled f words m width old mid
      → IsApplied Next mid new (length mid - width) (length mid - width) width
      → length new ≡ length mid → IsFilled (next f) words m width old new
  row-next f = one-part Next (next f) f (right-next words m f)

  pub row-finally : (f : Tree) → m ≤ 64 * width → (mid new : List ℕ)
      → IsFilled f words m width old mid
      → IsApplied Finally mid new (length mid - width) (length mid - width) width
      → length new ≡ length mid → IsFilled (finally f) words m width old new
  row-finally f = one-part Finally (finally f) f (right-finally words m f)

  pub row-globally : (f : Tree) → m ≤ 64 * width → (mid new : List ℕ)
      → IsFilled f words m width old mid
      → IsApplied Globally mid new (length mid - width) (length mid - width) width
      → length new ≡ length mid → IsFilled (globally f) words m width old new
  row-globally f = one-part Globally (globally f) f (right-globally words m f)

  pub row-and : (f g : Tree) → m ≤ 64 * width → (mid high new : List ℕ)
      → IsFilled f words m width old mid → IsFilled g words m width mid high
      → IsApplied And high new (length high - 2 * width) (length high - 2 * width + width) width
      → length new + width ≡ length high → IsFilled (and f g) words m width old new
  row-and f g = two-parts And (and f g) f g (right-and words m f g)

  pub row-or : (f g : Tree) → m ≤ 64 * width → (mid high new : List ℕ)
      → IsFilled f words m width old mid → IsFilled g words m width mid high
      → IsApplied Or high new (length high - 2 * width) (length high - 2 * width + width) width
      → length new + width ≡ length high → IsFilled (or f g) words m width old new
  row-or f g = two-parts Or (or f g) f g (right-or words m f g)

  pub row-implies : (f g : Tree) → m ≤ 64 * width → (mid high new : List ℕ)
      → IsFilled f words m width old mid → IsFilled g words m width mid high
      → IsApplied Implies high new (length high - 2 * width)
      (length high - 2 * width + width) width → length new + width ≡ length high
      → IsFilled (implies f g) words m width old new
  row-implies f g = two-parts Implies (implies f g) f g (right-implies words m f g)

  pub row-iff : (f g : Tree) → m ≤ 64 * width → (mid high new : List ℕ)
      → IsFilled f words m width old mid → IsFilled g words m width mid high
      → IsApplied Iff high new (length high - 2 * width) (length high - 2 * width + width) width
      → length new + width ≡ length high → IsFilled (iff f g) words m width old new
  row-iff f g = two-parts Iff (iff f g) f g (right-iff words m f g)

  pub row-until : (f g : Tree) → m ≤ 64 * width → (mid high new : List ℕ)
      → IsFilled f words m width old mid → IsFilled g words m width mid high
      → IsApplied Until high new (length high - 2 * width) (length high - 2 * width + width) width
      → length new + width ≡ length high → IsFilled (until f g) words m width old new
  row-until f g = two-parts Until (until f g) f g (right-until words m f g)

  pub row-release : (f g : Tree) → m ≤ 64 * width → (mid high new : List ℕ)
      → IsFilled f words m width old mid → IsFilled g words m width mid high
      → IsApplied Release high new (length high - 2 * width)
      (length high - 2 * width + width) width → length new + width ≡ length high
      → IsFilled (release f g) words m width old new
  row-release f g = two-parts Release (release f g) f g (right-release words m f g)

  pub row-weak : (f g : Tree) → m ≤ 64 * width → (mid high new : List ℕ)
      → IsFilled f words m width old mid → IsFilled g words m width mid high
      → IsApplied Weak high new (length high - 2 * width) (length high - 2 * width + width) width
      → length new + width ≡ length high → IsFilled (weak f g) words m width old new
  row-weak f g = two-parts Weak (weak f g) f g (right-weak words m f g)

  repeated : (tree : Tree) (word : ℕ) (b : Bool) → ((j : ℕ) → j < 64 → has_one word j ≡ b)
      → ((i : ℕ) → Decides b (SatisfiesAt (below m) words tree i))
      → m ≤ 64 * width → (new : List ℕ) → IsRepeated word width old new → IsFilled tree words m
      width old new
  repeated tree word b bits decides enough new row = record {
    long = row.long;
    kept = row.kept;
    told = λ i r e.
        Decides-at _ _
        (ap (λ w. has_one w (r % 64)) (row.same (length old + r / 64) (omega arith) (omega
        (arith, row.long))) ∙ bits (r % 64) (omega arith))
        (decides i);
  }

  pub row-always : m ≤ 64 * width → (new : List ℕ) → IsRepeated 18446744073709551615 width old new
      → IsFilled always words m width old new
  row-always =
      repeated always 18446744073709551615 true (λ j lt. ap (λ b. nat_eq b 1)
      (bit_at_ones 64 j lt)) (λ i. (λ _. tt, λ _. refl))

  pub row-never : m ≤ 64 * width → (new : List ℕ) → IsRepeated 0 width old new
      → IsFilled never words m width old new
  row-never =
      repeated never 0 false (λ j lt. ap (λ b. nat_eq b 1) (bit_at-zero j)) (λ i. (
        λ e. absurd
            (cc),
        λ h. absurd h,
      ))

pub ruleset rows = (
  row-always,
  row-never,
  row-not,
  row-next,
  row-finally,
  row-globally,
  row-and,
  row-or,
  row-implies,
  row-iff,
  row-until,
  row-release,
  row-weak,
)

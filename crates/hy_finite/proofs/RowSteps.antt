-- Rows, word by word.
use Rattle.std.proofs.Common.{◌≡◌, ℕ, suc, ◌+◌, ◌-◌, ◌*◌, ◌/◌, ◌%◌, ◌<◌, ◌≤◌, Bool, List, length, set, take, get_or, inl, inr, refl, sym, ap, ◌∙◌, subst, arith}
use Rattle.std.proofs.lemmas.Bool.{cases_lt}
use Rattle.std.proofs.lemmas.List.{get_or-set_same, get_or-set_other, get_or-take}
use Rattle.std.proofs.Math.ListN.{length-set}
use Rattle.hy_bits.specs.Binary.{has_one}
use Rattle.hy_finite.specs.declared.rule.Rule.{Rule}
use Rattle.hy_finite.specs.Rules.{says, carries, carry_at, start}
use Rattle.hy_finite.specs.Rows.{one_at, IsApplied}
use Rattle.hy_finite.proofs.Carrying.{carry-shifted}

-- So many words of the row at `base` have been written.
pub record Applying (rule : Rule) (old new : List ℕ) (base other k : ℕ)
    (carry : Bool) : Type 0 where
  pub long : length new ≡ length old
  pub carried : carry ≡ carry_at rule (one_at old base) (one_at old other) (start rule) (64 * k)
  pub said : (r : ℕ) → r < 64 * k → one_at new base r ≡ says rule (one_at old base r)
      (one_at old other r) (carry_at rule (one_at old base) (one_at old other) (start rule) r)
  pub kept : (i : ℕ) → i < base → get_or new i 0 ≡ get_or old i 0
  pub rest : (i : ℕ) → base + k ≤ i → get_or new i 0 ≡ get_or old i 0

pub applying-none : (rule : Rule) (old : List ℕ) (base other : ℕ) (carry : Bool)
    → carry ≡ start rule → Applying rule old old base other 0 carry
applying-none rule old base other carry e = record {
  long = refl;
  carried = e;
  said = λ r lt. absurd (omega arith);
  kept = λ i lt. refl;
  rest = λ i le. refl;
}

-- place j of word k
place-word : (k j r : ℕ) → j < 64 → r ≡ 64 * k + j → r / 64 ≡ k
place-word k j r lt e = omega arith

place-bit : (k j r : ℕ) → j < 64 → r ≡ 64 * k + j → r % 64 ≡ j
place-bit k j r lt e = omega arith

pub at-place : (rows : List ℕ) (base k j r : ℕ) → j < 64 → r ≡ 64 * k + j
    → one_at rows base r ≡ has_one (get_or rows (base + k) 0) j
at-place rows base k j r lt e =
    ap (λ w. has_one (get_or rows (base + w) 0) (r % 64)) (place-word k j r lt e)
    ∙ ap (has_one (get_or rows (base + k) 0)) (place-bit k j r lt e)

module _ (rule : Rule) (old new : List ℕ) (base other k : ℕ) (carry : Bool)
    (before : Applying rule old new base other k carry) (left right word : ℕ) where
  abbrev F : ℕ → Bool
  F = one_at old base

  abbrev G : ℕ → Bool
  G = one_at old other

  -- what the row at `base` is to say
  abbrev wanted : ℕ → Bool
  wanted r = says rule (F r) (G r) (carry_at rule F G (start rule) r)

  abbrev Stepped : Type 0
  Stepped =
      (j : ℕ) → j < 64 → has_one word j ≡ says rule (has_one left j) (has_one right j)
      (carry_at rule (has_one left) (has_one right) carry j)

  left-bits : left ≡ get_or new (base + k) 0 → (j r : ℕ) → j < 64 → r ≡ 64 * k + j
      → F r ≡ has_one left j
  left-bits e j r lt same =
      at-place old base k j r lt same ∙ ap (λ w. has_one w j) (sym (e
      ∙ before.rest (base + k) (omega arith)))

  right-bits : base ≤ other → right ≡ get_or new (other + k) 0 → (j r : ℕ) → j < 64
      → r ≡ 64 * k + j → G r ≡ has_one right j
  right-bits le e j r lt same =
      at-place old other k j r lt same ∙ ap (λ w. has_one w j) (sym (e
      ∙ before.rest (other + k) (omega arith)))

  word-bits : base ≤ other → left ≡ get_or new (base + k) 0 → right ≡ get_or new (other + k) 0
      → Stepped → (j r : ℕ) → j < 64 → r ≡ 64 * k + j → has_one word j ≡ wanted r
  word-bits le l q step j r lt same =
      let carried = carry-shifted rule F G (has_one left) (has_one right) (start rule) (64 * k) 64
      (λ i s within e. left-bits l i s within e)
      (λ i s within e. right-bits le q i s within e) j r (omega arith) same in
      step j lt
      ∙ ap (λ c. says rule (has_one left j) (has_one right j) (carry_at rule (has_one left)
      (has_one right) c j)) before.carried
      ∙ ap (says rule (has_one left j) (has_one right j)) (sym carried)
      ∙ ap (λ x. says rule x (has_one right j) (carry_at rule F G (start rule) r)) (sym
      (left-bits l j r lt same))
      ∙ ap (λ x. says rule (F r) x (carry_at rule F G (start rule) r)) (sym
      (right-bits le q j r lt same))

  pub applying-more : base ≤ other → other + k < length old → left ≡ get_or new (base + k) 0
      → right ≡ get_or new (other + k) 0 → Stepped
      → (next : Bool) → next ≡ carries rule (has_one left 63) (has_one word 63) →
      (written : List ℕ) → written ≡ set new (base + k) word
      → Applying rule old written base other (k + 1) next
  applying-more le within l q step next e written f = record {
    long = ap length f ∙ length-set new (base + k) word ∙ before.long;
    carried = e
        ∙ ap (λ x. carries rule x (has_one word 63)) (sym (left-bits l 63 (64 * k + 63)
        (omega arith) refl))
        ∙ ap (carries rule (F (64 * k + 63))) (word-bits le l q step 63 (64 * k + 63)
        (omega arith) refl)
        ∙ ap (carry_at rule F G (start rule)) last;
    said = λ r lt. ap (λ rows. one_at rows base r) f ∙ said r lt;
    kept =
        λ i lt. ap (λ rows. get_or rows i 0) f
        ∙ get_or-set_other new (base + k) i word 0 (λ same. absurd (omega arith))
        ∙ before.kept i lt;
    rest =
        λ i from. ap (λ rows. get_or rows i 0) f
        ∙ get_or-set_other new (base + k) i word 0 (λ same. absurd (omega arith))
        ∙ before.rest i (omega arith);
  }
    where
      last : suc (64 * k + 63) ≡ 64 * (k + 1)
      last = omega arith

      said : (r : ℕ) → r < 64 * (k + 1) → one_at (set new (base + k) word) base r ≡ wanted r
      said r lt =
          elim (cases_lt r (64 * k)) [
            | inl old_place ↦
                ap (λ w. has_one w (r % 64)) (get_or-set_other new (base + k)
                (base + r / 64) word 0 (λ same. absurd (omega arith)))
                ∙ before.said r old_place
            | inr here ↦
                let j : ℕ = r - 64 * k in
                let small : j < 64 = omega arith in
                let same : r ≡ 64 * k + j = omega arith in
                let there : base + k < length new = omega (arith, before.long) in
                at-place (set new (base + k) word) base k j r small same
                ∙ ap (λ w. has_one w j) (get_or-set_same new (base + k) word 0 there)
                ∙ word-bits le l q step j r small same
          ]

-- The rows above the row that was written are let go.
pub applied-taken : (rule : Rule) (old new : List ℕ) (at behind wide : ℕ) (kept : List ℕ)
    (base width : ℕ)
    → IsApplied rule old new at behind wide → at ≡ base → behind ≡ base + width → wide ≡ width
    → (n : ℕ) → n ≡ base + width → kept ≡ take n new → IsApplied rule old kept base
    (base + width) width
applied-taken rule old new at behind wide kept base width done e f g n h taken =
    let P : ℕ → Type 0 = λ b. IsApplied rule old new b behind wide in
    let Q : ℕ → Type 0 = λ b. IsApplied rule old new base b wide in
    let R : ℕ → Type 0 = λ w. IsApplied rule old new base (base + width) w in
    let same = subst R g (subst Q f (subst P e done)) in
    record {
      kept = λ i lt. ap (λ rows. get_or rows i 0) taken ∙ front i (omega arith) ∙ same.kept i lt;
      said =
          λ r lt. ap (λ rows. one_at rows base r) taken
          ∙ ap (λ w. has_one w (r % 64)) (front (base + r / 64) (omega arith)) ∙ same.said r lt;
    }
  where
    front : (i : ℕ) → i < n → get_or (take n new) i 0 ≡ get_or new i 0
    front i lt = get_or-take n new i 0 lt

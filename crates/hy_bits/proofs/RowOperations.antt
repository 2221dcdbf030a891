-- What the operations on words of 64 bits do to the sets that the words are.
use Rattle.std.proofs.Common.{◌≡◌, ◌≢◌, ℕ, zero, suc, ◌+◌, ◌-◌, ◌*◌, ◌/◌, ◌%◌, ◌^◌, ◌<◌, ◌≤◌, true, false, ◌||◌, max, List, [], ◌∷◌, length, get_or, set, replicate, nat_eq, refl, sym, ap, ◌∙◌, inl, inr, subst, arith, bit_and, bit_or, w64, Some}
use Rattle.std.specs.Int.{bit_at, trailing_zeros}
use Rattle.std.specs.Ordering.{nat_cmp}
use Rattle.std.specs.Cmp.{nat_cmp_total, nat_cmp_is, both_ways}
use Rattle.std.specs.Cmp.Lexicographic.{pointwise, bytes_decides}
use Rattle.std.specs.FinSet.{empty, insert, remove, union, is_subset, contains, contains-union, contains-is_subset, is_subset-contains}
use Rattle.std.proofs.lemmas.Bool.{eq-eqb, eqb-true, cases_eq, cases_lt}
use Rattle.std.proofs.lemmas.List.{get_or-set_same, get_or-set_other, get_or_past, ext_get_or}
use Rattle.std.proofs.Math.ListN.{length-set}
use Rattle.std.proofs.lemmas.Nat.{or_lt, pow-add}
use Rattle.std.proofs.Math.Nat.{div-div-eq-div-mul, div-le_self, lt_of_le_of_lt}
use Rattle.std.specs.declared.cmp.Ordering.TheVariants.{Less, Equal, Greater}
use Rattle.std.proofs.lemmas.Nat.Bits.{bit_at-zero, bit_at_or, bit_at_and, bit_at-lt, bit_at_above, bit_at-trailing_zeros, same_from_bits}
use Rattle.hy_bits.specs.Binary.{ones}
use Rattle.hy_bits.specs.BinaryLaws.{contains-insert_same, contains-insert_other, contains-remove_same, contains-remove_other, same_members}
use Rattle.hy_bits.specs.Rows.{joined, members, words_of, AreWords}
use Rattle.hy_bits.specs.Sets.{HasNone, IsNext}
use Rattle.hy_bits.specs.RowLaws.{bit, words_of-joined, contains-members}

-- ---- no member

joined-zeros : (n : ℕ) → joined (replicate n 0) ≡ 0
joined-zeros zero = refl
joined-zeros (suc n) = ap (λ k. k * 2 ^ 64 + 0) (joined-zeros n)

pub members-zeros : (n : ℕ) → members (replicate n 0) ≡ empty
unfolding ones
members-zeros n = ap ones (joined-zeros n)

-- ---- one word changed at one place

pub words-set : (ws : List ℕ) (k v : ℕ) → AreWords ws → k < length ws → v < 2 ^ 64
    → AreWords (set ws k v)
words-set ws k v fit within fits j =
    let P : ℕ → Type 0 = λ n. n < 2 ^ 64 in
    elim (cases_eq j k) [
      | inl e ↦ subst P (sym ((λ i. get_or (set ws k v) (e i) 0) ∙ get_or-set_same ws k v 0 within))
          fits
      | inr apart ↦ subst P (sym (get_or-set_other ws k j v 0 apart)) (fit j)
    ]

module _ (ws : List ℕ) (i v : ℕ) (within : i / 64 < length ws)
    (others : (p : ℕ) → p < 64 → p ≢ i % 64 → bit_at v p ≡ bit_at (get_or ws (i / 64) 0) p) where
  bit_same : bit (set ws (i / 64) v) i ≡ bit_at v (i % 64)
  bit_same = ap (λ w. bit_at w (i % 64)) (get_or-set_same ws (i / 64) v 0 within)

  bit_other : (q : ℕ) → q ≢ i → bit (set ws (i / 64) v) q ≡ bit ws q
  bit_other q apart =
      elim (cases_eq (q / 64) (i / 64)) [
        | inl same ↦
            (λ j. bit_at (get_or (set ws (i / 64) v) (same j) 0) (q % 64))
            ∙ ap (λ w. bit_at w (q % 64)) (get_or-set_same ws (i / 64) v 0 within)
            ∙ others (q % 64) (omega arith) (λ e. apart (omega arith))
            ∙ sym (λ j. bit_at (get_or ws (same j) 0) (q % 64))
        | inr other ↦ ap (λ w. bit_at w (q % 64)) (get_or-set_other ws (i / 64) (q / 64) v 0 other)
      ]

  module _ (fit : AreWords ws) (fits : v < 2 ^ 64) where
    member_same : (b : ℕ) → bit_at v (i % 64) ≡ b
        → contains (members (set ws (i / 64) v)) i ≡ nat_eq b 1
    member_same b is = contains-members _ i (words-set ws (i / 64) v fit within fits)
        ∙ ap (λ b. nat_eq b 1) (bit_same ∙ is)

    member_other : (q : ℕ) → q ≢ i → contains (members (set ws (i / 64) v)) q ≡ contains
        (members ws) q
    member_other q apart =
        contains-members _ q (words-set ws (i / 64) v fit within fits)
        ∙ ap (λ b. nat_eq b 1) (bit_other q apart)
        ∙ sym (contains-members ws q fit)

    pub members-insert : bit_at v (i % 64) ≡ 1 → members (set ws (i / 64) v) ≡ insert (members ws) i
    members-insert one = same_members _ _ at
      where
        at : (q : ℕ) → contains (members (set ws (i / 64) v)) q ≡ contains (insert (members ws) i) q
        at q =
            elim (cases_eq q i) [
              | inl e ↦
                  (λ j. contains (members (set ws (i / 64) v)) (e j))
                  ∙ member_same 1 one
                  ∙ sym (contains-insert_same (members ws) i)
                  ∙ sym (λ j. contains (insert (members ws) i) (e j))
              | inr apart ↦ member_other q apart
                  ∙ sym (contains-insert_other (members ws) i q apart)
            ]

    pub members-remove : bit_at v (i % 64) ≡ 0 → members (set ws (i / 64) v) ≡ remove (members ws) i
    members-remove none = same_members _ _ at
      where
        at : (q : ℕ) → contains (members (set ws (i / 64) v)) q ≡ contains (remove (members ws) i) q
        at q =
            elim (cases_eq q i) [
              | inl e ↦
                  (λ j. contains (members (set ws (i / 64) v)) (e j))
                  ∙ member_same 0 none
                  ∙ sym (contains-remove_same (members ws) i)
                  ∙ sym (λ j. contains (remove (members ws) i) (e j))
              | inr apart ↦ member_other q apart
                  ∙ sym (contains-remove_other (members ws) i q apart)
            ]

-- ---- two sets

pub one_or : (a b : ℕ) → a < 2 → b < 2 → nat_eq (max a b) 1 ≡ (nat_eq a 1 || nat_eq b 1)
one_or zero zero la lb = refl
one_or zero (suc zero) la lb = refl
one_or (suc zero) zero la lb = refl
one_or (suc zero) (suc zero) la lb = refl
one_or (suc (suc a)) b la lb = absurd (omega arith)
one_or a (suc (suc b)) la lb = absurd (omega arith)

module _ (xs ys : List ℕ) (fit_x : AreWords xs) (fit_y : AreWords ys) where
  pub members-union : (zs : List ℕ) → AreWords zs
      → ((j : ℕ) → get_or zs j 0 ≡ bit_or (get_or xs j 0) (get_or ys j 0))
      → members zs ≡ union (members xs) (members ys)
  members-union zs fit_z each =
      same_members _ _ (λ q.
      contains-members zs q fit_z
      ∙ ap (λ w. nat_eq (bit_at w (q % 64)) 1) (each (q / 64))
      ∙ ap (λ b. nat_eq b 1) (bit_at_or (get_or xs (q / 64) 0) (get_or ys (q / 64) 0) (q % 64))
      ∙ one_or (bit xs q) (bit ys q) (bit_at-lt _ (q % 64)) (bit_at-lt _ (q % 64))
      ∙ sym (contains-union nat_cmp_total (members xs) (members ys) q
      ∙ (λ i. contains-members xs q fit_x i || contains-members ys q fit_y i)))

  -- each word of xs is within that of ys
  abbrev pub IsWithin : Type 0
  IsWithin = (j : ℕ) → bit_and (get_or xs j 0) (get_or ys j 0) ≡ get_or xs j 0

  one_within : IsWithin → (q : ℕ) → contains (members xs) q ≡ true → contains (members ys) q ≡ true
  one_within each q is =
      let one : bit xs q ≡ 1 = eqb-true _ _ (sym (contains-members xs q fit_x) ∙ is) in
      let here : bit_at (bit_and (get_or xs (q / 64) 0) (get_or ys (q / 64) 0)) (q % 64) ≡ bit xs q
      = ap (λ w. bit_at w (q % 64)) (each (q / 64)) in
      contains-members ys q fit_y
      ∙ eq-eqb _ _ (omega (
        arith,
        here,
        one,
        bit_at_and (get_or xs (q / 64) 0)
            (get_or ys (q / 64) 0) (q % 64),
        bit_at-lt (get_or ys (q / 64) 0) (q % 64),
      ))

  pub is_subset-within : IsWithin → is_subset (members xs) (members ys) ≡ true
  is_subset-within each = contains-is_subset nat_cmp_total _ _ (one_within each)

  word_within : ((q : ℕ) → contains (members xs) q ≡ true → contains (members ys) q ≡ true)
      → (j p : ℕ) → bit_at (bit_and (get_or xs j 0) (get_or ys j 0)) p ≡ bit_at (get_or xs j 0) p
  word_within each j p =
      elim (cases_lt p 64) [
        | inl low ↦
            let word : (64 * j + p) / 64 ≡ j = omega arith in
            let place : (64 * j + p) % 64 ≡ p = omega arith in
            let here_x : bit xs (64 * j + p) ≡ bit_at (get_or xs j 0) p = λ i. bit_at
            (get_or xs (word i) 0) (place i) in
            let here_y : bit ys (64 * j + p) ≡ bit_at (get_or ys j 0) p = λ i. bit_at
            (get_or ys (word i) 0) (place i) in
            elim (cases_eq (bit_at (get_or xs j 0) p) 1) [
              | inl one ↦
                  let also : bit_at (get_or ys j 0) p ≡ 1 =
                  sym here_y
                  ∙ eqb-true _ _ (sym (contains-members ys _ fit_y)
                  ∙ each _ (contains-members xs _ fit_x ∙ eq-eqb _ _ (here_x ∙ one)))
                  in
                  omega (arith, bit_at_and (get_or xs j 0) (get_or ys j 0) p, one, also)
              | inr other ↦ omega (
                arith,
                bit_at_and (get_or xs j 0) (get_or ys j 0) p,
                bit_at-lt (get_or xs j 0) p,
                other,
              )
            ]
        | inr high ↦ omega (
          arith,
          bit_at_and (get_or xs j 0) (get_or ys j 0) p,
          bit_at_above (get_or xs j 0) 64 p (fit_x j) high,
        )
      ]

  pub is_subset-beyond : (j : ℕ) → bit_and (get_or xs j 0) (get_or ys j 0) ≢ get_or xs j 0
      → is_subset (members xs) (members ys) ≡ false
  is_subset-beyond j apart =
      elim (is_subset (members xs) (members ys)) as
      (λ b. is_subset (members xs) (members ys) ≡ b → b ≡ false) [
        | true ↦ λ e. absurd (apart (same_from_bits _ _
            (word_within (is_subset-contains nat_cmp_total _ _ e) j)))
        | false ↦ λ e. refl
      ] refl

-- ---- comparing

pub same_joined : (xs ys : List ℕ) → AreWords xs → AreWords ys → length xs ≡ length ys
    → pointwise nat_eq xs ys ≡ nat_eq (joined xs) (joined ys)
same_joined xs ys fit_x fit_y long =
    both_ways _ _
    (λ e. eq-eqb _ _ (ap joined ((bytes_decides xs ys).0 e)))
    (λ e.
    (bytes_decides xs ys).1
    (sym (words_of-joined xs fit_x) ∙ (λ i. words_of (long i)
    (eqb-true (joined xs) (joined ys) e i)) ∙ words_of-joined ys fit_y))

-- words that are equal from j on
abbrev pub AlikeFrom : List ℕ → List ℕ → ℕ → Type 0
AlikeFrom xs ys j = (k : ℕ) → j ≤ k → get_or xs k 0 ≡ get_or ys k 0

joined_alike : (xs ys : List ℕ) → length xs ≡ length ys → AlikeFrom xs ys 0 → joined xs ≡ joined ys
joined_alike xs ys long alike = ap joined (ext_get_or 0 xs ys long (λ k _. alike k (omega arith)))

joined_less : (xs ys : List ℕ) (j : ℕ) → AreWords xs → AreWords ys → length xs ≡ length ys
    → AlikeFrom xs ys (suc j) → get_or xs j 0 < get_or ys j 0 → joined xs < joined ys
joined_less [] [] j fit_x fit_y long alike less = less
joined_less [] (y ∷ ys) j fit_x fit_y long alike less = absurd (omega arith)
joined_less (x ∷ xs) [] j fit_x fit_y long alike less = absurd (omega arith)
joined_less (x ∷ xs) (y ∷ ys) zero fit_x fit_y long alike less =
    let same : joined xs ≡ joined ys = joined_alike xs ys (omega arith)
    (λ k _. alike (suc k) (omega arith)) in
    omega (arith, same)
joined_less (x ∷ xs) (y ∷ ys) (suc j) fit_x fit_y long alike less =
    let rest : joined xs < joined ys =
    joined_less xs ys j (λ k. fit_x (suc k)) (λ k. fit_y (suc k)) (omega arith)
    (λ k le. alike (suc k) (omega arith)) less
    in
    omega (arith, rest, fit_x 0, fit_y 0)

module _ (xs ys : List ℕ) (fit_x : AreWords xs) (fit_y : AreWords ys) (long : length xs ≡ length ys)
  where
    pub cmp_alike : AlikeFrom xs ys 0 → Equal ≡ nat_cmp (joined xs) (joined ys)
    cmp_alike alike = nat_cmp_is _ _ Equal (joined_alike xs ys long alike)

    pub cmp_apart : (j : ℕ) → AlikeFrom xs ys (suc j) → get_or xs j 0 ≢ get_or ys j 0
        → nat_cmp (get_or xs j 0) (get_or ys j 0) ≡ nat_cmp (joined xs) (joined ys)
    cmp_apart j alike apart =
        elim (cases_lt (get_or xs j 0) (get_or ys j 0)) [
          | inl less ↦ sym (nat_cmp_is _ _ Less less)
              ∙ nat_cmp_is _ _ Less (joined_less xs ys j fit_x fit_y long alike less)
          | inr le ↦
              let more : get_or ys j 0 < get_or xs j 0 = omega (arith, apart) in
              sym (nat_cmp_is _ _ Greater more)
              ∙ nat_cmp_is _ _ Greater (joined_less ys xs j fit_y fit_x (sym long)
              (λ k at. sym (alike k at)) more)
        ]

-- ---- the words of a union, one after another

-- the words below j are those of either, and the others those of xs
pub record AreOred (xs ys : List ℕ) (j : ℕ) (zs : List ℕ) : Type 0 where
  pub long : length zs ≡ length xs
  pub done : (k : ℕ) → k < j → get_or zs k 0 ≡ bit_or (get_or xs k 0) (get_or ys k 0)
  pub rest : (k : ℕ) → j ≤ k → get_or zs k 0 ≡ get_or xs k 0

pub ored-none : (xs ys : List ℕ) → AreOred xs ys 0 xs
ored-none xs ys = record { long = refl; done = λ k lt. absurd (omega arith); rest = λ k le. refl }

pub ored-more : (xs ys zs : List ℕ) (j : ℕ) → j < length xs → AreOred xs ys j zs
    → AreOred xs ys (j + 1) (set zs j (bit_or (get_or zs j 0) (get_or ys j 0)))
ored-more xs ys zs j within so = record {
  long = omega (arith, length-set {A = ℕ}, so.long);
  done = λ k lt.
      elim (cases_eq k j) [
        | inl e ↦
            let P : ℕ → Type 0 = λ n. get_or (set zs j (bit_or (get_or zs j 0) (get_or ys j 0))) n 0
            ≡ bit_or (get_or xs n 0) (get_or ys n 0) in
            subst P (sym e) (get_or-set_same zs j _ 0 (omega (arith, so.long))
            ∙ ap (λ w. bit_or w (get_or ys j 0)) (so.rest j (omega arith)))
        | inr apart ↦ get_or-set_other zs j k _ 0 apart ∙ so.done k (omega arith)
      ];
  rest = λ k le. get_or-set_other zs j k _ 0 (omega arith) ∙ so.rest k (omega arith);
}

pub ored-all : (xs ys zs : List ℕ) → length ys ≡ length xs → AreOred xs ys (length xs) zs → (k : ℕ)
    → get_or zs k 0 ≡ bit_or (get_or xs k 0) (get_or ys k 0)
ored-all xs ys zs long so k =
    elim (cases_lt k (length xs)) [
      | inl lt ↦ so.done k lt
      | inr le ↦
          so.rest k le
          ∙ get_or_past xs k 0 le
          ∙ sym (λ i. bit_or (get_or_past xs k 0 le i) (get_or_past ys k 0 (omega (arith, long)) i))
    ]

pub ored-words : (xs ys zs : List ℕ) → AreWords xs → AreWords ys
    → ((k : ℕ) → get_or zs k 0 ≡ bit_or (get_or xs k 0) (get_or ys k 0)) → AreWords zs
ored-words xs ys zs fit_x fit_y each k =
    let P : ℕ → Type 0 = λ n. n < 2 ^ 64 in
    subst P (sym (each k)) (or_lt 64 (get_or xs k 0) (get_or ys k 0) (fit_x k) (fit_y k))

-- ---- the least member from a number on

-- a word that is shifted down
bit_at-shifted : (w p t : ℕ) → bit_at (w / 2 ^ p) t ≡ bit_at w (p + t)
bit_at-shifted w p t = ap (λ n. n % 2) (div-div-eq-div-mul w (2 ^ p) (2 ^ t) ∙ ap (λ n. w / n) (sym (pow-add 2 p t)))

-- the bits from number i on, in its word
abbrev pub rest : List ℕ → ℕ → ℕ
rest ws i = get_or ws (i / 64) 0 / 2 ^ (i % 64)

module _ (ws : List ℕ) (fit : AreWords ws) (from i : ℕ) (le : from ≤ i) (none : HasNone (members ws) from i) where
  contains-shifted : (t : ℕ) → i % 64 + t < 64 → contains (members ws) (i + t) ≡ nat_eq (bit_at (rest ws i) t) 1
  contains-shifted t low =
      let word : (i + t) / 64 ≡ i / 64 = omega arith in
      let place : (i + t) % 64 ≡ i % 64 + t = omega arith in
      contains-members ws (i + t) fit
      ∙ (λ j. nat_eq (bit_at (get_or ws (word j) 0) (place j)) 1)
      ∙ ap (λ b. nat_eq b 1) (sym (bit_at-shifted (get_or ws (i / 64) 0) (i % 64) t))

  -- none up to another one in its word, if the bits say so
  none-more : (t : ℕ) → i % 64 + t ≤ 64 → ((k : ℕ) → k < t → bit_at (rest ws i) k ≡ 0) → HasNone (members ws) from (i + t)
  none-more t low zeros q ge lt =
      elim (cases_lt q i) [
        | inl before ↦ none q ge before
        | inr behind ↦
            let e : i + (q - i) ≡ q = omega arith in
            sym (ap (contains (members ws)) e) ∙ contains-shifted (q - i) (omega arith) ∙ ap (λ b. nat_eq b 1) (zeros (q - i) (omega arith))
      ]

  pub none-past : rest ws i ≡ 0 → HasNone (members ws) from ((i / 64 + 1) * 64)
  none-past nothing =
      let P : ℕ → Type 0 = HasNone (members ws) from in
      subst P (omega arith) (none-more (64 - i % 64) (omega arith) (λ k lt. ap (λ w. bit_at w k) nothing ∙ bit_at-zero k))

  pub next-found : 0 < rest ws i → IsNext (members ws) from (Some (i + trailing_zeros w64 (rest ws i)))
  next-found some =
      let fits : rest ws i < 2 ^ 64 = lt_of_le_of_lt (div-le_self (get_or ws (i / 64) 0) (2 ^ (i % 64))) (fit (i / 64)) in
      let (_, one, zeros) = bit_at-trailing_zeros w64 (rest ws i) some fits in
      let t : ℕ = trailing_zeros w64 (rest ws i) in
      elim (cases_lt (i % 64 + t) 64) [
        | inl low ↦ (omega arith, contains-shifted t low ∙ ap (λ b. nat_eq b 1) one, none-more t (omega arith) zeros)
        | inr high ↦
            let found = sym (bit_at-shifted (get_or ws (i / 64) 0) (i % 64) t) ∙ one in
            absurd (cc (found, bit_at_above (get_or ws (i / 64) 0) 64 (i % 64 + t) (fit (i / 64)) high))
      ]

-- past all words
pub none-left : (ws : List ℕ) → AreWords ws → (n from i : ℕ) → length ws ≡ n → 64 * n ≤ i → HasNone (members ws) from i → (q : ℕ) → from ≤ q → contains (members ws) q ≡ false
none-left ws fit n from i long past none q ge =
    elim (cases_lt q i) [
      | inl before ↦ none q ge before
      | inr behind ↦
          contains-members ws q fit
          ∙ ap (λ w. nat_eq (bit_at w (q % 64)) 1) (get_or_past ws (q / 64) 0 (omega (arith, long)))
          ∙ ap (λ b. nat_eq b 1) (bit_at-zero (q % 64))
    ]

-- Numbers in groups of 7 bits, and the ands of the binary form in them.
use Rattle.std.proofs.Common.{◌≡◌, ℕ, zero, suc, ◌+◌, ◌-◌, ◌*◌, ◌/◌, ◌%◌, ◌^◌, ◌<◌, ◌≤◌, true, false, cond, inl, inr, refl, sym, ◌∙◌, ap, arith, List, [], ◌∷◌, ◌++◌, flat_map, length, get_or, drop, append_assoc}
use Rattle.std.specs.Prelude.{nat_lt, nat_le, slice_index}
use Rattle.std.specs.List.{range_with_len}
use Rattle.std.proofs.Math.Nat.{pow-succ'}
use Rattle.std.proofs.lemmas.Bool.{lt-ltb, ltb-true, cases_lt, cases_Bool, le-ltb}
use Rattle.std.proofs.lemmas.List.{get_or_past}
use Rattle.std.proofs.lemmas.Grind.{flat_map-append}
use Rattle.aig_net.specs.declared.parts.NetParts.{NetParts}
use Rattle.aig_net.specs.Nets.{first_and, and_at}
use Rattle.aiger_body.specs.Texts.{pieces, grown, is_ended}
use Rattle.aiger_body.specs.Files.{ends_number, value_of}
use Rattle.aiger_print.specs.Printed.{groups_of, deltas_of}

groups-zero : (n : ℕ) → groups_of zero n ≡ n ∷ []
unfolding groups_of
groups-zero n = refl

groups-more : (m n : ℕ) → groups_of (suc m) n ≡ cond (nat_lt n 128) (n ∷ []) ((128 + n % 128) ∷ groups_of m (n / 128))
unfolding groups_of
groups-more m n = refl

high : (n : ℕ) → nat_lt n 128 ≡ false → 128 ≤ n
high n e = elim (cases_lt n 128) [ inl lt ↦ let small : nat_lt n 128 ≡ true = lt-ltb n 128 lt in absurd (cc) | inr le ↦ le ]

seventh : (m n : ℕ) → n < 128 ^ suc (suc m) → n / 128 < 128 ^ suc m
seventh m n lt = omega (arith, lt, pow-succ' 128 (suc m))

group-small : (m n : ℕ) → nat_lt n 128 ≡ true → groups_of m n ≡ n ∷ []
group-small zero n e = groups-zero n
group-small (suc m) n e = groups-more m n ∙ ap (λ b. cond b (n ∷ []) ((128 + n % 128) ∷ groups_of m (n / 128))) e

group-large : (m n : ℕ) → nat_lt n 128 ≡ false → groups_of (suc m) n ≡ (128 + n % 128) ∷ groups_of m (n / 128)
group-large m n e = groups-more m n ∙ ap (λ b. cond b (n ∷ []) ((128 + n % 128) ∷ groups_of m (n / 128))) e

pub group_value : (m n : ℕ) → n < 128 ^ suc m → value_of (groups_of m n) ≡ n
group_value zero n lt = ap value_of (groups-zero n) ∙ (omega (arith, lt))
group_value (suc m) n lt = elim (cases_Bool (nat_lt n 128)) [
  | inl small ↦ ap value_of (group-small (suc m) n small) ∙ (omega (arith, ltb-true n 128 small))
  | inr large ↦ ap value_of (group-large m n large) ∙ (omega (arith, group_value m (n / 128) (seventh m n lt)))
]

pub group_piece : (m n : ℕ) (rest : List ℕ) → n < 128 ^ suc m → pieces ends_number (groups_of m n ++ rest) ≡ groups_of m n ∷ pieces ends_number rest
group_piece zero n rest lt =
    let small : nat_lt n 128 ≡ true = lt-ltb n 128 (omega (arith, lt)) in
    ap (λ l. pieces ends_number (l ++ rest)) (groups-zero n) ∙ ap (λ b. grown b n (pieces ends_number rest)) small ∙ ap (λ l. l ∷ pieces ends_number rest) (sym (groups-zero n))
group_piece (suc m) n rest lt = elim (cases_Bool (nat_lt n 128)) [
  | inl small ↦ ap (λ l. pieces ends_number (l ++ rest)) (group-small (suc m) n small) ∙ ap (λ b. grown b n (pieces ends_number rest)) small ∙ ap (λ l. l ∷ pieces ends_number rest) (sym (group-small (suc m) n small))
  | inr large ↦
      let big : nat_lt (128 + n % 128) 128 ≡ false = le-ltb _ _ (omega arith) in
      ap (λ l. pieces ends_number (l ++ rest)) (group-large m n large)
      ∙ ap (λ b. grown b (128 + n % 128) (pieces ends_number (groups_of m (n / 128) ++ rest))) big
      ∙ ap (grown false (128 + n % 128)) (group_piece m (n / 128) rest (seventh m n lt))
      ∙ ap (λ l. l ∷ pieces ends_number rest) (sym (group-large m n large))
]

pub group_ended : (m n : ℕ) → n < 128 ^ suc m → is_ended ends_number (groups_of m n) ≡ true
group_ended zero n lt = ap (is_ended ends_number) (groups-zero n) ∙ lt-ltb n 128 (omega (arith, lt))
group_ended (suc m) n lt = elim (cases_Bool (nat_lt n 128)) [
  | inl small ↦ ap (is_ended ends_number) (group-small (suc m) n small) ∙ small
  | inr large ↦ ap (is_ended ends_number) (group-large m n large) ∙ onto (groups_of m (n / 128)) (group_ended m (n / 128) (seventh m n lt))
]
  where
    onto : (group : List ℕ) → is_ended ends_number group ≡ true → is_ended ends_number ((128 + n % 128) ∷ group) ≡ true
    onto [] e = absurd (cc)
    onto (b ∷ group) e = e

group-short : (m n k : ℕ) → n < 128 ^ suc k → length (groups_of m n) ≤ suc k
group-short zero n k lt = omega (arith, ap length (groups-zero n))
group-short (suc m) n k lt = elim (cases_Bool (nat_lt n 128)) [
  | inl small ↦ omega (arith, ap length (group-small (suc m) n small))
  | inr large ↦ more k lt (high n large) (ap length (group-large m n large)) (group-short m (n / 128))
]
  where
    more : (k : ℕ) → n < 128 ^ suc k → 128 ≤ n → length (groups_of (suc m) n) ≡ suc (length (groups_of m (n / 128))) → ((j : ℕ) → n / 128 < 128 ^ suc j → length (groups_of m (n / 128)) ≤ suc j) → length (groups_of (suc m) n) ≤ suc k
    more zero lt le long fewer = absurd (omega (arith, lt, le))
    more (suc k) lt le long fewer = omega (arith, long, fewer k (seventh k n lt))

pub group_done : (n : ℕ) → n < 128 ^ 4 → nat_le 128 (slice_index (groups_of 9 n) 9) ≡ false
group_done n lt = ap (nat_le 128) (get_or_past (groups_of 9 n) 9 0 (omega (arith, group-short 9 n 3 (omega (arith, lt)))))

-- ---- the ands, one after the other

abbrev pub first_delta : NetParts → ℕ → ℕ
first_delta net j = 2 * (first_and net + j) - (and_at net.ands j).left

abbrev pub second_delta : NetParts → ℕ → ℕ
second_delta net j = (and_at net.ands j).left - (and_at net.ands j).right

abbrev pub groups_from : NetParts → ℕ → ℕ → List (List ℕ)
groups_from net a zero = []
groups_from net a (suc n) = groups_of 9 (first_delta net a) ∷ groups_of 9 (second_delta net a) ∷ groups_from net (a + 1) n

module _ (net : NetParts) (small : (j : ℕ) → j < length net.ands → (first_delta net j < 128 ^ 4) × (second_delta net j < 128 ^ 4)) where
  wide : (n : ℕ) → n < 128 ^ 4 → n < 128 ^ suc 9
  wide n lt = omega (arith, lt)

  pub all_pieces : (a n : ℕ) (rest : List ℕ) → a + n ≤ length net.ands → pieces ends_number (flat_map (deltas_of net) (range_with_len a n) ++ rest) ≡ groups_from net a n ++ pieces ends_number rest
  all_pieces a zero rest le = refl
  all_pieces a (suc n) rest le =
      let (one, two) = small a (omega arith) in
      let A = groups_of 9 (first_delta net a) in
      let B = groups_of 9 (second_delta net a) in
      let C = flat_map (deltas_of net) (range_with_len (a + 1) n) in
      ap (λ l. pieces ends_number (l ++ rest)) (flat_map-append (deltas_of net) (a ∷ []) (range_with_len (a + 1) n))
      ∙ ap (pieces ends_number) (regrouped A B C rest)
      ∙ group_piece 9 (first_delta net a) (B ++ (C ++ rest)) (wide _ one)
      ∙ ap (λ l. A ∷ l) (group_piece 9 (second_delta net a) (C ++ rest) (wide _ two) ∙ ap (λ l. B ∷ l) (all_pieces (a + 1) n rest (omega arith)))
    where
      regrouped : (A B C rest : List ℕ) → (((A ++ B) ++ []) ++ C) ++ rest ≡ A ++ (B ++ (C ++ rest))
      regrouped A B C rest = simp (append_assoc) refl

-- the groups of one and
pub first_group : (net : NetParts) (a n j : ℕ) (more : List (List ℕ)) → j < n → get_or (groups_from net a n ++ more) (2 * j) [] ≡ groups_of 9 (first_delta net (a + j))
first_group net a zero j more lt = absurd (omega arith)
first_group net a (suc n) zero more lt = let q : a ≡ a + 0 = omega arith in ap (λ m. groups_of 9 (first_delta net m)) q
first_group net a (suc n) (suc j) more lt =
    let p : 2 * suc j ≡ suc (suc (2 * j)) = omega arith in
    let q : a + 1 + j ≡ a + suc j = omega arith in
    ap (λ i. get_or (groups_from net a (suc n) ++ more) i []) p ∙ first_group net (a + 1) n j more (omega arith) ∙ ap (λ m. groups_of 9 (first_delta net m)) q

pub second_group : (net : NetParts) (a n j : ℕ) (more : List (List ℕ)) → j < n → get_or (groups_from net a n ++ more) (2 * j + 1) [] ≡ groups_of 9 (second_delta net (a + j))
second_group net a zero j more lt = absurd (omega arith)
second_group net a (suc n) zero more lt = let q : a ≡ a + 0 = omega arith in ap (λ m. groups_of 9 (second_delta net m)) q
second_group net a (suc n) (suc j) more lt =
    let p : 2 * suc j + 1 ≡ suc (suc (2 * j + 1)) = omega arith in
    let q : a + 1 + j ≡ a + suc j = omega arith in
    ap (λ i. get_or (groups_from net a (suc n) ++ more) i []) p ∙ second_group net (a + 1) n j more (omega arith) ∙ ap (λ m. groups_of 9 (second_delta net m)) q

pub behind_groups : (net : NetParts) (a n : ℕ) (more : List (List ℕ)) → drop (2 * n) (groups_from net a n ++ more) ≡ more
behind_groups net a zero more = refl
behind_groups net a (suc n) more =
    let p : 2 * suc n ≡ suc (suc (2 * n)) = omega arith in
    ap (λ i. drop i (groups_from net a (suc n) ++ more)) p ∙ behind_groups net (a + 1) n more

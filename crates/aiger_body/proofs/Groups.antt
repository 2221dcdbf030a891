-- The numbers of the binary ands: where they stand, and what they are worth.
use Rattle.std.proofs.Common.{◌≡◌, ℕ, zero, suc, ◌+◌, ◌-◌, ◌*◌, ◌%◌, ◌^◌, ◌<◌, ◌≤◌, Bool, true, false, not, ◌&&◌, List, [], ◌∷◌, ◌++◌, map, length, get_or, take, drop, refl, sym, ◌∙◌, ap, subst, arith, inl, inr, Some, None, length-append}
use Rattle.std.specs.Prelude.{nat_le, nat_lt, slice_index}
use Rattle.std.specs.List.{concat, range_with_len}
use Rattle.std.proofs.Math.Nat.{pow-succ', pow-le-pow_right}
use Rattle.std.proofs.Math.Seq.{drop-cons}
use Rattle.std.proofs.lemmas.Bool.{le-leb, lt-ltb, cases_lt, lt-leb}
use Rattle.std.proofs.lemmas.List.{length-drop}
use Rattle.aig_kind.specs.declared.kind.AigKind.TheVariants.{Delta, Truncated}
use Rattle.aiger_body.specs.declared.header.Header.{Header}
use Rattle.aig_order.specs.declared.gate.Gate.{Gate}
use Rattle.aiger_body.specs.Texts.{grown, pieces, piece_at, place, is_ended}
use Rattle.aig_order.specs.Firsts.{when, otherwise}
use Rattle.aiger_body.specs.Files.{ends_number, value_of, behind, groups, group_start, delta, line_start, counted, lines, binary_lhs, binary_gate}
use Rattle.aiger_body.specs.Outcomes.{fault, of_number, least, greatest}
use Rattle.aiger_body.specs.Deltas.{IsBehind, IsNumberAt}
use Rattle.aiger_body.proofs.Pieces.{pieces-concat}
use Rattle.aig_order.proofs.Sorted.{range-more}
use Rattle.aiger_body.proofs.Cutting.{first-at}

-- ---- what stands behind the counted lines

drop-past-front : (xs ys : List ℕ) (n : ℕ) → drop (length xs + n) (xs ++ ys) ≡ drop n ys
drop-past-front [] ys n = let q : 0 + n ≡ n = omega arith in ap (λ m. drop m ys) q
drop-past-front (x ∷ xs) ys n = let q : length (x ∷ xs) + n ≡ suc (length xs + n) = omega arith in ap (λ m. drop m (x ∷ xs ++ ys)) q ∙ drop-past-front xs ys n

pub rest-of : (ps : List (List ℕ)) (k : ℕ) → concat (drop k ps) ≡ drop (place ps k) (concat ps)
rest-of ps zero = refl
rest-of [] (suc k) = refl
rest-of (p ∷ ps) (suc k) =
    let q : place (p ∷ ps) (suc k) ≡ length p + place ps k = length-append p (concat (take k ps)) in
    rest-of ps k ∙ sym (drop-past-front p (concat ps) (place ps k)) ∙ ap (λ m. drop m (p ++ concat ps)) (sym q)

pub behind_is : (h : Header) (bytes : List ℕ) (base : ℕ) → IsBehind h bytes base → drop base bytes ≡ behind h bytes
behind_is h bytes base is =
    ap (λ n. drop n bytes) is.place ∙ ap (drop (line_start bytes (counted h bytes))) (sym (pieces-concat _ bytes)) ∙ sym (rest-of (lines bytes) (suc (counted h bytes)))

-- ---- what is wrong with a number

module _ (h : Header) (bytes : List ℕ) (j : ℕ) where
  abbrev piece : List ℕ
  piece = piece_at (groups h bytes) j

  abbrev long : Bool
  long = nat_le 128 (slice_index piece 9)

  abbrev inside : Bool
  inside = nat_le (least j) (delta h bytes j) && nat_le (delta h bytes j) (greatest h bytes j)

  pub long_fault : long ≡ true → of_number h bytes j ≡ Some (fault Delta (group_start h bytes j))
  long_fault e = ap (λ b. otherwise (when b (fault Delta (group_start h bytes j))) (otherwise (when (not (is_ended ends_number piece)) (fault Truncated (length bytes))) (when (not inside) (fault Delta (group_start h bytes j))))) e

  behind-long : long ≡ false → of_number h bytes j ≡ otherwise (when (not (is_ended ends_number piece)) (fault Truncated (length bytes))) (when (not inside) (fault Delta (group_start h bytes j)))
  behind-long e = ap (λ b. otherwise (when b (fault Delta (group_start h bytes j))) (otherwise (when (not (is_ended ends_number piece)) (fault Truncated (length bytes))) (when (not inside) (fault Delta (group_start h bytes j))))) e

  pub cut_fault : long ≡ false → is_ended ends_number piece ≡ false → of_number h bytes j ≡ Some (fault Truncated (length bytes))
  cut_fault e f = behind-long e ∙ ap (λ b. otherwise (when (not b) (fault Truncated (length bytes))) (when (not inside) (fault Delta (group_start h bytes j)))) f

  behind-cut : long ≡ false → is_ended ends_number piece ≡ true → of_number h bytes j ≡ when (not inside) (fault Delta (group_start h bytes j))
  behind-cut e f = behind-long e ∙ ap (λ b. otherwise (when (not b) (fault Truncated (length bytes))) (when (not inside) (fault Delta (group_start h bytes j)))) f

  pub outside_fault : long ≡ false → is_ended ends_number piece ≡ true → inside ≡ false → of_number h bytes j ≡ Some (fault Delta (group_start h bytes j))
  outside_fault e f g = behind-cut e f ∙ ap (λ b. when (not b) (fault Delta (group_start h bytes j))) g

  pub number_clear : long ≡ false → is_ended ends_number piece ≡ true → inside ≡ true → of_number h bytes j ≡ None
  number_clear e f g = behind-cut e f ∙ ap (λ b. when (not b) (fault Delta (group_start h bytes j))) g

-- ---- how long a number is that is done by its tenth byte

inner : (ends : ℕ → Bool) (bytes : List ℕ) (i : ℕ) → suc i < length (piece_at (pieces ends bytes) 0) → ends (get_or (piece_at (pieces ends bytes) 0) i 0) ≡ false
inner ends [] i lt = absurd (omega arith)
inner ends (b ∷ bytes) i lt = step (ends b) (pieces ends bytes) refl (inner ends bytes) i lt
  where
    step : (x : Bool) (ps : List (List ℕ)) → ends b ≡ x → ((i : ℕ) → suc i < length (piece_at ps 0) → ends (get_or (piece_at ps 0) i 0) ≡ false) → (i : ℕ) → suc i < length (piece_at (grown x b ps) 0) → ends (get_or (piece_at (grown x b ps) 0) i 0) ≡ false
    step true ps is more i lt = absurd (omega arith)
    step false [] is more i lt = absurd (omega arith)
    step false (q ∷ qs) is more zero lt = is
    step false (q ∷ qs) is more (suc i) lt = more i (omega arith)

-- a number whose tenth byte does not go on has no more
pub short_group : (text : List ℕ) (j : ℕ) → nat_le 128 (slice_index (piece_at (pieces ends_number text) j) 9) ≡ false → length (piece_at (pieces ends_number text) j) ≤ 10
short_group text j e =
    let P : List ℕ → Type 0 = λ p. nat_le 128 (slice_index p 9) ≡ false → length p ≤ 10 in
    subst P (first-at ends_number text j (place (pieces ends_number text) j) refl) (first-short (drop (place (pieces ends_number text) j) text)) e
  where
    first-short : (bytes : List ℕ) → nat_le 128 (slice_index (piece_at (pieces ends_number bytes) 0) 9) ≡ false → length (piece_at (pieces ends_number bytes) 0) ≤ 10
    first-short bytes e = elim (cases_lt 10 (length (piece_at (pieces ends_number bytes) 0))) [
      | inl long ↦
          let high : ends_number (get_or (piece_at (pieces ends_number bytes) 0) 9 0) ≡ false = inner ends_number bytes 9 (omega arith) in
          let goes_on : nat_le 128 (get_or (piece_at (pieces ends_number bytes) 0) 9 0) ≡ true = le-leb _ _ (high-is _ high) in
          absurd (cc)
      | inr le ↦ le
    ]
      where
        high-is : (n : ℕ) → nat_lt n 128 ≡ false → 128 ≤ n
        high-is n e = elim (cases_lt n 128) [ inl lt ↦ let small : nat_lt n 128 ≡ true = lt-ltb n 128 lt in absurd (cc) | inr le ↦ le ]

-- ---- the value from the last byte on

pub value_step : (group : List ℕ) (i : ℕ) → i < length group → value_of (drop i group) ≡ get_or group i 0 % 128 + 128 * value_of (drop (i + 1) group)
value_step group i lt =
    let q : suc i ≡ i + 1 = omega arith in
    let cut : drop i group ≡ get_or group i 0 ∷ drop (suc i) group = rw (drop-cons group i 0) refl in
    ap value_of cut ∙ ap (λ n. get_or group i 0 % 128 + 128 * value_of (drop n group)) q

pub value_small : (group : List ℕ) → value_of group < 128 ^ length group
value_small [] = omega arith
value_small (b ∷ group) = omega (arith, value_small group, pow-succ' 128 (length group))

pub value_bound : (group : List ℕ) (n : ℕ) → length group ≤ n → value_of group < 128 ^ n
value_bound group n le = omega (arith, value_small group, pow-le-pow_right {n = 128} (omega arith) le)

-- ---- a number and its place

module _ (h : Header) (bytes : List ℕ) (base j at : ℕ) (rest : List ℕ) (is : IsBehind h bytes base) (number : IsNumberAt h bytes j at) (back : rest ≡ drop base bytes) where
  rest-is : rest ≡ behind h bytes
  rest-is = back ∙ behind_is h bytes base is

  pub group_place : at - base ≡ place (pieces ends_number rest) j
  group_place = omega (arith, number.place, is.place, ap (λ t. place (pieces ends_number t) j) rest-is)

  pub group_is : (group : List ℕ) → group ≡ piece_at (pieces ends_number rest) j → group ≡ piece_at (groups h bytes) j
  group_is group e = e ∙ ap (λ t. piece_at (pieces ends_number t) j) rest-is

  pub group_next : (group : List ℕ) → at - base + length group ≡ place (pieces ends_number rest) (suc j) → at - base + length group ≤ length rest → IsNumberAt h bytes (suc j) (at + length group)
  group_next group e within = record {
    place = omega (arith, e, number.place, is.place, ap (λ t. place (pieces ends_number t) (suc j)) rest-is);
    within = omega (arith, within, number.place, is.place, is.within, ap length back, length-drop base bytes);
  }

module _ (h : Header) (bytes : List ℕ) (j : ℕ) (group : List ℕ) (same : group ≡ piece_at (groups h bytes) j) where
  pub group_long : (b : Bool) → b ≡ nat_le 128 (slice_index group 9) → nat_le 128 (slice_index (piece_at (groups h bytes) j) 9) ≡ b
  group_long b e = ap (λ g. nat_le 128 (slice_index g 9)) (sym same) ∙ sym e

  pub group_ended : (b : Bool) → b ≡ is_ended ends_number group → is_ended ends_number (piece_at (groups h bytes) j) ≡ b
  group_ended b e = ap (is_ended ends_number) (sym same) ∙ sym e

  pub group_short : false ≡ nat_le 128 (slice_index group 9) → length group ≤ 10
  group_short e = omega (arith, short_group (behind h bytes) j (group_long false e), ap length same)

  pub group_value : value_of group ≡ delta h bytes j
  group_value = ap value_of same

  module _ (short : false ≡ nat_le 128 (slice_index group 9)) (done : true ≡ is_ended ends_number group) (value : ℕ) (is : value ≡ value_of group) where
    pub too_small : value < least j → of_number h bytes j ≡ Some (fault Delta (group_start h bytes j))
    too_small lt =
        let under : nat_le (least j) (delta h bytes j) ≡ false = lt-leb _ _ (omega (arith, lt, is, group_value)) in
        outside_fault h bytes j (group_long false short) (group_ended true done) (ap (λ b. b && nat_le (delta h bytes j) (greatest h bytes j)) under)

    pub too_large : least j ≤ value → greatest h bytes j < value → of_number h bytes j ≡ Some (fault Delta (group_start h bytes j))
    too_large le lt =
        let under : nat_le (least j) (delta h bytes j) ≡ true = le-leb _ _ (omega (arith, le, is, group_value)) in
        let over : nat_le (delta h bytes j) (greatest h bytes j) ≡ false = lt-leb _ _ (omega (arith, lt, is, group_value)) in
        outside_fault h bytes j (group_long false short) (group_ended true done) (ap (λ b. b && nat_le (delta h bytes j) (greatest h bytes j)) under ∙ over)

    pub just_right : least j ≤ value → value ≤ greatest h bytes j → of_number h bytes j ≡ None
    just_right low high =
        let under : nat_le (least j) (delta h bytes j) ≡ true = le-leb _ _ (omega (arith, low, is, group_value)) in
        let over : nat_le (delta h bytes j) (greatest h bytes j) ≡ true = le-leb _ _ (omega (arith, high, is, group_value)) in
        number_clear h bytes j (group_long false short) (group_ended true done) (ap (λ b. b && nat_le (delta h bytes j) (greatest h bytes j)) under ∙ over)

-- ---- one and more

pub gates_more : (h : Header) (bytes : List ℕ) (k : ℕ) (gates : List Gate) (lhs left right first second : ℕ) → gates ≡ map (binary_gate h bytes) (range_with_len 0 k) → lhs ≡ binary_lhs h k → first ≡ delta h bytes (2 * k) → second ≡ delta h bytes (2 * k + 1) → left ≡ lhs - first → right ≡ left - second → gates ++ (record { lhs = lhs; left = left; right = right }) ∷ [] ≡ map (binary_gate h bytes) (range_with_len 0 (k + 1))
gates_more h bytes k gates lhs left right first second are own one two l r =
    let mk : ℕ → ℕ → ℕ → Gate = λ a b c. record { lhs = a; left = b; right = c } in
    let lefts : left ≡ binary_lhs h k - delta h bytes (2 * k) = l ∙ ap (λ x. x - first) own ∙ ap (λ x. binary_lhs h k - x) one in
    let rights : right ≡ binary_lhs h k - delta h bytes (2 * k) - delta h bytes (2 * k + 1) = r ∙ ap (λ x. x - second) lefts ∙ ap (λ x. binary_lhs h k - delta h bytes (2 * k) - x) two in
    ap (λ x. gates ++ mk x left right ∷ []) own ∙ ap (λ x. gates ++ mk (binary_lhs h k) x right ∷ []) lefts ∙ ap (λ x. gates ++ mk (binary_lhs h k) (binary_lhs h k - delta h bytes (2 * k)) x ∷ []) rights
    ∙ ap (λ g. g ++ binary_gate h bytes k ∷ []) are ∙ sym (map-more k)
  where
    map-snoc : (xs : List ℕ) (x : ℕ) → map (binary_gate h bytes) (xs ++ x ∷ []) ≡ map (binary_gate h bytes) xs ++ binary_gate h bytes x ∷ []
    map-snoc [] x = refl
    map-snoc (y ∷ ys) x = ap (λ l. binary_gate h bytes y ∷ l) (map-snoc ys x)

    map-more : (k : ℕ) → map (binary_gate h bytes) (range_with_len 0 (k + 1)) ≡ map (binary_gate h bytes) (range_with_len 0 k) ++ binary_gate h bytes k ∷ []
    map-more k =
        let q : k + 1 ≡ suc k = omega arith in
        ap (λ n. map (binary_gate h bytes) (range_with_len 0 n)) q ∙ ap (map (binary_gate h bytes)) (sym (range-more 0 k k (omega arith))) ∙ map-snoc (range_with_len 0 k) k

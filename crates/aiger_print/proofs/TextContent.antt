-- The content of a printed text is that of the net, and what it uses is defined.
use Rattle.std.proofs.Common.{◌≡◌, ℕ, suc, ◌+◌, ◌-◌, ◌*◌, ◌/◌, ◌%◌, ◌^◌, ◌<◌, ◌≤◌, ◌⊎◌, Bool, true, false, cond, not, ◌||◌, nat_eq, inl, inr, refl, sym, ◌∙◌, ap, subst, arith, None, List, [], ◌∷◌, ◌++◌, map, flat_map, length, drop}
use Rattle.std.specs.Prelude.{slice_index, nat_le}
use Rattle.std.specs.List.{range_with_len, list_any, concat}
use Rattle.std.proofs.lemmas.Bool.{le-leb, eq-eqb, cases_lt, and_from, cases_Bool, ne_eqb}
use Rattle.aig_net.specs.declared.parts.NetParts.{NetParts}
use Rattle.aig_net.specs.declared.parts.Reset.{Reset}
use Rattle.aig_net.specs.declared.parts.Reset.TheVariants.{Zero, One, Free}
use Rattle.aig_net.specs.Nets.{IsNet, Below, variables, first_and, latch_variable, literal_at, reset_at, and_at}
use Rattle.aig_order.specs.declared.gate.Gate.{Gate}
use Rattle.aig_order.specs.Firsts.{when, first_some}
use Rattle.aig_order.specs.Gates.{Depends, depends}
use Rattle.aig_order.proofs.Cycles.{depends-right}
use Rattle.aig_kind.specs.declared.kind.AigKind.TheVariants.{Cycle}
use Rattle.aiger_body.specs.declared.header.Header.{Header}
use Rattle.aiger_body.specs.declared.content.Content.{Content}
use Rattle.aiger_body.specs.declared.content.Latch.{Latch}
use Rattle.aiger_body.specs.declared.section.Section.{Section}
use Rattle.aiger_body.specs.declared.section.Section.TheVariants.{Inputs, Latches, Outputs, Bads, Constraints, Sizes, Justices, Fairs, Gates}
use Rattle.aiger_body.specs.Texts.{pieces, piece_at, is_ended}
use Rattle.aiger_body.specs.Files.{number_in, before, plan, counted, line_start, row, section_rows, is_header, used, first_number, latch_of, gate_of, reset_of, content, binary_gate, binary_lhs, groups, delta, behind, tail, ends_number, value_of}
use Rattle.aiger_body.specs.Circuits.{is_defined}
use Rattle.aiger_body.specs.Outcomes.{fault, of_uses, of_cycle, of_number, numbers, is_undefined, least, greatest}
use Rattle.aiger_body.proofs.Groups.{number_clear}
use Rattle.aiger_body.proofs.Known.{none-first, use-clear, map-twice}
use Rattle.aiger_body.proofs.Pieces.{pieces-concat}
use Rattle.aiger_body.proofs.Sections.{line-of}
use Rattle.aiger_print.specs.Printed.{groups_of, reset_row, latch_row, deltas_of, names_text}
use Rattle.aiger_print.proofs.Stacks.{same_range, by_place}
use Rattle.aiger_print.proofs.Forms.{own_header, printed, plan_of, text_of}
use Rattle.aiger_print.proofs.OwnContent.{own_latch, own_gate, content_of, defined, acyclic}
use Rattle.aiger_print.proofs.OwnRows.{none-left}
use Rattle.aiger_print.proofs.Deltas.{first_delta, second_delta, groups_from, group_value, group_ended, group_done, all_pieces, first_group, second_group, behind_groups}
use Rattle.aiger_print.proofs.TextRows.{section_rows_are, row_is, behind_is}

reset-back : (own next : ℕ) (r : Reset) → 1 < own → reset_of (own ∷ next ∷ reset_row own r) ≡ r
reset-back own next Zero low = refl
reset-back own next One low = refl
reset-back own next Free low =
    ap (λ b. cond b Zero (cond (nat_eq own 1) One Free)) (ne_eqb own 0 (λ e. omega arith)) ∙ ap (λ b. cond b One Free) (ne_eqb own 1 (λ e. omega arith))

latch-back : (net : NetParts) (j : ℕ) → latch_of (latch_row false net j) ≡ own_latch net j
latch-back net j =
    let make : Reset → Latch = λ r. record { own = 2 * latch_variable net j; next = literal_at net.latches j; reset = r } in
    ap make (reset-back (2 * latch_variable net j) (literal_at net.latches j) (reset_at net.resets j) (omega arith))

-- a header whose counts fit
pub large_header : (b : Bool) (net : NetParts) → is_header (own_header b net) ≡ true
large_header true net = eq-eqb (net.inputs + length net.latches + length net.ands) _ refl
large_header false net = le-leb (net.inputs + length net.latches + length net.ands) _ (omega arith)

module _ (b : Bool) (net : NetParts) (is : IsNet net) (few : net.inputs + length net.latches + length net.ands ≤ 1048576) (bytes : List ℕ) (e : bytes ≡ text_of b net) (small : length bytes ≤ 67108864) where
  abbrev h : Header
  h = own_header b net

  rows-mapped : {A : Type 0} (f : List ℕ → A) (g : ℕ → A) (s : Section) (n : ℕ) → slice_index (plan_of b net) (number_in s) ≡ n → ((j : ℕ) → f (printed false net s j) ≡ g j) → map f (section_rows h bytes s) ≡ map g (range_with_len 0 n)
  rows-mapped f g s n many each =
      ap (map f) (section_rows_are b net is few bytes e small s)
      ∙ map-twice (printed false net s) f (range_with_len 0 (slice_index (plan_of b net) (number_in s)))
      ∙ ap (λ m. map (λ j. f (printed false net s j)) (range_with_len 0 m)) many
      ∙ same_range (λ j. f (printed false net s j)) g 0 0 n (λ j lt. each (0 + j))

  -- ---- the binary ands

  delta-small : (j : ℕ) → j < length net.ands → (first_delta net j < 128 ^ 4) × (second_delta net j < 128 ^ 4)
  delta-small j lt = let (l, r) = is.ordered j lt in (omega (arith, lt), omega (arith, l, lt))

  module _ (form : b ≡ true) where
    groups-are : groups h bytes ≡ groups_from net 0 (length net.ands) ++ pieces ends_number (names_text net)
    groups-are =
        ap (pieces ends_number) (behind_is b net is few bytes e small)
        ∙ ap (λ x. pieces ends_number (cond x (flat_map (deltas_of net) (range_with_len 0 (length net.ands))) [] ++ names_text net)) form
        ∙ all_pieces net delta-small 0 (length net.ands) (names_text net) (omega arith)

    piece-first : (j : ℕ) → j < length net.ands → piece_at (groups h bytes) (2 * j) ≡ groups_of 9 (first_delta net j)
    piece-first j lt =
        let q : 0 + j ≡ j = omega arith in
        ap (λ gs. piece_at gs (2 * j)) groups-are ∙ first_group net 0 (length net.ands) j _ lt ∙ ap (λ m. groups_of 9 (first_delta net m)) q

    piece-second : (j : ℕ) → j < length net.ands → piece_at (groups h bytes) (2 * j + 1) ≡ groups_of 9 (second_delta net j)
    piece-second j lt =
        let q : 0 + j ≡ j = omega arith in
        ap (λ gs. piece_at gs (2 * j + 1)) groups-are ∙ second_group net 0 (length net.ands) j _ lt ∙ ap (λ m. groups_of 9 (second_delta net m)) q

    delta-first : (j : ℕ) → j < length net.ands → delta h bytes (2 * j) ≡ first_delta net j
    delta-first j lt = ap value_of (piece-first j lt) ∙ group_value 9 (first_delta net j) (omega (arith, (delta-small j lt).0))

    delta-second : (j : ℕ) → j < length net.ands → delta h bytes (2 * j + 1) ≡ second_delta net j
    delta-second j lt = ap value_of (piece-second j lt) ∙ group_value 9 (second_delta net j) (omega (arith, (delta-small j lt).1))

    number-right : (j n : ℕ) → piece_at (groups h bytes) j ≡ groups_of 9 n → n < 128 ^ 4 → least j ≤ delta h bytes j → delta h bytes j ≤ greatest h bytes j → of_number h bytes j ≡ None
    number-right j n at lt low high_enough =
        number_clear h bytes j (ap (λ p. nat_le 128 (slice_index p 9)) at ∙ group_done n lt) (ap (is_ended ends_number) at ∙ group_ended 9 n (omega (arith, lt)))
        (and_from _ _ (le-leb _ _ low) (le-leb _ _ high_enough))

    even-right : (k : ℕ) → k < length net.ands → of_number h bytes (2 * k) ≡ None
    even-right k lt =
        let (l, r) = is.ordered k lt in
        let half : 2 * k / 2 ≡ k = omega arith in
        let even : 2 * k % 2 ≡ 0 = omega arith in
        let most : greatest h bytes (2 * k) ≡ binary_lhs h k - 0 * delta h bytes (2 * k - 1) = ap (λ m. binary_lhs h (2 * k / 2) - m * delta h bytes (2 * k - 1)) even ∙ ap (λ m. binary_lhs h m - 0 * delta h bytes (2 * k - 1)) half in
        number-right (2 * k) (first_delta net k) (piece-first k lt) (delta-small k lt).0 (omega (arith, delta-first k lt, even, l, lt)) (omega (arith, delta-first k lt, most))

    odd-right : (k : ℕ) → k < length net.ands → of_number h bytes (2 * k + 1) ≡ None
    odd-right k lt =
        let (l, r) = is.ordered k lt in
        let half : (2 * k + 1) / 2 ≡ k = omega arith in
        let odd : (2 * k + 1) % 2 ≡ 1 = omega arith in
        let last : 2 * k + 1 - 1 ≡ 2 * k = omega arith in
        let most : greatest h bytes (2 * k + 1) ≡ binary_lhs h k - 1 * delta h bytes (2 * k) =
        ap (λ m. binary_lhs h ((2 * k + 1) / 2) - m * delta h bytes (2 * k + 1 - 1)) odd ∙ ap (λ m. binary_lhs h m - 1 * delta h bytes (2 * k + 1 - 1)) half ∙ ap (λ m. binary_lhs h k - 1 * delta h bytes m) last in
        number-right (2 * k + 1) (second_delta net k) (piece-second k lt) (delta-small k lt).1 (omega (arith, odd)) (omega (arith, delta-second k lt, most, delta-first k lt, l, lt))

    number-none : (j : ℕ) → j < 2 * length net.ands → of_number h bytes j ≡ None
    number-none j lt = elim (cases_lt 0 (j % 2)) [
      | inl odd ↦ let q : j ≡ 2 * (j / 2) + 1 = omega arith in ap (of_number h bytes) q ∙ odd-right (j / 2) (omega arith)
      | inr even ↦ let q : j ≡ 2 * (j / 2) = omega arith in ap (of_number h bytes) q ∙ even-right (j / 2) (omega arith)
    ]

    binary-gates : map (binary_gate h bytes) (range_with_len 0 (length net.ands)) ≡ map (own_gate net) (range_with_len 0 (length net.ands))
    binary-gates = same_range (binary_gate h bytes) (own_gate net) 0 0 (length net.ands) (λ j lt. let q : 0 + j ≡ j = omega arith in ap (binary_gate h bytes) q ∙ gate-back j lt ∙ ap (own_gate net) (sym q))
      where
        gate-back : (j : ℕ) → j < length net.ands → binary_gate h bytes j ≡ own_gate net j
        gate-back j lt =
            let (l, r) = is.ordered j lt in
            let make : ℕ → ℕ → ℕ → Gate = λ x y z. record { lhs = x; left = y; right = z } in
            let lhs_same : binary_lhs h j ≡ 2 * (first_and net + j) = omega arith in
            let left_same : binary_lhs h j - delta h bytes (2 * j) ≡ (and_at net.ands j).left = omega (arith, delta-first j lt, l, lt) in
            let right_same : binary_lhs h j - delta h bytes (2 * j) - delta h bytes (2 * j + 1) ≡ (and_at net.ands j).right = omega (arith, delta-first j lt, delta-second j lt, l, is.turned j lt, lt) in
            ap (λ x. make x (binary_lhs h j - delta h bytes (2 * j)) (binary_lhs h j - delta h bytes (2 * j) - delta h bytes (2 * j + 1))) lhs_same
            ∙ ap (λ y. make (2 * (first_and net + j)) y (binary_lhs h j - delta h bytes (2 * j) - delta h bytes (2 * j + 1))) left_same
            ∙ ap (make (2 * (first_and net + j)) (and_at net.ands j).left) right_same

  pub numbers_clear : first_some (numbers h) (of_number h bytes) ≡ None
  numbers_clear = elim (cases_Bool b) [
    | inl form ↦ ap (λ x. first_some (cond x (2 * length net.ands) 0) (of_number h bytes)) form ∙ none-first h bytes (2 * length net.ands) (of_number h bytes) (number-none form)
    | inr form ↦ ap (λ x. first_some (cond x (2 * length net.ands) 0) (of_number h bytes)) form
  ]

  -- what stands behind the ands
  pub tail_is : tail h bytes ≡ names_text net
  tail_is = elim (cases_Bool b) [
    | inl form ↦
        ap (λ x. cond x (concat (drop (2 * length net.ands) (groups h bytes))) (behind h bytes)) form
        ∙ ap (λ gs. concat (drop (2 * length net.ands) gs)) (groups-are form)
        ∙ ap concat (behind_groups net 0 (length net.ands) (pieces ends_number (names_text net)))
        ∙ pieces-concat ends_number (names_text net)
    | inr form ↦
        ap (λ x. cond x (concat (drop (2 * length net.ands) (groups h bytes))) (behind h bytes)) form
        ∙ behind_is b net is few bytes e small
        ∙ ap (λ x. cond x (flat_map (deltas_of net) (range_with_len 0 (length net.ands))) [] ++ names_text net) form
  ]

  -- ---- the content

  inputs-are : (content h bytes).inputs ≡ (content_of net).inputs
  inputs-are = elim (cases_Bool b) [
    | inl form ↦ ap (λ x. cond x (map (λ k. 2 * k) (range_with_len 1 net.inputs)) (map first_number (section_rows h bytes Inputs))) form ∙ same_range (λ k. 2 * k) (λ j. 2 * suc j) 1 0 net.inputs (λ j lt. omega arith)
    | inr form ↦ ap (λ x. cond x (map (λ k. 2 * k) (range_with_len 1 net.inputs)) (map first_number (section_rows h bytes Inputs))) form ∙ rows-mapped first_number (λ j. 2 * suc j) Inputs net.inputs (ap (λ x. cond x 0 net.inputs) form) (λ j. refl)
  ]

  gates-are : (content h bytes).gates ≡ (content_of net).gates
  gates-are = elim (cases_Bool b) [
    | inl form ↦ ap (λ x. cond x (map (binary_gate h bytes) (range_with_len 0 (length net.ands))) (map gate_of (section_rows h bytes Gates))) form ∙ binary-gates form
    | inr form ↦ ap (λ x. cond x (map (binary_gate h bytes) (range_with_len 0 (length net.ands))) (map gate_of (section_rows h bytes Gates))) form ∙ rows-mapped gate_of (own_gate net) Gates (length net.ands) (ap (λ x. cond x 0 (length net.ands)) form) (λ j. refl)
  ]

  pub content_is : content h bytes ≡ content_of net
  content_is =
      let make : List ℕ → List Latch → List ℕ → List ℕ → List ℕ → List Gate → Content = λ i l o d f g. record { inputs = i; latches = l; outputs = o; constraints = d; justice = 0; fairs = f; gates = g } in
      ap (λ i. make i (content h bytes).latches (content h bytes).outputs (content h bytes).constraints (content h bytes).fairs (content h bytes).gates) inputs-are
      ∙ ap (λ l. make (content_of net).inputs l (content h bytes).outputs (content h bytes).constraints (content h bytes).fairs (content h bytes).gates) (rows-mapped latch_of (own_latch net) Latches (length net.latches) refl (latch-back net))
      ∙ ap (λ o. make (content_of net).inputs (content_of net).latches o (content h bytes).constraints (content h bytes).fairs (content h bytes).gates) (rows-mapped first_number (literal_at net.outputs) Outputs (length net.outputs) refl (λ j. refl) ∙ by_place net.outputs)
      ∙ ap (λ d. make (content_of net).inputs (content_of net).latches net.outputs d (content h bytes).fairs (content h bytes).gates) (rows-mapped first_number (literal_at net.constraints) Constraints (length net.constraints) refl (λ j. refl) ∙ by_place net.constraints)
      ∙ ap (λ f. make (content_of net).inputs (content_of net).latches net.outputs net.constraints f (content h bytes).gates) (rows-mapped first_number (literal_at net.fairs) Fairs (length net.fairs) refl (λ j. refl) ∙ by_place net.fairs)
      ∙ ap (make (content_of net).inputs (content_of net).latches net.outputs net.constraints net.fairs) gates-are

  -- ---- what is used, and cycles

  known : (l : ℕ) → Below (variables net) l → is_undefined h bytes l ≡ false
  known l lt = ap not (ap (λ (c : Content). is_defined c l) content_is ∙ defined net is l lt)

  one-known : (l : ℕ) → Below (variables net) l → list_any (is_undefined h bytes) (l ∷ []) ≡ false
  one-known l lt = ap (λ x. x || false) (known l lt)

  used-known : (s : Section) (j : ℕ) → j < slice_index (plan_of b net) (number_in s) → list_any (is_undefined h bytes) (used s (printed false net s j)) ≡ false
  used-known Inputs j lt = refl
  used-known Latches j lt = one-known _ (is.latches j lt)
  used-known Outputs j lt = one-known _ (is.outputs j lt)
  used-known Bads j lt = refl
  used-known Constraints j lt = one-known _ (is.constraints j lt)
  used-known Sizes j lt = refl
  used-known Justices j lt = refl
  used-known Fairs j lt = one-known _ (is.fairs j lt)
  used-known Gates j lt =
      let less = none-left b (length net.ands) j lt in
      let (l, r) = is.ordered j less in
      ap (λ x. x || list_any (is_undefined h bytes) ((and_at net.ands j).right ∷ [])) (known (and_at net.ands j).left (omega (arith, l, less))) ∙ one-known (and_at net.ands j).right (omega (arith, r, less))

  pub uses_clear : first_some (counted h bytes) (of_uses h bytes) ≡ None
  uses_clear = none-first h bytes (counted h bytes) (of_uses h bytes) (λ k lt.
      let of = line-of h bytes k lt in
      use-clear h bytes k (ap (λ t. list_any (is_undefined h bytes) (used t (row h bytes k))) of.is ∙ ap (λ n. list_any (is_undefined h bytes) (used of.s (row h bytes n))) of.place ∙ ap (λ r. list_any (is_undefined h bytes) (used of.s r)) (row_is b net is few bytes e small of.s of.j of.small) ∙ used-known of.s of.j of.small))

  pub cycles_clear : first_some (length (content h bytes).gates) (of_cycle h bytes) ≡ None
  cycles_clear = none-first h bytes (length (content h bytes).gates) (of_cycle h bytes) (λ k lt. ap (λ x. when x (fault Cycle (line_start bytes (before (plan h bytes) Gates + k)))) (free k lt (cases_Bool (depends (content h bytes).gates (length (content h bytes).gates) k k))))
    where
      free : (k : ℕ) → k < length (content h bytes).gates → (depends (content h bytes).gates (length (content h bytes).gates) k k ≡ true) ⊎ (depends (content h bytes).gates (length (content h bytes).gates) k k ≡ false) → depends (content h bytes).gates (length (content h bytes).gates) k k ≡ false
      free k lt (inr no_round) = no_round
      free k lt (inl round) =
          let P : Content → Type 0 = λ c. k < length c.gates → ¬ Depends c.gates k k in
          absurd (subst P (sym content_is) (acyclic net is k) lt ((depends-right (content h bytes).gates k k lt lt).1 round))

-- The ands of a text without a fault define variables apart, and depend on none but each other.
use Rattle.std.proofs.Common.{◌≡◌, ℕ, suc, ◌+◌, ◌*◌, ◌/◌, ◌<◌, ◌≤◌, ◌⊎◌, true, false, cond, not, ◌&&◌, nat_eq, inl, inr, refl, sym, ◌∙◌, ap, subst, arith, Some, None, List, [], ◌∷◌, map, length, drop}
use Rattle.std.specs.Prelude.{nat_le, slice_index}
use Rattle.std.specs.List.{range_with_len, list_any, concat}
use Rattle.std.proofs.lemmas.Bool.{cases_eq, cases_lt, eq-eqb, eqb-true, leb-true, and_parts, or_left, cases_Bool, or_parts}
use Rattle.std.proofs.lemmas.List.{length-map, get_or-map, drop-drop}
use Rattle.aig_kind.specs.declared.kind.AigKind.TheVariants.{Cycle}
use Rattle.aiger_body.specs.declared.header.Header.{Header}
use Rattle.aiger_body.specs.declared.section.Section.TheVariants.{Inputs, Gates}
use Rattle.aig_order.specs.declared.gate.Gate.{Gate}
use Rattle.aiger_body.specs.declared.content.Content.{Content}
use Rattle.aig_order.specs.Firsts.{when, first_some, holds}
use Rattle.aiger_body.specs.Texts.{place}
use Rattle.aiger_body.specs.Files.{number_in, before, plan, counted, section, section_rows, row, is_right, is_literal, is_plain, is_gate, is_header, defined, defined_before, first_number, gate_of, binary_gate, content, line_start, behind, groups}
use Rattle.aig_order.specs.Gates.{gate_at, no_gate, order, IsComplete, Depends, depends}
use Rattle.aiger_body.specs.Outcomes.{of_line, of_cycle, fault}
use Rattle.aiger_body.specs.Answers.{Fits}
use Rattle.aig_order.specs.Takings.{AreApart}
use Rattle.aiger_body.specs.Deltas.{IsBehind, IsNumberAt}
use Rattle.aiger_body.specs.Passes.{line_content}
use Rattle.aiger_body.specs.Bodies.{IsTail, IsWhole}
use Rattle.aig_order.proofs.Firsts.{some-any, when-none, none-both, first-more, first-here}
use Rattle.aiger_body.proofs.Sections.{in-section}
use Rattle.aiger_body.proofs.Known.{row-of, long, line-clear, line-right, none-first, gate-at, gates-long}
use Rattle.aig_order.proofs.Cycles.{depends-right}
use Rattle.aig_order.proofs.Orders.{taken-order, cyclic-absent}
use Rattle.aig_order.proofs.AllTaken.{full}
use Rattle.aig_order.proofs.LawLemmas.{complete}
use Rattle.aiger_body.proofs.Groups.{behind_is, rest-of}
use Rattle.aiger_body.proofs.Pieces.{pieces-concat}

module _ (h : Header) (bytes : List ℕ) (fits : Fits h) (clear : first_some (counted h bytes) (of_line h bytes) ≡ None) where
  abbrev gates : List Gate
  gates = (content h bytes).gates

  -- ---- the ASCII form

  module _ (form : h.binary ≡ false) where
    gates-are : gates ≡ map gate_of (section_rows h bytes Gates)
    gates-are = ap (λ b. cond b (map (λ k. binary_gate h bytes k) (range_with_len 0 h.ands)) (map gate_of (section_rows h bytes Gates))) form

    abbrev at : ℕ → ℕ
    at k = before (plan h bytes) Gates + k

    many : length gates ≡ slice_index (plan h bytes) (number_in Gates)
    many = ap length gates-are ∙ length-map (section_rows h bytes Gates) gate_of ∙ long h bytes Gates

    gate-is : (k : ℕ) → k < length gates → gate_at gates k ≡ gate_of (row h bytes (at k))
    gate-is k lt =
        ap (λ gs. gate_at gs k) gates-are ∙ get_or-map gate_of (section_rows h bytes Gates) k [] no_gate (omega (arith, lt, many, long h bytes Gates)) ∙ ap gate_of (row-of h bytes Gates k (omega (arith, lt, many)))

    gate-right : (k : ℕ) → k < length gates → is_gate h (row h bytes (at k)) ≡ true
    gate-right k lt =
        let (of, small) = in-section (plan h bytes) Gates k refl (omega (arith, lt, many)) in
        ap (λ s. is_right h s (row h bytes (at k))) (sym of) ∙ line-right h bytes clear (at k) small

    lows : (r : List ℕ) → is_gate h r ≡ true → (slice_index r 0 / 2 ≤ h.top) × (slice_index r 1 / 2 ≤ h.top) × (slice_index r 2 / 2 ≤ h.top)
    lows [] e = absurd (cc)
    lows (l ∷ []) e = absurd (cc)
    lows (l ∷ a ∷ []) e = absurd (cc)
    lows (l ∷ a ∷ b ∷ []) e =
        let both = and_parts (is_plain h l) _ e in
        let rest = and_parts (is_literal h a) _ both.1 in
        (omega (arith, leb-true l (2 * h.top + 1) (and_parts (is_literal h l) _ both.0).0), omega (arith, leb-true a (2 * h.top + 1) rest.0), omega (arith, leb-true b (2 * h.top + 1) rest.1))
    lows (l ∷ a ∷ b ∷ c ∷ r) e = absurd (cc)

    -- a variable that is defined again would be a fault
    fresh : (j : ℕ) → j < length gates → defined_before h bytes (at j) ((gate_at gates j).lhs / 2) ≡ false
    fresh j lt =
        let (of, small) = in-section (plan h bytes) Gates j refl (omega (arith, lt, many)) in
        let none = (none-both _ _ (none-both _ _ (line-clear h bytes clear (at j) small)).1).1 in
        let again : (not h.binary && list_any (defined_before h bytes (at j)) (defined (section h bytes (at j)) (row h bytes (at j)))) ≡ false = when-none _ _ none in
        let here : list_any (defined_before h bytes (at j)) (defined (section h bytes (at j)) (row h bytes (at j))) ≡ false = sym (ap (λ b. not b && list_any (defined_before h bytes (at j)) (defined (section h bytes (at j)) (row h bytes (at j)))) form) ∙ again in
        let one : list_any (defined_before h bytes (at j)) (defined Gates (row h bytes (at j))) ≡ false = ap (λ s. list_any (defined_before h bytes (at j)) (defined s (row h bytes (at j)))) (sym of) ∙ here in
        ap (λ (g : Gate). defined_before h bytes (at j) (g.lhs / 2)) (gate-is j lt) ∙ (or_parts _ false one).0

    defines : (k j : ℕ) → k < j → j < length gates → (gate_at gates k).lhs / 2 ≡ (gate_at gates j).lhs / 2 → ⊥
    defines k j less lt same =
        let inside : k < length gates = omega arith in
        let (of, small) = in-section (plan h bytes) Gates k refl (omega (arith, inside, many)) in
        let value : (gate_at gates j).lhs / 2 ≡ first_number (row h bytes (at k)) / 2 = sym same ∙ ap (λ (g : Gate). g.lhs / 2) (gate-is k inside) in
        let here : holds ((gate_at gates j).lhs / 2) (defined (section h bytes (at k)) (row h bytes (at k))) ≡ true = ap (λ s. holds ((gate_at gates j).lhs / 2) (defined s (row h bytes (at k)))) of ∙ or_left _ _ (eq-eqb _ _ value) in
        let found : defined_before h bytes (at j) ((gate_at gates j).lhs / 2) ≡ true = some-any (at j) (λ i. holds ((gate_at gates j).lhs / 2) (defined (section h bytes i) (row h bytes i))) (at k) (omega arith) here in
        let no_one = fresh j lt in
        absurd (cc)

    ascii-apart : AreApart gates h.top
    ascii-apart = record {
      own = λ k lt. omega (arith, ap (λ (g : Gate). g.lhs) (gate-is k lt), (lows _ (gate-right k lt)).0);
      left = λ k lt. omega (arith, ap (λ (g : Gate). g.left) (gate-is k lt), (lows _ (gate-right k lt)).1);
      right = λ k lt. omega (arith, ap (λ (g : Gate). g.right) (gate-is k lt), (lows _ (gate-right k lt)).2);
      apart = λ k j lt inside same. elim (cases_eq k j) [
        | inl is ↦ is
        | inr other ↦ elim (cases_lt k j) [ inl less ↦ absurd (defines k j less inside same) | inr le ↦ absurd (defines j k (omega arith) lt (sym same)) ]
      ];
    }

  -- ---- the binary form

  module _ (form : h.binary ≡ true) (large : is_header h ≡ true) where
    top-is : h.top ≡ h.inputs + h.latches + h.ands
    top-is = eqb-true _ _ (sym (ap (λ b. cond b (nat_eq h.top (h.inputs + h.latches + h.ands)) (nat_le (h.inputs + h.latches + h.ands) h.top)) form) ∙ large)

    binary-apart : AreApart gates h.top
    binary-apart = record {
      own = λ k lt. omega (arith, ap (λ (g : Gate). g.lhs) (is k lt), top-is, lt, gates-long h bytes form);
      left = λ k lt. omega (arith, ap (λ (g : Gate). g.left) (is k lt), top-is, lt, gates-long h bytes form);
      right = λ k lt. omega (arith, ap (λ (g : Gate). g.right) (is k lt), top-is, lt, gates-long h bytes form);
      apart = λ k j lt inside same. omega (arith, same, ap (λ (g : Gate). g.lhs) (is k lt), ap (λ (g : Gate). g.lhs) (is j inside));
    }
      where
        is : (k : ℕ) → k < length gates → gate_at gates k ≡ binary_gate h bytes k
        is k lt = gate-at h bytes form k (omega (arith, lt, gates-long h bytes form))

  pub apart : is_header h ≡ true → AreApart gates h.top
  apart large = elim (cases_Bool h.binary) [ inl form ↦ binary-apart form large | inr form ↦ ascii-apart form ]

  pub few : length gates ≤ 1048576
  few = elim (cases_Bool h.binary) [
    | inl form ↦ omega (arith, gates-long h bytes form, fits.sum, fits.top)
    | inr form ↦
        let ands : slice_index (plan h bytes) (number_in Gates) ≡ h.ands = ap (λ b. cond b 0 h.ands) form in
        omega (arith, many form, ands, fits.sum, fits.top)
  ]

-- ---- cycles

module _ (h : Header) (bytes : List ℕ) where
  abbrev ands : List Gate
  ands = (content h bytes).gates

  pub none_cyclic : ((k : ℕ) → k < length ands → ¬ Depends ands k k) → first_some (length ands) (of_cycle h bytes) ≡ None
  none_cyclic none = none-first h bytes (length ands) (of_cycle h bytes) (λ k lt. ap (λ b. when b (fault Cycle (line_start bytes (before (plan h bytes) Gates + k)))) (free k lt (cases_Bool (depends ands (length ands) k k))))
    where
      free : (k : ℕ) → k < length ands → (depends ands (length ands) k k ≡ true) ⊎ (depends ands (length ands) k k ≡ false) → depends ands (length ands) k k ≡ false
      free k lt (inl round) = absurd (none k lt ((depends-right ands k k lt lt).1 round))
      free k lt (inr other) = other

  -- all ands are taken
  pub whole_long : (list : List ℕ) → list ≡ order ands → length list ≡ length ands → IsWhole h bytes list
  whole_long list same many =
      let good = taken-order ands (length ands) in
      let full_many : length (order ands) ≡ length ands = ap length (sym same) ∙ many in
      let all : IsComplete ands (order ands) = λ k lt. found k lt full_many (cases_Bool (holds k (order ands))) in
      record {
        same = same;
        all = (let P : List ℕ → Type 0 = λ l. IsComplete ands l in subst P (sym same) all);
        clear = none_cyclic (λ k lt round. cyclic-absent ands (order ands) good k round (all k lt));
      }
    where
      found : (k : ℕ) → k < length ands → length (order ands) ≡ length ands → (holds k (order ands) ≡ true) ⊎ (holds k (order ands) ≡ false) → holds k (order ands) ≡ true
      found k lt long (inl there) = there
      found k lt long (inr missing) = absurd (full ands (order ands) (taken-order ands (length ands)) long k lt missing)

  -- none depends on itself
  pub whole_none : (list : List ℕ) → list ≡ order ands → ((k : ℕ) → k < length ands → ¬ Depends ands k k) → IsWhole h bytes list
  whole_none list same none = record {
    same = same;
    all = (let P : List ℕ → Type 0 = λ l. IsComplete ands l in subst P (sym same) (complete ands none));
    clear = none_cyclic none;
  }

  -- the first that does
  pub cycle_found : (k : ℕ) → k < length ands → Depends ands k k → ((j : ℕ) → j < k → ¬ Depends ands j j) → first_some (length ands) (of_cycle h bytes) ≡ Some (fault Cycle (line_start bytes (before (plan h bytes) Gates + k)))
  cycle_found k lt round none =
      let here : of_cycle h bytes k ≡ Some (fault Cycle (line_start bytes (before (plan h bytes) Gates + k))) = ap (λ b. when b (fault Cycle (line_start bytes (before (plan h bytes) Gates + k)))) ((depends-right ands k k lt lt).0 round) in
      let earlier : first_some k (of_cycle h bytes) ≡ None = none-first h bytes k (of_cycle h bytes) (λ j less. ap (λ b. when b (fault Cycle (line_start bytes (before (plan h bytes) Gates + j)))) (free j less (cases_Bool (depends ands (length ands) j j)))) in
      first-more (of_cycle h bytes) (suc k) (length ands) _ (omega arith) (first-here (of_cycle h bytes) k earlier ∙ here)
    where
      free : (j : ℕ) → j < k → (depends ands (length ands) j j ≡ true) ⊎ (depends ands (length ands) j j ≡ false) → depends ands (length ands) j j ≡ false
      free j less (inl again) = absurd (none j less ((depends-right ands j j (omega arith) (omega arith)).1 again))
      free j less (inr other) = other

-- ---- where the symbols begin

pub ascii_tail : (h : Header) (bytes : List ℕ) (base : ℕ) → h.binary ≡ false → IsBehind h bytes base → IsTail h bytes base
ascii_tail h bytes base form is = record { within = is.within; rest = behind_is h bytes base is ∙ sym (ap (λ b. cond b (concat (drop (2 * h.ands) (groups h bytes))) (behind h bytes)) form) }

pub binary_tail : (h : Header) (bytes : List ℕ) (base at : ℕ) → h.binary ≡ true → IsBehind h bytes base → IsNumberAt h bytes (2 * h.ands) at → IsTail h bytes at
binary_tail h bytes base at form is number =
    let sum : at ≡ base + place (groups h bytes) (2 * h.ands) = omega (arith, number.place, is.place) in
    record {
      within = number.within;
      rest =
          ap (λ n. drop n bytes) sum ∙ sym (drop-drop (place (groups h bytes) (2 * h.ands)) base bytes) ∙ ap (drop (place (groups h bytes) (2 * h.ands))) (behind_is h bytes base is ∙ sym (pieces-concat _ (behind h bytes)))
          ∙ sym (rest-of (groups h bytes) (2 * h.ands)) ∙ sym (ap (λ b. cond b (concat (drop (2 * h.ands) (groups h bytes))) (behind h bytes)) form);
    }

-- ---- the content

abbrev with : Header → List ℕ → List ℕ → List Gate → Content
with h bytes is gs = record (line_content h bytes) { inputs = is; gates = gs }

pub ascii_content : (h : Header) (bytes : List ℕ) → h.binary ≡ false → line_content h bytes ≡ content h bytes
ascii_content h bytes form =
    ap (λ is. with h bytes is (map gate_of (section_rows h bytes Gates))) (sym (ap (λ b. cond b (map (λ k. 2 * k) (range_with_len 1 h.inputs)) (map first_number (section_rows h bytes Inputs))) form))
    ∙ ap (with h bytes (content h bytes).inputs) (sym (ap (λ b. cond b (map (λ k. binary_gate h bytes k) (range_with_len 0 h.ands)) (map gate_of (section_rows h bytes Gates))) form))

pub binary_content : (h : Header) (bytes : List ℕ) (c : Content) (is : List ℕ) (gs : List Gate) → h.binary ≡ true → c ≡ line_content h bytes → is ≡ map (λ k. 2 * k) (range_with_len 1 h.inputs) → gs ≡ map (binary_gate h bytes) (range_with_len 0 h.ands) → record c { inputs = is; gates = gs } ≡ content h bytes
binary_content h bytes c is gs form same one two =
    ap (λ (d : Content). record d { inputs = is; gates = gs }) same
    ∙ ap (λ l. with h bytes l gs) (one ∙ sym (ap (λ b. cond b (map (λ k. 2 * k) (range_with_len 1 h.inputs)) (map first_number (section_rows h bytes Inputs))) form))
    ∙ ap (with h bytes (content h bytes).inputs) (two ∙ sym (ap (λ b. cond b (map (λ k. binary_gate h bytes k) (range_with_len 0 h.ands)) (map gate_of (section_rows h bytes Gates))) form))

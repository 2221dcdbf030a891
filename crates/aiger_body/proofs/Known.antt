-- Which variables are defined, by the marks and by the content.
use Rattle.std.proofs.Common.{◌≡◌, ℕ, zero, suc, ◌+◌, ◌-◌, ◌*◌, ◌/◌, ◌<◌, ◌≤◌, Bool, true, false, cond, not, ◌||◌, nat_eq, inl, inr, refl, sym, ◌∙◌, ap, subst, arith, Option, Some, None, List, [], ◌∷◌, ◌++◌, map, length, get_or, take, drop, length-append}
use Rattle.std.specs.Prelude.{nat_le, slice_index, slice_index_or, sum}
use Rattle.std.specs.List.{range_with_len, list_any}
use Rattle.std.proofs.lemmas.Bool.{cases_eq, cases_lt, eq-eqb, eqb-true, leb-true, and_parts, or_left, or_right, or_cases, not-false}
use Rattle.std.proofs.lemmas.List.{length-map, get_or-map, get_or_append_left, get_or-append-add, map-append}
use Rattle.std.proofs.lemmas.List.FromFn.{length-map-range_with_len, get_or-map-range_with_len}
use Rattle.hy_base.proofs.Truths.{same-truth}
use Rattle.aig_kind.specs.declared.kind.AigKind.TheVariants.{Undefined}
use Rattle.aiger_body.specs.declared.header.Header.{Header}
use Rattle.aiger_body.specs.declared.section.Section.{Section}
use Rattle.aiger_body.specs.declared.section.Section.TheVariants.{Inputs, Latches, Outputs, Bads, Constraints, Sizes, Justices, Fairs, Gates}
use Rattle.aig_order.specs.declared.gate.Gate.{Gate}
use Rattle.aiger_body.specs.declared.lines.Lines.{Lines}
use Rattle.aig_order.specs.Firsts.{when, otherwise, first_some, holds}
use Rattle.aiger_body.specs.Files.{number_in, before, plan, counted, rows, with_own, section, section_rows, row, is_right, is_latch, is_use, is_gate, is_literal, is_plain, is_header, used, defined, defined_before, first_number, gate_of, latch_of, own_literal, binary_gate, content, own_variables, variables_of, line_start}
use Rattle.aig_order.specs.Gates.{gate_at, no_gate}
use Rattle.aiger_body.specs.Circuits.{is_defined}
use Rattle.aiger_body.specs.Outcomes.{of_line, of_uses, is_undefined, fault}
use Rattle.aiger_body.specs.Passes.{AllRead}
use Rattle.aiger_body.specs.Uses.{is_marked, AreKnown}
use Rattle.aig_order.proofs.Firsts.{none-both, when-none, first-none, any-some, some-any, place-holds, holds-place, holds-left, holds-right, holds-append}
use Rattle.aiger_body.proofs.Sections.{in-section, line-of}

pub map-twice : {A B : Type 0} {C : Type 0} (f : A → B) (g : B → C) (xs : List A) → map g (map f xs) ≡ map (λ x. g (f x)) xs
map-twice f g [] = refl
map-twice f g (x ∷ xs) = ap (λ l. g (f x) ∷ l) (map-twice f g xs)

-- ---- the literals that a right line uses

module _ (h : Header) where
  below-top : (l : ℕ) → is_literal h l ≡ true → l / 2 ≤ h.top
  below-top l e = omega (arith, leb-true l (2 * h.top + 1) e)

  abbrev AllLow : List ℕ → Type 0
  AllLow ls = (i : ℕ) → get_or ls i 0 / 2 ≤ h.top

  none-low : AllLow []
  none-low i = omega arith

  more-low : (l : ℕ) (ls : List ℕ) → is_literal h l ≡ true → AllLow ls → AllLow (l ∷ ls)
  more-low l ls e low zero = below-top l e
  more-low l ls e low (suc i) = low i

  latch-low : (r : List ℕ) → is_latch h r ≡ true → AllLow (take 1 (drop 1 r))
  latch-low [] e = absurd (cc)
  latch-low (l ∷ []) e = absurd (cc)
  latch-low (l ∷ n ∷ []) e = more-low n [] (and_parts (is_plain h l) _ e).1 none-low
  latch-low (l ∷ n ∷ r ∷ []) e = more-low n [] (and_parts (is_literal h n) _ (and_parts (is_plain h l) _ e).1).0 none-low
  latch-low (l ∷ n ∷ r ∷ s ∷ t) e = absurd (cc)

  use-low : (r : List ℕ) → is_use h r ≡ true → AllLow r
  use-low [] e = absurd (cc)
  use-low (l ∷ []) e = more-low l [] e none-low
  use-low (l ∷ m ∷ r) e = absurd (cc)

  gate-low : (r : List ℕ) → is_gate h r ≡ true → AllLow (drop 1 r)
  gate-low [] e = absurd (cc)
  gate-low (l ∷ []) e = absurd (cc)
  gate-low (l ∷ a ∷ []) e = absurd (cc)
  gate-low (l ∷ a ∷ b ∷ []) e =
      let rest = and_parts (is_literal h a) _ (and_parts (is_plain h l) _ e).1 in
      more-low a (b ∷ []) rest.0 (more-low b [] rest.1 none-low)
  gate-low (l ∷ a ∷ b ∷ c ∷ r) e = absurd (cc)

  pub used-low : (s : Section) (r : List ℕ) → is_right h s r ≡ true → AllLow (used s r)
  used-low Inputs r e = none-low
  used-low Latches r e = latch-low r e
  used-low Outputs r e = use-low r e
  used-low Bads r e = use-low r e
  used-low Constraints r e = use-low r e
  used-low Sizes r e = none-low
  used-low Justices r e = use-low r e
  used-low Fairs r e = use-low r e
  used-low Gates r e = gate-low r e

any-same : (f g : ℕ → Bool) (xs : List ℕ) → ((i : ℕ) → i < length xs → f (get_or xs i 0) ≡ g (get_or xs i 0)) → list_any f xs ≡ list_any g xs
any-same f g [] same = refl
any-same f g (x ∷ xs) same = ap (λ b. b || list_any f xs) (same 0 (omega arith)) ∙ ap (λ b. g x || b) (any-same f g xs (λ i lt. same (suc i) (omega arith)))

any-none : (f : ℕ → Bool) (xs : List ℕ) → ((i : ℕ) → i < length xs → f (get_or xs i 0) ≡ false) → list_any f xs ≡ false
any-none f [] no_one = refl
any-none f (x ∷ xs) no_one = ap (λ b. b || list_any f xs) (no_one 0 (omega arith)) ∙ any-none f xs (λ i lt. no_one (suc i) (omega arith))

module _ (h : Header) (bytes : List ℕ) where
  pub row-of : (s : Section) (j : ℕ) → j < slice_index (plan h bytes) (number_in s) → get_or (section_rows h bytes s) j [] ≡ row h bytes (before (plan h bytes) s + j)
  row-of s j lt = get_or-map-range_with_len (row h bytes) (before (plan h bytes) s) (slice_index (plan h bytes) (number_in s)) j (before (plan h bytes) s + j) [] lt refl

  pub long : (s : Section) → length (section_rows h bytes s) ≡ slice_index (plan h bytes) (number_in s)
  long s = length-map-range_with_len (row h bytes) (before (plan h bytes) s) (slice_index (plan h bytes) (number_in s))

  module _ (form : h.binary ≡ true) where
    pub inputs-are : (content h bytes).inputs ≡ map (λ k. 2 * k) (range_with_len 1 h.inputs)
    inputs-are = ap (λ b. cond b (map (λ k. 2 * k) (range_with_len 1 h.inputs)) (map first_number (section_rows h bytes Inputs))) form

    pub gates-are : (content h bytes).gates ≡ map (λ k. binary_gate h bytes k) (range_with_len 0 h.ands)
    gates-are = ap (λ b. cond b (map (λ k. binary_gate h bytes k) (range_with_len 0 h.ands)) (map gate_of (section_rows h bytes Gates))) form

    pub inputs-long : length (content h bytes).inputs ≡ h.inputs
    inputs-long = ap length inputs-are ∙ length-map-range_with_len (λ k. 2 * k) 1 h.inputs

    input-at : (v : ℕ) → 0 < v → v ≤ h.inputs → get_or (content h bytes).inputs (v - 1) 0 ≡ 2 * v
    input-at v low high = ap (λ l. get_or l (v - 1) 0) inputs-are ∙ get_or-map-range_with_len (λ k. 2 * k) 1 h.inputs (v - 1) v 0 (omega arith) (omega arith)

    latch-first : (j : ℕ) → j < h.latches → first_number (row h bytes (before (plan h bytes) Latches + j)) ≡ 2 * (1 + h.inputs + j)
    latch-first j lt =
        let (is, inside) = in-section (plan h bytes) Latches j refl lt in
        let none : before (plan h bytes) Latches ≡ 0 = ap (λ b. sum ((cond b 0 h.inputs) ∷ [])) form in
        let raw = slice_index_or (rows bytes) (before (plan h bytes) Latches + j) [] in
        ap (λ s. first_number (with_own h (before (plan h bytes) Latches + j) s raw)) is
        ∙ ap (λ b. first_number (cond b (2 * (1 + h.inputs + (before (plan h bytes) Latches + j)) ∷ raw) raw)) form
        ∙ (omega (arith, none))

    latch-at : (j : ℕ) → j < h.latches → get_or (map own_literal (content h bytes).latches) j 0 ≡ 2 * (1 + h.inputs + j)
    latch-at j lt = ap (λ l. get_or l j 0) (map-twice latch_of own_literal (section_rows h bytes Latches)) ∙ get_or-map first_number (section_rows h bytes Latches) j [] 0 (omega (arith, lt, long Latches)) ∙ ap first_number (row-of Latches j lt) ∙ latch-first j lt

    abbrev literals_own : List ℕ
    literals_own = (content h bytes).inputs ++ map own_literal (content h bytes).latches

    own-long : length literals_own ≡ h.inputs + h.latches
    own-long = omega (arith, length-append (content h bytes).inputs (map own_literal (content h bytes).latches), inputs-long, length-map (content h bytes).latches own_literal, length-map (section_rows h bytes Latches) latch_of, long Latches)

    own-at : (v : ℕ) → 0 < v → v ≤ h.inputs + h.latches → get_or literals_own (v - 1) 0 ≡ 2 * v
    own-at v low high =
        elim (cases_lt h.inputs v) [
          | inl latch_one ↦
              let q : v - 1 ≡ length (content h bytes).inputs + (v - 1 - h.inputs) = omega (arith, inputs-long) in
              ap (λ p. get_or literals_own p 0) q ∙ get_or-append-add (content h bytes).inputs (map own_literal (content h bytes).latches) (v - 1 - h.inputs) 0 ∙ latch-at (v - 1 - h.inputs) (omega arith) ∙ (omega arith)
          | inr input_one ↦ get_or_append_left (content h bytes).inputs (map own_literal (content h bytes).latches) 0 (v - 1) (omega (arith, inputs-long)) ∙ input-at v low input_one
        ]

    own-holds : (v : ℕ) → 0 < v → v ≤ h.inputs + h.latches → holds v (own_variables (content h bytes)) ≡ true
    own-holds v low high =
        let at : get_or (own_variables (content h bytes)) (v - 1) 0 ≡ v = get_or-map (λ l. l / 2) literals_own (v - 1) 0 0 (omega (arith, own-long)) ∙ (omega (arith, own-at v low high)) in
        place-holds v (own_variables (content h bytes)) (v - 1) (omega (arith, own-long, length-map literals_own (λ (l : ℕ). l / 2))) at

    pub gate-at : (k : ℕ) → k < h.ands → gate_at (content h bytes).gates k ≡ binary_gate h bytes k
    gate-at k lt = ap (λ gates. gate_at gates k) gates-are ∙ get_or-map-range_with_len (λ k. binary_gate h bytes k) 0 h.ands k k no_gate lt (omega arith)

    pub gates-long : length (content h bytes).gates ≡ h.ands
    gates-long = ap length gates-are ∙ length-map-range_with_len (λ k. binary_gate h bytes k) 0 h.ands

    gate-holds : (k : ℕ) → k < h.ands → holds (1 + h.inputs + h.latches + k) (map (λ g. g.lhs / 2) (content h bytes).gates) ≡ true
    gate-holds k lt =
        let at : get_or (map (λ g. g.lhs / 2) (content h bytes).gates) k 0 ≡ 1 + h.inputs + h.latches + k = get_or-map (λ g. g.lhs / 2) (content h bytes).gates k no_gate 0 (omega (arith, gates-long)) ∙ ap (λ (g : Gate). g.lhs / 2) (gate-at k lt) ∙ (omega arith) in
        place-holds _ (map (λ g. g.lhs / 2) (content h bytes).gates) k (omega (arith, gates-long, length-map (content h bytes).gates (λ (g : Gate). g.lhs / 2))) at

    pub defined-below : (l : ℕ) → l / 2 ≤ h.inputs + h.latches + h.ands → is_defined (content h bytes) l ≡ true
    defined-below l le =
        elim (cases_eq (l / 2) 0) [
          | inl constant ↦ or_left _ _ (eq-eqb (l / 2) 0 constant)
          | inr other ↦
              elim (cases_lt (h.inputs + h.latches) (l / 2)) [
                | inl high ↦
                    let k = l / 2 - (1 + h.inputs + h.latches) in
                    let is : 1 + h.inputs + h.latches + k ≡ l / 2 = omega arith in
                    let P : ℕ → Type 0 = λ v. holds v (map (λ g. g.lhs / 2) (content h bytes).gates) ≡ true in
                    or_right (nat_eq (l / 2) 0) _ (holds-right (l / 2) (own_variables (content h bytes)) _ (subst P is (gate-holds k (omega arith))))
                | inr low ↦ or_right (nat_eq (l / 2) 0) _ (holds-left (l / 2) (own_variables (content h bytes)) _ (own-holds (l / 2) (omega arith) low))
              ]
        ]

  -- ---- what the lines of the ASCII form define

  abbrev firsts : Section → List ℕ
  firsts s = map (λ r. first_number r / 2) (section_rows h bytes s)

  abbrev all_firsts : List ℕ
  all_firsts = (firsts Inputs ++ firsts Latches) ++ firsts Gates

  all-are : h.binary ≡ false → variables_of (content h bytes) ≡ all_firsts
  all-are form =
      let inputs : (content h bytes).inputs ≡ map first_number (section_rows h bytes Inputs) = ap (λ b. cond b (map (λ k. 2 * k) (range_with_len 1 h.inputs)) (map first_number (section_rows h bytes Inputs))) form in
      let gates : (content h bytes).gates ≡ map gate_of (section_rows h bytes Gates) = ap (λ b. cond b (map (λ k. binary_gate h bytes k) (range_with_len 0 h.ands)) (map gate_of (section_rows h bytes Gates))) form in
      ap (λ is. map (λ l. l / 2) (is ++ map own_literal (content h bytes).latches) ++ map (λ (g : Gate). g.lhs / 2) (content h bytes).gates) inputs
      ∙ ap (λ gs. map (λ l. l / 2) (map first_number (section_rows h bytes Inputs) ++ map own_literal (content h bytes).latches) ++ map (λ (g : Gate). g.lhs / 2) gs) gates
      ∙ ap (λ l. l ++ map (λ (g : Gate). g.lhs / 2) (map gate_of (section_rows h bytes Gates)))
      (map-append (λ l. l / 2) (map first_number (section_rows h bytes Inputs)) (map own_literal (map latch_of (section_rows h bytes Latches)))
      ∙ ap (λ l. l ++ map (λ l. l / 2) (map own_literal (map latch_of (section_rows h bytes Latches)))) (map-twice first_number (λ l. l / 2) (section_rows h bytes Inputs))
      ∙ ap (λ l. firsts Inputs ++ l) (ap (map (λ l. l / 2)) (map-twice latch_of own_literal (section_rows h bytes Latches)) ∙ map-twice first_number (λ l. l / 2) (section_rows h bytes Latches)))
      ∙ ap (λ l. (firsts Inputs ++ firsts Latches) ++ l) (map-twice gate_of (λ (g : Gate). g.lhs / 2) (section_rows h bytes Gates))

  first-holds : (s : Section) (j v : ℕ) → j < slice_index (plan h bytes) (number_in s) → v ≡ first_number (row h bytes (before (plan h bytes) s + j)) / 2 → holds v (firsts s) ≡ true
  first-holds s j v lt is =
      place-holds v (firsts s) j (omega (arith, lt, long s, length-map (section_rows h bytes s) (λ r. first_number r / 2)))
      (get_or-map (λ r. first_number r / 2) (section_rows h bytes s) j [] 0 (omega (arith, lt, long s)) ∙ ap (λ r. first_number r / 2) (row-of s j lt) ∙ sym is)

  only : (v x : ℕ) → holds v (x ∷ []) ≡ true → v ≡ x
  only v x e = elim (or_cases (nat_eq v x) false e) [ inl same ↦ eqb-true v x same | inr no_one ↦ absurd (cc) ]

  line-holds : (s : Section) (j v : ℕ) → j < slice_index (plan h bytes) (number_in s) → holds v (defined s (row h bytes (before (plan h bytes) s + j))) ≡ true → holds v all_firsts ≡ true
  line-holds Inputs j v lt e = holds-left v (firsts Inputs ++ firsts Latches) _ (holds-left v (firsts Inputs) _ (first-holds Inputs j v lt (only v _ e)))
  line-holds Latches j v lt e = holds-left v (firsts Inputs ++ firsts Latches) _ (holds-right v (firsts Inputs) _ (first-holds Latches j v lt (only v _ e)))
  line-holds Outputs j v lt e = absurd (cc)
  line-holds Bads j v lt e = absurd (cc)
  line-holds Constraints j v lt e = absurd (cc)
  line-holds Sizes j v lt e = absurd (cc)
  line-holds Justices j v lt e = absurd (cc)
  line-holds Fairs j v lt e = absurd (cc)
  line-holds Gates j v lt e = holds-right v (firsts Inputs ++ firsts Latches) _ (first-holds Gates j v lt (only v _ e))

  abbrev defines : ℕ → ℕ → Bool
  defines v j = holds v (defined (section h bytes j) (row h bytes j))

  to-firsts : (v : ℕ) → defined_before h bytes (counted h bytes) v ≡ true → holds v all_firsts ≡ true
  to-firsts v e =
      let (k, lt, here) = any-some (counted h bytes) (defines v) e in
      let of = line-of h bytes k lt in
      let at : holds v (defined of.s (row h bytes (before (plan h bytes) of.s + of.j))) ≡ true = ap (λ n. holds v (defined of.s (row h bytes n))) (sym of.place) ∙ ap (λ s. holds v (defined s (row h bytes k))) (sym of.is) ∙ here in
      line-holds of.s of.j v of.small at

  from-one : (s : Section) (v : ℕ) → ((r : List ℕ) → defined s r ≡ first_number r / 2 ∷ []) → holds v (firsts s) ≡ true → defined_before h bytes (counted h bytes) v ≡ true
  from-one s v shape e =
      let (j, lt, is) = holds-place v (firsts s) e in
      let inside : j < slice_index (plan h bytes) (number_in s) = omega (arith, lt, long s, length-map (section_rows h bytes s) (λ r. first_number r / 2)) in
      let (of, small) = in-section (plan h bytes) s j refl inside in
      let k = before (plan h bytes) s + j in
      let value : first_number (row h bytes k) / 2 ≡ v = ap (λ r. first_number r / 2) (sym (row-of s j inside)) ∙ sym (get_or-map (λ r. first_number r / 2) (section_rows h bytes s) j [] 0 (omega (arith, inside, long s))) ∙ is in
      let here : defines v k ≡ true = ap (λ t. holds v (defined t (row h bytes k))) of ∙ ap (holds v) (shape (row h bytes k)) ∙ or_left _ _ (eq-eqb v _ (sym value)) in
      some-any (counted h bytes) (defines v) k small here

  from-firsts : (v : ℕ) → holds v all_firsts ≡ true → defined_before h bytes (counted h bytes) v ≡ true
  from-firsts v e =
      elim (holds-append v (firsts Inputs ++ firsts Latches) (firsts Gates) e) [
        | inl own ↦ elim (holds-append v (firsts Inputs) (firsts Latches) own) [ inl a ↦ from-one Inputs v (λ r. refl) a | inr b ↦ from-one Latches v (λ r. refl) b ]
        | inr gate ↦ from-one Gates v (λ r. refl) gate
      ]

  pub known : (lines : Lines) → h.binary ≡ false → AllRead h bytes lines → AreKnown h bytes lines.marks
  known lines form all = record {
    clear = all.clear;
    each = λ v le. (all.marks form).each v le ∙ same-truth _ _ (to-firsts v) (from-firsts v) ∙ ap (holds v) (sym (all-are form));
  }

  -- ---- what a line uses

  pub line-clear : first_some (counted h bytes) (of_line h bytes) ≡ None → (k : ℕ) → k < counted h bytes → of_line h bytes k ≡ None
  line-clear clear k lt = first-none (of_line h bytes) (counted h bytes) clear k lt

  pub line-right : first_some (counted h bytes) (of_line h bytes) ≡ None → (k : ℕ) → k < counted h bytes → is_right h (section h bytes k) (row h bytes k) ≡ true
  line-right clear k lt = not-false _ (when-none _ _ (none-both _ _ (none-both _ _ (line-clear clear k lt)).1).0)

  pub uses-are : (marks : List Bool) (k : ℕ) → AreKnown h bytes marks → is_right h (section h bytes k) (row h bytes k) ≡ true → list_any (λ l. not (is_marked marks l)) (used (section h bytes k) (row h bytes k)) ≡ list_any (is_undefined h bytes) (used (section h bytes k) (row h bytes k))
  uses-are marks k known right = any-same _ _ (used (section h bytes k) (row h bytes k)) (λ i lt. ap (λ b. not (nat_eq (get_or (used (section h bytes k) (row h bytes k)) i 0 / 2) 0 || b)) (known.each _ (used-low h (section h bytes k) (row h bytes k) right i)))

  pub use-fault : (k : ℕ) → list_any (is_undefined h bytes) (used (section h bytes k) (row h bytes k)) ≡ true → of_uses h bytes k ≡ Some (fault Undefined (line_start bytes k))
  use-fault k e = ap (λ b. when b (fault Undefined (line_start bytes k))) e

  pub use-clear : (k : ℕ) → list_any (is_undefined h bytes) (used (section h bytes k) (row h bytes k)) ≡ false → of_uses h bytes k ≡ None
  use-clear k e = ap (λ b. when b (fault Undefined (line_start bytes k))) e

  pub none-first : {A : Type 0} (n : ℕ) (find : ℕ → Option A) → ((k : ℕ) → k < n → find k ≡ None) → first_some n find ≡ None
  none-first zero find each = refl
  none-first (suc n) find each = ap (λ o. otherwise o (find n)) (none-first n find (λ k lt. each k (omega arith))) ∙ each n (omega arith)

  pub binary-uses : h.binary ≡ true → is_header h ≡ true → first_some (counted h bytes) (of_line h bytes) ≡ None → first_some (counted h bytes) (of_uses h bytes) ≡ None
  binary-uses form large clear =
      let top : h.top ≡ h.inputs + h.latches + h.ands = eqb-true _ _ (sym (ap (λ b. cond b (nat_eq h.top (h.inputs + h.latches + h.ands)) (nat_le (h.inputs + h.latches + h.ands) h.top)) form) ∙ large) in
      none-first (counted h bytes) (of_uses h bytes) (λ k lt. use-clear k (any-none (is_undefined h bytes) (used (section h bytes k) (row h bytes k)) (λ i inside. ap not (defined-below form _ (omega (arith, used-low h (section h bytes k) (row h bytes k) (line-right clear k lt) i, top))))))

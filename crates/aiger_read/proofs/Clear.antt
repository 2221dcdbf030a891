-- What is read without a fault is a circuit.
use Rattle.std.proofs.Common.{◌≡◌, ℕ, suc, ◌+◌, ◌-◌, ◌*◌, ◌<◌, ◌≤◌, ◌⊎◌, Bool, true, false, cond, inl, inr, refl, sym, ◌∙◌, ap, subst, arith, None, List, [], ◌∷◌, map, length, get_or}
use Rattle.std.specs.Prelude.{IsTrue, slice_index, slice_index_or}
use Rattle.std.specs.List.{range_with_len, list_any}
use Rattle.std.proofs.lemmas.List.{length-map, get_or-map}
use Rattle.std.proofs.lemmas.Bool.{cases_lt, cases_Bool, or_parts, not-false}
use Rattle.aiger_body.specs.declared.header.Header.{Header}
use Rattle.aiger_body.specs.declared.section.Section.{Section}
use Rattle.aiger_body.specs.declared.section.Section.TheVariants.{Inputs, Latches, Outputs, Constraints, Fairs, Gates}
use Rattle.aig_order.specs.declared.gate.Gate.{Gate}
use Rattle.aiger_body.specs.declared.content.Latch.{Latch}
use Rattle.aig_order.specs.Firsts.{first_some}
use Rattle.aig_order.specs.Gates.{gate_at, no_gate, Depends, depends}
use Rattle.aig_order.proofs.Firsts.{when-none, none-both, first-none}
use Rattle.aig_order.proofs.Cycles.{depends-right}
use Rattle.aiger_body.specs.Texts.{grown, is_ended, is_feed, pieces}
use Rattle.aiger_body.specs.Files.{number_in, before, plan, counted, lines, line, section, section_rows, row, is_right, used, first_number, gate_of, latch_of, binary_gate, content}
use Rattle.aiger_body.specs.Circuits.{is_defined, AllDefined, no_latch, IsCircuit}
use Rattle.aiger_body.specs.Outcomes.{of_line, of_uses, of_cycle, is_undefined}
use Rattle.aiger_body.proofs.Sections.{in-section}
use Rattle.aiger_body.proofs.Scanning.{ended_some}
use Rattle.aiger_body.proofs.Known.{row-of, long, line-clear, line-right, inputs-long, gates-long, gate-at, defined-below}
use Rattle.aiger_read.proofs.Ending.{some_line}

-- ---- the shapes of lines

output-shape : (h : Header) (r : List ℕ) → is_right h Outputs r ≡ true → used Outputs r ≡ first_number r ∷ []
output-shape h [] e = absurd (cc)
output-shape h (l ∷ []) e = refl
output-shape h (l ∷ m ∷ r) e = absurd (cc)

constraint-shape : (h : Header) (r : List ℕ) → is_right h Constraints r ≡ true → used Constraints r ≡ first_number r ∷ []
constraint-shape h [] e = absurd (cc)
constraint-shape h (l ∷ []) e = refl
constraint-shape h (l ∷ m ∷ r) e = absurd (cc)

fair-shape : (h : Header) (r : List ℕ) → is_right h Fairs r ≡ true → used Fairs r ≡ first_number r ∷ []
fair-shape h [] e = absurd (cc)
fair-shape h (l ∷ []) e = refl
fair-shape h (l ∷ m ∷ r) e = absurd (cc)

latch-shape : (h : Header) (r : List ℕ) → is_right h Latches r ≡ true → used Latches r ≡ slice_index r 1 ∷ []
latch-shape h [] e = absurd (cc)
latch-shape h (l ∷ []) e = absurd (cc)
latch-shape h (l ∷ n ∷ r) e = refl

gate-shape : (h : Header) (r : List ℕ) → is_right h Gates r ≡ true → used Gates r ≡ slice_index r 1 ∷ slice_index r 2 ∷ []
gate-shape h [] e = absurd (cc)
gate-shape h (l ∷ []) e = absurd (cc)
gate-shape h (l ∷ a ∷ []) e = absurd (cc)
gate-shape h (l ∷ a ∷ b ∷ []) e = refl
gate-shape h (l ∷ a ∷ b ∷ d ∷ r) e = absurd (cc)

module _ (h : Header) (bytes : List ℕ) (clear : first_some (counted h bytes) (of_line h bytes) ≡ None) where
  -- each counted line has a byte
  line-ended : (k : ℕ) → k < counted h bytes → is_ended is_feed (line bytes k) ≡ true
  line-ended k lt = not-false _ (when-none _ _ (none-both _ _ (line-clear h bytes clear k lt)).0)

  pieces-few : (ends : ℕ → Bool) (text : List ℕ) → length (pieces ends text) ≤ length text
  pieces-few ends [] = omega arith
  pieces-few ends (b ∷ text) = step (ends b) (pieces ends text) (pieces-few ends text)
    where
      step : (x : Bool) (ps : List (List ℕ)) → length ps ≤ length text → length (grown x b ps) ≤ suc (length text)
      step true ps le = omega arith
      step false [] le = omega arith
      step false (p ∷ ps) le = omega arith

  pub counted_few : counted h bytes ≤ length bytes
  counted_few = elim (cases_lt 0 (counted h bytes)) [
    | inr none ↦ omega arith
    | inl some ↦
        let k = counted h bytes - 1 in
        let there = some_line (lines bytes) (suc k) (ended_some is_feed (line bytes k) (line-ended k (omega arith))) in
        omega (arith, there, pieces-few is_feed bytes)
  ]

  module _ (uses : first_some (counted h bytes) (of_uses h bytes) ≡ None) where
    line-uses : (k : ℕ) → k < counted h bytes → list_any (is_undefined h bytes) (used (section h bytes k) (row h bytes k)) ≡ false
    line-uses k lt = when-none _ _ (first-none (of_uses h bytes) (counted h bytes) uses k lt)

    good : (s : Section) (j : ℕ) → j < slice_index (plan h bytes) (number_in s) → (is_right h s (row h bytes (before (plan h bytes) s + j)) ≡ true) × (list_any (is_undefined h bytes) (used s (row h bytes (before (plan h bytes) s + j))) ≡ false)
    good s j lt =
        let (is, inside) = in-section (plan h bytes) s j refl lt in
        let P : Section → Type 0 = λ t. (is_right h t (row h bytes (before (plan h bytes) s + j)) ≡ true) × (list_any (is_undefined h bytes) (used t (row h bytes (before (plan h bytes) s + j))) ≡ false) in
        subst P is (line-right h bytes clear _ inside, line-uses _ inside)

    known : (l : ℕ) (more : List ℕ) → list_any (is_undefined h bytes) (l ∷ more) ≡ false → IsTrue (is_defined (content h bytes) l)
    known l more e = not-false _ (or_parts (is_undefined h bytes l) _ e).0

    firsts : (s : Section) → ((r : List ℕ) → is_right h s r ≡ true → used s r ≡ first_number r ∷ []) → AllDefined (content h bytes) (map first_number (section_rows h bytes s))
    firsts s shape j lt =
        let inside : j < slice_index (plan h bytes) (number_in s) = omega (arith, lt, length-map (section_rows h bytes s) first_number, long h bytes s) in
        let (right, uses) = good s j inside in
        let P : List ℕ → Type 0 = λ u. list_any (is_undefined h bytes) u ≡ false in
        let Q : ℕ → Type 0 = λ l. IsTrue (is_defined (content h bytes) l) in
        let at : get_or (map first_number (section_rows h bytes s)) j 0 ≡ first_number (row h bytes (before (plan h bytes) s + j)) = get_or-map first_number (section_rows h bytes s) j [] 0 (omega (arith, inside, long h bytes s)) ∙ ap first_number (row-of h bytes s j inside) in
        subst Q (sym at) (known _ [] (subst P (shape _ right) uses))

    nexts : (j : ℕ) → j < length (content h bytes).latches → IsTrue (is_defined (content h bytes) (slice_index_or (content h bytes).latches j no_latch).next)
    nexts j lt =
        let inside : j < slice_index (plan h bytes) (number_in Latches) = omega (arith, lt, length-map (section_rows h bytes Latches) latch_of, long h bytes Latches) in
        let (right, uses) = good Latches j inside in
        let P : List ℕ → Type 0 = λ u. list_any (is_undefined h bytes) u ≡ false in
        let Q : Latch → Type 0 = λ l. IsTrue (is_defined (content h bytes) l.next) in
        let at : get_or (map latch_of (section_rows h bytes Latches)) j no_latch ≡ latch_of (row h bytes (before (plan h bytes) Latches + j)) = get_or-map latch_of (section_rows h bytes Latches) j [] no_latch (omega (arith, inside, long h bytes Latches)) ∙ ap latch_of (row-of h bytes Latches j inside) in
        subst Q (sym at) (known _ [] (subst P (latch-shape h _ right) uses))

    abbrev SidesDefined : Gate → Type 0
    SidesDefined g = IsTrue (is_defined (content h bytes) g.left) × IsTrue (is_defined (content h bytes) g.right)

    ascii-sides : (k : ℕ) → k < slice_index (plan h bytes) (number_in Gates) → SidesDefined (gate_at (map gate_of (section_rows h bytes Gates)) k)
    ascii-sides k lt =
        let (right, uses) = good Gates k lt in
        let P : List ℕ → Type 0 = λ u. list_any (is_undefined h bytes) u ≡ false in
        let r = row h bytes (before (plan h bytes) Gates + k) in
        let both : list_any (is_undefined h bytes) (slice_index r 1 ∷ slice_index r 2 ∷ []) ≡ false = subst P (gate-shape h r right) uses in
        let at : gate_at (map gate_of (section_rows h bytes Gates)) k ≡ gate_of r = get_or-map gate_of (section_rows h bytes Gates) k [] no_gate (omega (arith, lt, long h bytes Gates)) ∙ ap gate_of (row-of h bytes Gates k lt) in
        subst SidesDefined (sym at) (known _ (slice_index r 2 ∷ []) both, known _ [] (or_parts (is_undefined h bytes (slice_index r 1)) _ both).1)

    gates-defined : (k : ℕ) → k < length (content h bytes).gates → SidesDefined (gate_at (content h bytes).gates k)
    gates-defined = by-form (cases_Bool h.binary)
      where
        by-form : (h.binary ≡ true) ⊎ (h.binary ≡ false) → (k : ℕ) → k < length (content h bytes).gates → SidesDefined (gate_at (content h bytes).gates k)
        by-form (inl form) k lt =
            let inside : k < h.ands = omega (arith, lt, gates-long h bytes form) in
            subst SidesDefined (sym (gate-at h bytes form k inside)) (defined-below h bytes form _ (omega arith), defined-below h bytes form _ (omega arith))
        by-form (inr form) k lt =
            let gates_are : (content h bytes).gates ≡ map gate_of (section_rows h bytes Gates) = ap (λ b. cond b (map (λ k. binary_gate h bytes k) (range_with_len 0 h.ands)) (map gate_of (section_rows h bytes Gates))) form in
            let inside : k < slice_index (plan h bytes) (number_in Gates) = omega (arith, lt, ap length gates_are, length-map (section_rows h bytes Gates) gate_of, long h bytes Gates) in
            let P : List Gate → Type 0 = λ gates. SidesDefined (gate_at gates k) in
            subst P (sym gates_are) (ascii-sides k inside)

    module _ (cycles : first_some (length (content h bytes).gates) (of_cycle h bytes) ≡ None) where
      acyclic : (k : ℕ) → k < length (content h bytes).gates → ¬ Depends (content h bytes).gates k k
      acyclic k lt round =
          let no_round : depends (content h bytes).gates (length (content h bytes).gates) k k ≡ false = when-none _ _ (first-none (of_cycle h bytes) (length (content h bytes).gates) cycles k lt) in
          let found : depends (content h bytes).gates (length (content h bytes).gates) k k ≡ true = (depends-right (content h bytes).gates k k lt lt).0 round in
          cc

      pub is_circuit : IsCircuit (content h bytes)
      is_circuit = record {
        nexts = nexts;
        gates = gates-defined;
        outputs = firsts Outputs (output-shape h);
        constraints = firsts Constraints (constraint-shape h);
        fairs = firsts Fairs (fair-shape h);
        acyclic = acyclic;
      }

-- ---- how many there are of each

module _ (h : Header) (bytes : List ℕ) where
  pub inputs_many : length (content h bytes).inputs ≡ h.inputs
  inputs_many = by-form (cases_Bool h.binary)
    where
      by-form : (h.binary ≡ true) ⊎ (h.binary ≡ false) → length (content h bytes).inputs ≡ h.inputs
      by-form (inl form) = inputs-long h bytes form
      by-form (inr form) =
          ap (λ b. length (cond b (map (λ k. 2 * k) (range_with_len 1 h.inputs)) (map first_number (section_rows h bytes Inputs)))) form
          ∙ length-map (section_rows h bytes Inputs) first_number ∙ long h bytes Inputs ∙ ap (λ b. cond b 0 h.inputs) form

  pub latches_many : length (content h bytes).latches ≡ h.latches
  latches_many = length-map (section_rows h bytes Latches) latch_of ∙ long h bytes Latches

  pub gates_many : length (content h bytes).gates ≡ h.ands
  gates_many = by-form (cases_Bool h.binary)
    where
      by-form : (h.binary ≡ true) ⊎ (h.binary ≡ false) → length (content h bytes).gates ≡ h.ands
      by-form (inl form) = gates-long h bytes form
      by-form (inr form) =
          ap (λ b. length (cond b (map (λ k. binary_gate h bytes k) (range_with_len 0 h.ands)) (map gate_of (section_rows h bytes Gates)))) form
          ∙ length-map (section_rows h bytes Gates) gate_of ∙ long h bytes Gates ∙ ap (λ b. cond b 0 h.ands) form

  pub outputs_many : length (content h bytes).outputs ≡ h.outputs
  outputs_many = length-map (section_rows h bytes Outputs) first_number ∙ long h bytes Outputs

  pub constraints_many : length (content h bytes).constraints ≡ h.constraints
  constraints_many = length-map (section_rows h bytes Constraints) first_number ∙ long h bytes Constraints

  pub fairs_many : length (content h bytes).fairs ≡ h.fairs
  fairs_many = length-map (section_rows h bytes Fairs) first_number ∙ long h bytes Fairs

  pub used_few : h.outputs + h.constraints + h.fairs ≤ counted h bytes
  used_few = omega arith

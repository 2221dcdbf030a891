-- Where two runs stand after choices, and how they end.
use Rattle.std.proofs.Common.{◌≡◌, ℕ, zero, suc, ◌+◌, ◌<◌, ◌≤◌, min, max, cond, List, [], ◌∷◌, length, inl, inr, refl, sym, ap, ◌∙◌, subst, arith, bit_or}
use Rattle.std.specs.Prelude.{slice_index}
use Rattle.std.proofs.lemmas.Bool.{cases_lt, lt-ltb, le-ltb}
use Rattle.std.proofs.lemmas.List.{get_or_past}
use Rattle.std.specs.Int.Bits.{or_zero_r}
use Rattle.hy_finite.specs.declared.lengths.Lengths.{Lengths}
use Rattle.hy_finite.specs.declared.lengths.Lengths.TheVariants.{Min, Pad}
use Rattle.fin_monitor.specs.Machines.{Machine, next_state}
use Rattle.dominance.specs.declared.reached.Node.{Node}
use Rattle.dominance.specs.Runs.{state_on, joint, ended, state_beside, moved, Pairing, longest, codes_by, start_node, next_node, Stands, EndsIn}
use Rattle.dominance.specs.Trails.{led}

-- a state depends on the first codes alone
pub state_on-same : (m : Machine) (code other : ℕ → ℕ) (n : ℕ)
    → ((i : ℕ) → i < n → code i ≡ other i) → state_on m code n ≡ state_on m other n
state_on-same m code other zero same = refl
state_on-same m code other (suc n) same =
    ap (λ q. next_state m q (code n)) (state_on-same m code other n (λ i lt. same i (omega arith)))
    ∙ ap (next_state m (state_on m other n)) (same n (omega arith))

module _ (m : Machine) (column : List ℕ) (code : ℕ → ℕ) (n at most q c : ℕ)
    (short : length column ≤ most) (there : at ≡ min n most) (is : c ≡ code n) where
  -- a run goes on by a code
  pub moved-min : q ≡ state_beside m Min column code n
      → moved m Min column at q c ≡ state_beside m Min column code (suc n)
  moved-min state = elim (cases_lt at (length column)) [
    | inl lt ↦
        let same : at ≡ n = omega arith in
        let e : min (length column) n ≡ n = omega arith in
        let f : suc n ≡ min (length column) (suc n) = omega arith in
        ap (λ b. cond b (next_state m q (bit_or (slice_index column at) c)) q)
        (lt-ltb at (length column) lt)
        ∙ ap (λ i. next_state m q (bit_or (slice_index column i) c)) same
        ∙ ap (λ x. next_state m q (bit_or (slice_index column n) x)) is
        ∙ ap (λ x. next_state m x (joint column code n))
        (state ∙ ap (state_on m (joint column code)) e)
        ∙ ap (state_on m (joint column code)) f
    | inr ge ↦
        let e : min (length column) n ≡ min (length column) (suc n) = omega arith in
        ap (λ b. cond b (next_state m q (bit_or (slice_index column at) c)) q)
        (le-ltb at (length column) ge)
        ∙ state ∙ ap (state_on m (joint column code)) e
  ]

  -- past the columns each says 0
  pub said : slice_index column at ≡ slice_index column n
  said = elim (cases_lt n most) [
    | inl lt ↦ let same : at ≡ n = omega arith in ap (slice_index column) same
    | inr ge ↦ get_or_past column at 0 (omega arith) ∙ sym (get_or_past column n 0 (omega arith))
  ]

  pub moved-pad : q ≡ state_beside m Pad column code n
      → moved m Pad column at q c ≡ state_beside m Pad column code (suc n)
  moved-pad state =
      ap (λ x. next_state m q (bit_or x c)) said
      ∙ ap (λ x. next_state m q (bit_or (slice_index column n) x)) is
      ∙ ap (λ x. next_state m x (joint column code n)) state

pub moved-beside : (rule : Lengths) (m : Machine) (column : List ℕ) (code : ℕ → ℕ)
    (n at most q c : ℕ) → length column ≤ most → at ≡ min n most → c ≡ code n
    → q ≡ state_beside m rule column code n
    → moved m rule column at q c ≡ state_beside m rule column code (suc n)
moved-beside Min m column code n at most q c short there is =
    moved-min m column code n at most q c short there is
moved-beside Pad m column code n at most q c short there is =
    moved-pad m column code n at most q c short there is

beside-start : (rule : Lengths) (m : Machine) (column : List ℕ) (code : ℕ → ℕ)
    → 0 ≡ state_beside m rule column code 0
beside-start Min m column code = let e : 0 ≡ min (length column) 0 = omega arith in
    ap (state_on m (joint column code)) e
beside-start Pad m column code = refl

module _ (s : Pairing) (choice : ℕ → ℕ) where
  pub stands-start : Stands s choice 0 start_node
  stands-start = record {
    at = let e : 0 ≡ min 0 (longest s) = omega arith in e;
    upper = beside-start s.rule s.machine s.upper (codes_by s.upper_codes choice);
    lower = beside-start s.rule s.machine s.lower (codes_by s.lower_codes choice);
  }

  pub stands-next : (n : ℕ) (x : Node) → Stands s choice n x
      → Stands s choice (suc n) (next_node s x (choice n))
  stands-next n x st = record {
    at = let there = st.at in omega arith;
    upper = moved-beside s.rule s.machine s.upper (codes_by s.upper_codes choice) n x.at
        (longest s) x.upper (codes_by s.upper_codes choice n) (omega arith) st.at refl st.upper;
    lower = moved-beside s.rule s.machine s.lower (codes_by s.lower_codes choice) n x.at
        (longest s) x.lower (codes_by s.lower_codes choice n) (omega arith) st.at refl st.lower;
  }

  pub stands-led : (path : List ℕ) (n : ℕ) (x : Node) → Stands s choice n x
      → ((i : ℕ) → i < length path → choice (n + i) ≡ slice_index path i)
      → Stands s choice (n + length path) (led s x path)
  stands-led [] n x st same = let P : ℕ → Type 0 = λ k. Stands s choice k x in
      subst P (omega arith) st
  stands-led (c ∷ cs) n x st same =
      let e : choice n ≡ c = ap choice (let z : n ≡ n + 0 = omega arith in z)
      ∙ same 0 (omega arith) in
      let P : ℕ → Type 0 = λ k. Stands s choice (suc n) (next_node s x k) in
      let next = subst P e (stands-next n x st) in
      let Q : ℕ → Type 0 = λ k. Stands s choice k (led s (next_node s x c) cs) in
      let count : suc n + length cs ≡ n + suc (length cs) = omega arith in
      subst Q count (stands-led cs (suc n) (next_node s x c) next
      (λ i lt. ap choice (let z : suc n + i ≡ n + suc i = omega arith in z)
      ∙ same (suc i) (omega arith)))

-- ---- the end

pub ended-before : (code : ℕ → ℕ) (n i : ℕ) → i < n → ended code n i ≡ code i
ended-before code n i lt = ap (λ b. cond b (code i) 0) (lt-ltb i n lt)

pub ended-past : (code : ℕ → ℕ) (n i : ℕ) → n ≤ i → ended code n i ≡ 0
ended-past code n i le = ap (λ b. cond b (code i) 0) (le-ltb i n le)

module _ (m : Machine) (column : List ℕ) (code : ℕ → ℕ) (n most at q : ℕ)
    (short : length column ≤ most) where
  pub ends-min : EndsIn m Min column code n most at q q
  ends-min there state =
      state ∙ state_on-same m (joint column code) (joint column (ended code n))
      (min (length column) n)
      (λ i lt. ap (bit_or (slice_index column i)) (sym (ended-before code n i (omega arith))))

  -- The column goes on alone, where it is longer.
  pub ends-pad : (end : ℕ) → (length column ≤ at → end ≡ q)
      → ((code : ℕ → ℕ) → at ≤ length column → q ≡ state_on m code at
      → ((i : ℕ) → at ≤ i → i < length column → code i ≡ slice_index column i)
      → end ≡ state_on m code (length column))
      → EndsIn m Pad column code n most at q end
  ends-pad end past alone there state = elim (cases_lt at (length column)) [
    | inl lt ↦
        let same : n ≡ at = omega arith in
        let before = state ∙ state_on-same m (joint column code) (joint column (ended code n)) n
        (λ i less. ap (bit_or (slice_index column i)) (sym (ended-before code n i less))) in
        let e : length column ≡ max (length column) n = omega arith in
        alone (joint column (ended code n)) (omega arith)
        (before ∙ ap (state_on m (joint column (ended code n))) same)
        (λ i from below. ap (bit_or (slice_index column i)) (ended-past code n i (omega arith))
        ∙ or_zero_r (slice_index column i))
        ∙ ap (state_on m (joint column (ended code n))) e
    | inr ge ↦
        let e : n ≡ max (length column) n = omega arith in
        past ge ∙ state ∙ state_on-same m (joint column code) (joint column (ended code n)) n
        (λ i less. ap (bit_or (slice_index column i)) (sym (ended-before code n i less)))
        ∙ ap (state_on m (joint column (ended code n))) e
  ]

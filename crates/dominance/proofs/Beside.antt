-- A trace at a place, beside others: the codes of the tuple, and what the state where it is judged
-- says.
use Rattle.std.proofs.Common.{◌≡◌, ◌↔◌, ℕ, zero, suc, ◌+◌, ◌*◌, ◌<◌, ◌≤◌, max, Bool, true, false, not, ◌&&◌, ◌||◌, nat_eq, List, [], ◌∷◌, ◌++◌, length, map, inl, inr, refl, sym, ap, ◌∙◌, subst, arith, get_or, bit_or}
use Rattle.std.specs.Prelude.{slice_index}
use Rattle.std.specs.Ordering.{nat_cmp}
use Rattle.std.specs.FinSet.{empty, contains, contains-empty}
use Rattle.std.proofs.lemmas.Bool.{cases_lt, eqb-true, eq-eqb}
use Rattle.std.proofs.lemmas.List.{get_or-map, length-map, get_or_past}
use Rattle.std.proofs.Math.Seq.{get_or-append_seam}
use Rattle.hy_bits.specs.Letter.{Letter}
use Rattle.hy_formula.specs.Quantifiers.{Each}
use Rattle.hy_formula.proofs.Each.{each-append}
use Rattle.hy_finite.specs.declared.lengths.Lengths.{Lengths}
use Rattle.hy_finite.specs.declared.lengths.Lengths.TheVariants.{Min, Pad}
use Rattle.hy_finite.specs.Traces.{Trace, of_two, judged, trace_words, Meets}
use Rattle.hy_finite.proofs.JudgedLength.{of_two-turned, of_two-some}
use Rattle.hy_formula.specs.Atoms.{IndexedAtom}
use Rattle.fin_monitor.specs.Codes.{code_of, one_if, part_of}
use Rattle.fin_monitor.specs.Machines.{Machine, IsMonitor, is_accepting, code_at}
use Rattle.fin_monitor.proofs.CodeBits.{code-or}
use Rattle.dominance.specs.Dominance.{IsTrace}
use Rattle.dominance.specs.Runs.{joint, ended, judged_state}
use Rattle.dominance.proofs.Asking.{codes-agree}
use Rattle.dominance.proofs.Standing.{ended-before, ended-past}
use Rattle.dominance.proofs.Meaning.{meets-state}

-- ---- the judged length of a trace and others

two-swap : (rule : Lengths) (a b c : ℕ)
    → of_two rule b (of_two rule a c) ≡ of_two rule a (of_two rule b c)
two-swap Min a b c = omega arith
two-swap Pad a b c = omega arith

judged-beside : (rule : Lengths) (before after : List Trace) (x : Trace)
    → 0 < length (before ++ after) → judged rule (before ++ x ∷ after)
    ≡ of_two rule (length x) (judged rule (before ++ after))
judged-beside rule [] [] x some = absurd (omega arith)
judged-beside rule [] (a ∷ ls) x some = refl
judged-beside rule (b ∷ []) [] x some = of_two-turned rule (length b) (length x)
judged-beside rule (b ∷ []) (a ∷ ls) x some =
    two-swap rule (length x) (length b) (judged rule (a ∷ ls))
judged-beside rule (b ∷ c ∷ cs) after x some =
    ap (of_two rule (length b)) (judged-beside rule (c ∷ cs) after x (omega arith))
    ∙ two-swap rule (length x) (length b) (judged rule (c ∷ cs ++ after))

judged-some : (rule : Lengths) (us : List Trace) → Each IsTrace us → 0 < length us
    → 0 < judged rule us
judged-some rule [] h some = absurd (omega arith)
judged-some rule (u ∷ []) (lt, h) some = lt
judged-some Min (u ∷ v ∷ vs) (lt, h) some = let ih = judged-some Min (v ∷ vs) h (omega arith) in
    omega arith
judged-some Pad (u ∷ v ∷ vs) (lt, h) some = let ih = judged-some Pad (v ∷ vs) h (omega arith) in
    omega arith

abbrev AreShort : ℕ → List Trace → Type 0
AreShort l us = Each (λ (u : Trace). length u ≤ l) us

greatest-most : (us : List Trace) (l : ℕ) → judged Pad us ≤ l → AreShort l us
greatest-most [] l le = tt
greatest-most (u ∷ []) l le = (le, tt)
greatest-most (u ∷ v ∷ vs) l le = (omega arith, greatest-most (v ∷ vs) l (omega arith))

each-front : (P : Trace → Type 0) (us vs : List Trace) → Each P (us ++ vs) → Each P us × Each P vs
each-front P [] vs h = (tt, h)
each-front P (u ∷ us) vs (here, h) = let r = each-front P us vs h in ((here, r.0), r.1)

short-at : (l : ℕ) (us : List Trace) → AreShort l us → (v : ℕ) → length (get_or us v []) ≤ l
short-at l [] h v = omega arith
short-at l (u ∷ us) (here, h) zero = here
short-at l (u ∷ us) (here, h) (suc v) = short-at l us h v

-- ---- codes

zero-code : (p : ℕ → ℕ → Bool) (atoms : List IndexedAtom)
    → ((name variable : ℕ) → p name variable ≡ false) → code_of p atoms ≡ 0
zero-code p [] none = refl
zero-code p (a ∷ atoms) none =
    ap (λ b. one_if b + 2 * code_of p atoms) (none a.name a.variable)
    ∙ ap (λ n. 0 + 2 * n) (zero-code p atoms none)

-- the codes of a trace at a place, past its end too
pub column-at : (m : Machine) (place : ℕ) (x : Trace) (i : ℕ)
    → slice_index (map (part_of m.atoms place) x) i ≡ part_of m.atoms place (get_or x i empty)
column-at m place x i = elim (cases_lt i (length x)) [
  | inl lt ↦ get_or-map (part_of m.atoms place) x i empty 0 lt
  | inr past ↦
      get_or_past (map (part_of m.atoms place) x) i 0
      (omega (arith, length-map x (part_of m.atoms place), past))
      ∙ sym (ap (part_of m.atoms place) (get_or_past x i empty past)
      ∙ zero-code _ m.atoms
      (λ name variable. nothing (nat_eq variable place) _ (contains-empty nat_cmp name)))
]
  where
    nothing : (b d : Bool) → d ≡ false → (b && d) ≡ false
    nothing true d e = e
    nothing false d e = refl

-- a place other than the one of the trace
seam-other : (before after : List Trace) (x y : Trace) (v : ℕ) → ¬ (v ≡ length before)
    → get_or (before ++ x ∷ after) v [] ≡ get_or (before ++ y ∷ after) v []
seam-other [] after x y zero apart = absurd (apart refl)
seam-other [] after x y (suc v) apart = refl
seam-other (b ∷ bs) after x y zero apart = refl
seam-other (b ∷ bs) after x y (suc v) apart = seam-other bs after x y v (λ e. apart (ap suc e))

module _ (m : Machine) (is : IsMonitor m) (rule : Lengths) (before after : List Trace) where
  -- what the others say, without the place
  abbrev pub rest_code : ℕ → ℕ
  rest_code i =
      code_of (λ name variable. not (nat_eq variable (length before)) && trace_words
      (before ++ [] ∷ after) name variable i) m.atoms

  code-beside : (x : Trace) (i : ℕ)
      → code_at m (trace_words (before ++ x ∷ after)) i
      ≡ bit_or (part_of m.atoms (length before) (get_or x i empty)) (rest_code i)
  code-beside x i =
      codes-agree _ _ m.atoms (λ a c. words a.name a.variable)
      ∙ code-or (λ name variable. nat_eq variable (length before) && contains
      (get_or x i empty) name)
      (λ name variable. not (nat_eq variable (length before)) && trace_words
      (before ++ [] ∷ after) name variable i) m.atoms
    where
      or-false : (b : Bool) → b ≡ (b || false)
      or-false true = refl
      or-false false = refl

      words : (name variable : ℕ) → trace_words (before ++ x ∷ after) name variable i
          ≡ ((nat_eq variable (length before) && contains (get_or x i empty) name) ||
          (not (nat_eq variable (length before)) && trace_words
          (before ++ [] ∷ after) name variable i))
      words name variable = step (nat_eq variable (length before)) refl
        where
          step : (b : Bool) → nat_eq variable (length before) ≡ b
              → trace_words (before ++ x ∷ after) name variable i
              ≡ ((nat_eq variable (length before) && contains (get_or x i empty) name) ||
              (not (nat_eq variable (length before)) && trace_words
              (before ++ [] ∷ after) name variable i))
          step true e =
              ap (λ v. contains (get_or (get_or (before ++ x ∷ after) v []) i empty) name)
              (eqb-true variable (length before) e)
              ∙ ap (λ (u : Trace). contains (get_or u i empty) name)
              (get_or-append_seam before x after [])
              ∙ or-false (contains (get_or x i empty) name)
              ∙ sym (ap (λ b. (b && contains (get_or x i empty) name) ||
              (not b && trace_words (before ++ [] ∷ after) name variable i)) e)
          step false e =
              ap (λ (u : Trace). contains (get_or u i empty) name)
              (seam-other before after x [] variable
              (λ same. let f : nat_eq variable (length before) ≡ true =
              eq-eqb variable (length before) same in absurd (cc)))
              ∙ sym (ap (λ b. (b && contains (get_or x i empty) name) ||
              (not b && trace_words (before ++ [] ∷ after) name variable i)) e)

  module _ (some : 0 < length (before ++ after)) (traces : Each IsTrace (before ++ after)) where
    -- past the ends of all others they say nothing
    rest-ended : (i : ℕ) → judged Pad (before ++ after) ≤ i → rest_code i ≡ 0
    rest-ended i past = zero-code _ m.atoms
        (λ name variable. nothing (nat_eq variable (length before)) name variable)
      where
        short : AreShort i (before ++ [] ∷ after)
        short = let (b, a) = each-front (λ (u : Trace). length u ≤ i) before after
            (greatest-most (before ++ after) i past) in
            each-append (λ (u : Trace). length u ≤ i) before ([] ∷ after) b (omega arith, a)

        nothing : (b : Bool) (name variable : ℕ)
            → (not b && trace_words (before ++ [] ∷ after) name variable i) ≡ false
        nothing true name variable = refl
        nothing false name variable =
            ap (λ (l : Letter). contains l name)
            (get_or_past (get_or (before ++ [] ∷ after) variable []) i empty
            (short-at i (before ++ [] ∷ after) short variable)) ∙ contains-empty nat_cmp name

    module _ (code : ℕ → ℕ) (n f : ℕ) (long : n ≡ max (judged rule (before ++ after)) f)
        (codes : (i : ℕ) → i < n → code i ≡ rest_code i) where
      ended-right : (rule' : Lengths) → rule' ≡ rule → (l i : ℕ) → i < of_two rule' l n
          → ended code n i ≡ rest_code i
      ended-right Min same l i lt = let less : i < n = omega arith in ended-before code n i less
          ∙ codes i less
      ended-right Pad same l i lt = elim (cases_lt i n) [
        | inl less ↦ ended-before code n i less ∙ codes i less
        | inr past ↦
            let P : Lengths → Type 0 = λ r. judged r (before ++ after) ≤ i in
            let le : judged rule (before ++ after) ≤ i = omega arith in
            ended-past code n i past ∙ sym (rest-ended i (subst P (sym same) le))
      ]

      same-length : (rule' : Lengths) (a l0 l : ℕ) → a ≡ max l0 f → (rule' ≡ Pad → f ≤ l)
          → (rule' ≡ Min → f ≡ 0) → of_two rule' l a ≡ of_two rule' l l0
      same-length Min a l0 l e p q = let z = q refl in omega arith
      same-length Pad a l0 l e p q = let z = p refl in omega arith

      -- the state where the tuple is judged accepts exactly where the tuple satisfies the body
      pub beside-right : (x : Trace) → IsTrace x → (rule ≡ Pad → f ≤ length x)
          → (rule ≡ Min → f ≡ 0)
          → (is_accepting m (judged_state m rule (map (part_of m.atoms (length before)) x) code n)
          ≡ true) ↔ Meets rule m.body (before ++ x ∷ after)
      beside-right x is_x pad least =
          let c : List ℕ = map (part_of m.atoms (length before)) x in
          let len = length-map x (part_of m.atoms (length before)) in
          let l0 : ℕ = judged rule (before ++ after) in
          let e : of_two rule (length (map (part_of m.atoms (length before)) x)) n
          ≡ judged rule (before ++ x ∷ after) =
          ap (λ l. of_two rule l n) len
          ∙ same-length rule n (judged rule (before ++ after)) (length x) long pad least
          ∙ sym (judged-beside rule before after x some) in
          let positive : 0 < n = let j = judged-some rule (before ++ after) traces some in
          omega arith in
          meets-state m is rule (before ++ x ∷ after)
          (joint (map (part_of m.atoms (length before)) x) (ended code n))
          (of_two rule (length (map (part_of m.atoms (length before)) x)) n)
          (of_two-some rule _ n (omega (arith, len, is_x)) positive) e
          (λ i lt. ap (λ z. bit_or z (ended code n i)) (column-at m (length before) x i)
          ∙ ap (bit_or (part_of m.atoms (length before) (get_or x i empty)))
          (ended-right rule refl (length (map (part_of m.atoms (length before)) x)) i lt)
          ∙ sym (code-beside x i))

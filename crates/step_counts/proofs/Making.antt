-- Made traces have one to four letters, each of which is one of two.
use Rattle.std.proofs.Common.{◌≡◌, ℕ, zero, suc, ◌+◌, ◌/◌, ◌%◌, ◌≤◌, ◌⊎◌, Bool, true, false, nat_eq, if◌then◌else◌, List, [], ◌∷◌, ◌++◌, length, inl, inr, refl, ap, subst, arith, length-append}
use Rattle.std.specs.FinSet.{empty}
use Rattle.std.specs.List.{Contains}
use Rattle.std.proofs.lemmas.List.Elements.{Contains-append_cases}
use Rattle.hy_base.proofs.Members.{contains-cases, contains-none}
use Rattle.hy_bits.specs.Letter.{Letter}
use Rattle.hy_formula.proofs.Each.{each-append}
use Rattle.hy_finite.specs.Traces.{Trace}
use Rattle.made_traces.specs.MadeTraces.{number, both_signals, letter_by, letters_from, length_of, letters_before, made_trace, made_traces}
use Rattle.step_counts.specs.Words.{IsOver}

module _ (table : List (List ℕ)) where
  letter-over : (x : ℕ) → (letter_by table x ≡ both_signals table) ⊎ (letter_by table x ≡ empty)
  letter-over x = by (nat_eq (x / 65536 % 2) 1)
    where
      by : (b : Bool) → ((if b then both_signals table else empty) ≡ both_signals table)
          ⊎ ((if b then both_signals table else empty) ≡ empty)
      by true = inl refl
      by false = inr refl

  letters-over : (k n : ℕ) → IsOver (both_signals table) empty (letters_from table k n)
  letters-over k zero = tt
  letters-over k (suc n) =
      let last = letter_by table (number (suc (k + n))) in
      each-append (λ (a : Letter). (a ≡ both_signals table) ⊎ (a ≡ empty)) (letters_from table k n)
      (last ∷ []) (letters-over k n) (letter-over (number (suc (k + n))), tt)

  letters-long : (k n : ℕ) → length (letters_from table k n) ≡ n
  letters-long k zero = refl
  letters-long k (suc n) =
      omega (
        arith,
        length-append (letters_from table k n) (letter_by table (number (suc (k + n))) ∷ []),
        letters-long k n,
      )

  pub made-long : (n : ℕ) → length (made_traces table n) ≡ n
  made-long zero = refl
  made-long (suc n) =
      omega (
        arith,
        length-append (made_traces table n) (made_trace table n ∷ []),
        made-long n,
      )

  pub made-before : (n : ℕ) (list : List Trace) (t : Trace) → list ++ t ∷ [] ≡ made_traces table n
      → suc (length list) ≡ n
  made-before n list t same =
      omega (arith, ap length same, length-append list (t ∷ []), made-long n)

  pub made-over : (n : ℕ) (u : Trace) → Contains (made_traces table n) u
      → IsOver (both_signals table) empty u × (length u ≤ 4)
  made-over zero u c = absurd (contains-none u c)
  made-over (suc n) u c =
      elim (Contains-append_cases (made_traces table n) (made_trace table n ∷ []) u c) [
        | inl old ↦ made-over n u old
        | inr new ↦ elim (contains-cases (made_trace table n) u [] new) [
          | inl e ↦
              let P : Trace → Type 0 =
              λ v. IsOver (both_signals table) empty v × (length v ≤ 4) in
              let long = letters-long (letters_before n) (length_of n) in
              subst P e
              (letters-over (letters_before n) (length_of n), omega (arith, long))
          | inr none ↦ absurd (contains-none u none)
        ]
      ]

-- Places in the table of a monitor, and codes from the last atom on.
use Rattle.std.proofs.Common.{◌≡◌, ◌+◌, ◌*◌, ◌%◌, ◌^◌, ◌<◌, ◌≤◌, ℕ, Bool, Some, List, length, drop, map, slice_get, sym, ap, ◌∙◌, subst, arith}
use Rattle.std.proofs.Math.Nat.{mod-eq_of_lt}
use Rattle.std.proofs.lemmas.List.{length-map}
use Rattle.std.proofs.lemmas.Option.{get_or_from_slice_get}
use Rattle.hy_formula.specs.declared.atom.Atom.{Atom}
use Rattle.hy_formula.specs.Atoms.{plain_atom}
use Rattle.fin_monitor.specs.Codes.{one_if, code_of}
use Rattle.fin_monitor.specs.Machines.{Machine, codes, states_of, next_state, IsMonitor}
use Rattle.fin_monitor.proofs.CodeBits.{code-lt, codes-down, drop-all, small-code}
use Rattle.fin_monitor.proofs.Running.{place-inside}

-- ---- places

module _ (m : Machine) (is : IsMonitor m) (q code bits : ℕ) (e : bits ≡ length m.atoms) (lt : q < states_of m) (less : code < codes m) where
  pub shifted : q * 2 ^ bits % 18446744073709551616 ≡ q * codes m
  shifted =
      let same : q * 2 ^ bits ≡ q * codes m = ap (λ b. q * 2 ^ b) e in
      let small : q * 2 ^ bits < 18446744073709551616 = omega (arith, place-inside m is q code lt less, is.small, same) in
      mod-eq_of_lt small ∙ same

  pub shifted-fits : q * 2 ^ bits % 18446744073709551616 + code < 18446744073709551616
  shifted-fits = omega (arith, shifted, place-inside m is q code lt less, is.small)

  pub shifted-inside : q * 2 ^ bits % 18446744073709551616 + code < length m.table
  shifted-inside = omega (arith, shifted, place-inside m is q code lt less)

  module _ (n : ℕ) (at : slice_get m.table (q * 2 ^ bits % 18446744073709551616 + code) ≡ Some n) where
    pub entry-is : n ≡ next_state m q code
    entry-is = sym (get_or_from_slice_get m.table (q * codes m + code) n 0 (ap (λ p. slice_get m.table (p + code)) (sym shifted) ∙ at))

    pub entry-within : n < states_of m
    entry-within = let P : ℕ → Type 0 = λ s. s < states_of m in subst P (sym entry-is) (is.inside (q * codes m + code) (place-inside m is q code lt less))

-- ---- codes

pub code-none : (letter : ℕ → ℕ → Bool) (atoms : List Atom) (i : ℕ) → i ≡ length atoms → 0 ≡ code_of letter (drop i (map plain_atom atoms))
code-none letter atoms i e =
    sym (ap (code_of letter) (ap (λ k. drop k (map plain_atom atoms)) (e ∙ sym (length-map atoms plain_atom)) ∙ drop-all (map plain_atom atoms)))

pub code-more : (letter : ℕ → ℕ → Bool) (atoms : List Atom) (i j : ℕ) (a : Atom) (bit : Bool) (code new : ℕ) → slice_get atoms j ≡ Some a → i ≡ j + 1 → bit ≡ letter a.name a.var
    → code ≡ code_of letter (drop i (map plain_atom atoms)) → new ≡ one_if bit + 2 * code → new ≡ code_of letter (drop j (map plain_atom atoms))
code-more letter atoms i j a bit code new at e is was made =
    made
    ∙ ap (λ b. one_if b + 2 * code) is
    ∙ ap (λ c. one_if (letter a.name a.var) + 2 * c) (was ∙ ap (λ k. code_of letter (drop k (map plain_atom atoms))) e)
    ∙ sym (codes-down letter atoms j a at)

pub code-small : (letter : ℕ → ℕ → Bool) (atoms : List Atom) (i code : ℕ) → length (map plain_atom atoms) ≤ 16 → code ≡ code_of letter (drop i (map plain_atom atoms)) → code < 65536
code-small letter atoms i code few e = omega (arith, e, small-code letter (map plain_atom atoms) i few)

pub code-all : (letter : ℕ → ℕ → Bool) (atoms : List Atom) (i code : ℕ) → i ≡ 0 → code ≡ code_of letter (drop i (map plain_atom atoms)) → code ≡ code_of letter (map plain_atom atoms)
code-all letter atoms i code none e = e ∙ ap (λ k. code_of letter (drop k (map plain_atom atoms))) none

pub code-within : (letter : ℕ → ℕ → Bool) (atoms : List Atom) (i code : ℕ) → i ≡ 0 → code ≡ code_of letter (drop i (map plain_atom atoms)) → code < 2 ^ length (map plain_atom atoms)
code-within letter atoms i code none e = let P : ℕ → Type 0 = λ c. c < 2 ^ length (map plain_atom atoms) in subst P (sym (code-all letter atoms i code none e)) (code-lt letter (map plain_atom atoms))

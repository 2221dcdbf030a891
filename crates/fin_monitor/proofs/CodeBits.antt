-- The bits of codes of joint letters.
use Rattle.std.proofs.Common.{◌≡◌, ◌⊎◌, ◌+◌, ◌*◌, ◌/◌, ◌%◌, ◌^◌, ◌<◌, ◌≤◌, ℕ, zero, suc, Bool, true, false, ◌||◌, cond, nat_eq, min, max, List, [], ◌∷◌, length, take, drop, map, get_or, slice_get, Some, length-drop, inl, inr, refl, sym, ap, ◌∙◌, arith, bit_and, bit_or}
use Rattle.std.specs.Int.{bit_at}
use Rattle.std.specs.List.{list_any}
use Rattle.std.proofs.Math.Nat.{pow-succ', mod-eq_of_lt}
use Rattle.std.proofs.lemmas.Bool.{eqb-true, or_cases, and_parts}
use Rattle.std.proofs.lemmas.Nat.{pow_below}
use Rattle.std.proofs.lemmas.Nat.Bits.{bit_at-suc, bit_at_lowest, bit_at-zero, bit_at_or, bit_at_and, bit_at-lt, bit_at-pow_same, same_from_bits}
use Rattle.std.proofs.Math.Pow.{pow_mono}
use Rattle.hy_bits.specs.Binary.{has_one}
use Rattle.hy_formula.specs.declared.atom.Atom.{Atom}
use Rattle.hy_formula.specs.Atoms.{IndexedAtom, plain_atom, is_atom}
use Rattle.fin_monitor.specs.Codes.{one_if, code_of, letter_from, letter_of}
use Rattle.fin_monitor.specs.Lefts.{IsAtomMask, IsPart}

pub one_if-lt : (b : Bool) → one_if b < 2
one_if-lt true = omega arith
one_if-lt false = omega arith

pub code-lt : (letter : ℕ → ℕ → Bool) (atoms : List IndexedAtom) → code_of letter atoms < 2 ^ length atoms
code-lt letter [] = omega arith
code-lt letter (a ∷ atoms) = rw pow-succ' (omega (arith, code-lt letter atoms, one_if-lt (letter a.name a.variable)))

-- ---- a bit of a code

bit-first : (b : Bool) (n : ℕ) → bit_at (one_if b + 2 * n) 0 ≡ one_if b
bit-first true n = bit_at_lowest (1 + 2 * n) ∙ omega arith
bit-first false n = bit_at_lowest (0 + 2 * n) ∙ omega arith

half : (b : Bool) (n : ℕ) → (one_if b + 2 * n) / 2 ≡ n
half true n = omega arith
half false n = omega arith

bit-later : (b : Bool) (n i : ℕ) → bit_at (one_if b + 2 * n) (suc i) ≡ bit_at n i
bit-later b n i = bit_at-suc (one_if b + 2 * n) i ∙ ap (λ m. bit_at m i) (half b n)

one-is : (b : Bool) → nat_eq (one_if b) 1 ≡ b
one-is true = refl
one-is false = refl

pub has-first : (b : Bool) (n : ℕ) → has_one (one_if b + 2 * n) 0 ≡ b
has-first b n = ap (λ m. nat_eq m 1) (bit-first b n) ∙ one-is b

pub has-later : (b : Bool) (n i : ℕ) → has_one (one_if b + 2 * n) (suc i) ≡ has_one n i
has-later b n i = ap (λ m. nat_eq m 1) (bit-later b n i)

-- ---- the letter of the code of a letter says of the atoms what the letter does

from-code : (letter : ℕ → ℕ → Bool) (code : ℕ) (atoms : List IndexedAtom) (i : ℕ) → ((j : ℕ) → has_one code (i + j) ≡ has_one (code_of letter atoms) j)
    → (name variable : ℕ) → list_any (is_atom name variable) atoms ≡ true → letter_from i atoms code name variable ≡ letter name variable
from-code letter code [] i same name variable is = absurd (cc)
from-code letter code (a ∷ atoms) i same name variable is =
    step (is_atom name variable a) refl (or_cases (is_atom name variable a) (list_any (is_atom name variable) atoms) is)
    (from-code letter code atoms (suc i) (λ j. ap (has_one code) (omega arith) ∙ same (suc j) ∙ has-later (letter a.name a.variable) (code_of letter atoms) j) name variable)
  where
    here : is_atom name variable a ≡ true → has_one code i ≡ letter name variable
    here e =
        let (n, v) = and_parts (nat_eq a.name name) (nat_eq a.variable variable) e in
        ap (has_one code) (omega arith) ∙ same 0 ∙ has-first (letter a.name a.variable) (code_of letter atoms)
        ∙ ap (λ x. letter x a.variable) (eqb-true a.name name n) ∙ ap (letter name) (eqb-true a.variable variable v)

    step : (b : Bool) → is_atom name variable a ≡ b → (is_atom name variable a ≡ true) ⊎ (list_any (is_atom name variable) atoms ≡ true)
        → (list_any (is_atom name variable) atoms ≡ true → letter_from (suc i) atoms code name variable ≡ letter name variable)
        → cond b (has_one code i) (letter_from (suc i) atoms code name variable) ≡ letter name variable
    step true e h ih = here e
    step false e (inl here_too) ih = absurd (cc)
    step false e (inr more) ih = ih more

pub letter-code : (letter : ℕ → ℕ → Bool) (atoms : List IndexedAtom) (name variable : ℕ) → list_any (is_atom name variable) atoms ≡ true
    → letter_of atoms (code_of letter atoms) name variable ≡ letter name variable
letter-code letter atoms = from-code letter (code_of letter atoms) atoms 0 (λ j. ap (has_one (code_of letter atoms)) (omega arith))

-- ---- joined codes

max-or : (a b : Bool) → max (one_if a) (one_if b) ≡ one_if (a || b)
max-or true true = refl
max-or true false = refl
max-or false true = refl
max-or false false = refl

pub code-or : (p q : ℕ → ℕ → Bool) (atoms : List IndexedAtom) → code_of (λ n v. p n v || q n v) atoms ≡ bit_or (code_of p atoms) (code_of q atoms)
code-or p q atoms = same_from_bits _ _ (λ i. bits atoms i ∙ sym (bit_at_or (code_of p atoms) (code_of q atoms) i))
  where
    bits : (atoms : List IndexedAtom) (i : ℕ) → bit_at (code_of (λ n v. p n v || q n v) atoms) i ≡ max (bit_at (code_of p atoms) i) (bit_at (code_of q atoms) i)
    bits [] i = bit_at-zero i ∙ sym (ap (λ x. max x x) (bit_at-zero i))
    bits (a ∷ rest) zero =
        bit-first (p a.name a.variable || q a.name a.variable) (code_of (λ n v. p n v || q n v) rest) ∙ sym (max-or (p a.name a.variable) (q a.name a.variable))
        ∙ sym (λ k. max (bit-first (p a.name a.variable) (code_of p rest) k) (bit-first (q a.name a.variable) (code_of q rest) k))
    bits (a ∷ rest) (suc i) =
        bit-later (p a.name a.variable || q a.name a.variable) (code_of (λ n v. p n v || q n v) rest) i ∙ bits rest i
        ∙ sym (λ k. max (bit-later (p a.name a.variable) (code_of p rest) i k) (bit-later (q a.name a.variable) (code_of q rest) i k))

-- ---- masks

-- codes that agree on a mask have the same bits there
pub agree-bit : (mask code other i : ℕ) → bit_and code mask ≡ bit_and other mask → has_one mask i ≡ true → has_one code i ≡ has_one other i
agree-bit mask code other i e one = ap (λ x. nat_eq x 1) (masked code ∙ ap (λ m. bit_at m i) e ∙ sym (masked other))
  where
    at-one : bit_at mask i ≡ 1
    at-one = eqb-true (bit_at mask i) 1 one

    masked : (x : ℕ) → bit_at x i ≡ bit_at (bit_and x mask) i
    masked x =
        let low : bit_at x i ≤ 1 = omega (arith, bit_at-lt x i) in
        min-one (bit_at x i) low ∙ ap (min (bit_at x i)) (sym at-one) ∙ sym (bit_at_and x mask i)
      where
        min-one : (n : ℕ) → n ≤ 1 → n ≡ min n 1
        min-one n le = omega arith

-- codes that agree on a mask agree on a part of it
pub agree-part : (part mask code other : ℕ) → IsPart part mask → bit_and code mask ≡ bit_and other mask → bit_and code part ≡ bit_and other part
agree-part part mask code other is e = same_from_bits _ _ (λ i. through code i ∙ ap (λ m. min (bit_at m i) (bit_at part i)) e ∙ sym (through other i))
  where
    inside : (i : ℕ) → min (bit_at part i) (bit_at mask i) ≡ bit_at part i
    inside i = sym (bit_at_and part mask i) ∙ ap (λ m. bit_at m i) is

    through : (x i : ℕ) → bit_at (bit_and x part) i ≡ min (bit_at (bit_and x mask) i) (bit_at part i)
    through x i =
        bit_at_and x part i ∙ mins (bit_at x i) (bit_at part i) (bit_at mask i) (inside i)
        ∙ ap (λ m. min m (bit_at part i)) (sym (bit_at_and x mask i))
      where
        mins : (a b c : ℕ) → min b c ≡ b → min a b ≡ min (min a c) b
        mins a b c e = omega arith

pub part-left : (a b : ℕ) → IsPart a (bit_or a b)
part-left a b = same_from_bits _ _ (λ i. bit_at_and a (bit_or a b) i ∙ ap (min (bit_at a i)) (bit_at_or a b i) ∙ omega arith)

pub part-right : (a b : ℕ) → IsPart b (bit_or a b)
part-right a b = same_from_bits _ _ (λ i. bit_at_and b (bit_or a b) i ∙ ap (min (bit_at b i)) (bit_at_or a b i) ∙ omega arith)

pub part-through : (a b c : ℕ) → IsPart a b → IsPart b c → IsPart a c
part-through a b c p q = same_from_bits _ _ at
  where
    at : (i : ℕ) → bit_at (bit_and a c) i ≡ bit_at a i
    at i =
        let x : min (bit_at a i) (bit_at b i) ≡ bit_at a i = sym (bit_at_and a b i) ∙ ap (λ m. bit_at m i) p in
        let y : min (bit_at b i) (bit_at c i) ≡ bit_at b i = sym (bit_at_and b c i) ∙ ap (λ m. bit_at m i) q in
        bit_at_and a c i ∙ omega arith

-- a code without the bits outside a mask agrees with it
pub masked-agrees : (code mask : ℕ) → bit_and (bit_and code mask) mask ≡ bit_and code mask
masked-agrees code mask = same_from_bits _ _ (λ i. bit_at_and (bit_and code mask) mask i ∙ ap (λ m. min m (bit_at mask i)) (bit_at_and code mask i) ∙ mins (bit_at code i) (bit_at mask i) ∙ sym (bit_at_and code mask i))
  where
    mins : (a b : ℕ) → min (min a b) b ≡ min a b
    mins a b = omega arith

-- ---- the atom of a list at a place

pub letter-past : (i : ℕ) (atoms : List IndexedAtom) (code name variable : ℕ) → list_any (is_atom name variable) atoms ≡ false
    → letter_from i atoms code name variable ≡ false
letter-past i [] code name variable none = refl
letter-past i (a ∷ atoms) code name variable none = step (is_atom name variable a) refl none (letter-past (suc i) atoms code name variable)
  where
    step : (b : Bool) → is_atom name variable a ≡ b → (b || list_any (is_atom name variable) atoms) ≡ false
        → (list_any (is_atom name variable) atoms ≡ false → letter_from (suc i) atoms code name variable ≡ false)
        → cond b (has_one code i) (letter_from (suc i) atoms code name variable) ≡ false
    step true e none ih = absurd (cc)
    step false e none ih = ih none

-- the first place at which the atom stands
pub letter-at : (k i : ℕ) (atoms : List IndexedAtom) (code name variable : ℕ) (d : IndexedAtom) → i < length atoms → list_any (is_atom name variable) (take i atoms) ≡ false
    → is_atom name variable (get_or atoms i d) ≡ true → letter_from k atoms code name variable ≡ has_one code (k + i)
letter-at k i [] code name variable d lt none is = absurd (omega arith)
letter-at k zero (a ∷ atoms) code name variable d lt none is =
    ap (λ b. cond b (has_one code k) (letter_from (suc k) atoms code name variable)) is ∙ ap (has_one code) (omega arith)
letter-at k (suc i) (a ∷ atoms) code name variable d lt none is = step (is_atom name variable a) refl none (letter-at (suc k) i atoms code name variable d (omega arith))
  where
    step : (b : Bool) → is_atom name variable a ≡ b → (b || list_any (is_atom name variable) (take i atoms)) ≡ false
        → (list_any (is_atom name variable) (take i atoms) ≡ false → is_atom name variable (get_or atoms i d) ≡ true → letter_from (suc k) atoms code name variable ≡ has_one code (suc k + i))
        → cond b (has_one code k) (letter_from (suc k) atoms code name variable) ≡ has_one code (k + suc i)
    step true e none ih = absurd (cc)
    step false e none ih = ih none is ∙ ap (has_one code) (omega arith)

-- ---- the mask of an atom

pub mask-at : (i : ℕ) (atoms : List IndexedAtom) (name variable : ℕ) (d : IndexedAtom) → i < length atoms → list_any (is_atom name variable) (take i atoms) ≡ false
    → is_atom name variable (get_or atoms i d) ≡ true → IsAtomMask atoms name variable (2 ^ i)
mask-at i atoms name variable d lt none is code other e =
    letter-at 0 i atoms code name variable d lt none is
    ∙ ap (has_one code) (omega arith)
    ∙ agree-bit (2 ^ i) code other i e (ap (λ m. nat_eq m 1) (bit_at-pow_same i))
    ∙ ap (has_one other) (omega arith)
    ∙ sym (letter-at 0 i atoms other name variable d lt none is)

pub mask-past : (atoms : List IndexedAtom) (name variable mask : ℕ) → list_any (is_atom name variable) atoms ≡ false → IsAtomMask atoms name variable mask
mask-past atoms name variable mask none code other e = letter-past 0 atoms code name variable none ∙ sym (letter-past 0 atoms other name variable none)

-- what `1 << i` computes
pub small-power : (i : ℕ) → i < 32 → 1 * 2 ^ i % 2 ^ 32 ≡ 2 ^ i
small-power i lt = mod-eq_of_lt (let h = pow_below i 32 lt in omega (arith, h)) ∙ omega arith

-- ---- a code, atom by atom from the last on

pub codes-down : (letter : ℕ → ℕ → Bool) (atoms : List Atom) (i : ℕ) (a : Atom) → slice_get atoms i ≡ Some a
    → code_of letter (drop i (map plain_atom atoms)) ≡ one_if (letter a.name a.var) + 2 * code_of letter (drop (i + 1) (map plain_atom atoms))
codes-down letter [] i a e = absurd (cc)
codes-down letter (x ∷ xs) zero a e = let same : x ≡ a = cc in ap (λ (y : Atom). one_if (letter y.name y.var) + 2 * code_of letter (map plain_atom xs)) same
codes-down letter (x ∷ xs) (suc i) a e =
    let step : suc (i + 1) ≡ suc i + 1 = omega arith in
    codes-down letter xs i a e ∙ ap (λ k. one_if (letter a.name a.var) + 2 * code_of letter (drop k (plain_atom x ∷ map plain_atom xs))) step

pub drop-all : {A : Type 0} (xs : List A) → drop (length xs) xs ≡ []
drop-all [] = refl
drop-all (x ∷ xs) = drop-all xs

pub small-code : (letter : ℕ → ℕ → Bool) (atoms : List IndexedAtom) (i : ℕ) → length atoms ≤ 16 → code_of letter (drop i atoms) < 65536
small-code letter atoms i few =
    let l : length (drop i atoms) ≤ 16 = omega (arith, length-drop i atoms) in
    let h : 2 ^ length (drop i atoms) ≤ 2 ^ 16 = pow_mono l in
    omega (arith, code-lt letter (drop i atoms), h)

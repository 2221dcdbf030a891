-- The bits of the names of a variable's atoms add up to its part of a code.
use Rattle.std.proofs.Common.{◌≡◌, ◌+◌, ◌*◌, ◌^◌, ◌<◌, ◌≤◌, ℕ, zero, suc, Bool, true, false, ◌&&◌, cond, nat_eq, List, [], ◌∷◌, ◌++◌, length, take, map, get_or, refl, sym, ap, ◌∙◌, arith, add-one, eq-eqb}
use Rattle.std.specs.FinSet.{contains}
use Rattle.std.specs.List.{list_any}
use Rattle.std.proofs.Math.Nat.{pow-succ'}
use Rattle.std.proofs.lemmas.Bool.{eqb-true, ltb-true, and_parts}
use Rattle.std.proofs.lemmas.List.{take_more}
use Rattle.hy_bits.specs.Letter.{Letter as NameSet}
use Rattle.hy_formula.specs.declared.atom.Atom.{Atom}
use Rattle.hy_formula.specs.Trees.{Tree, always, never, atom, not, next, finally, globally, and, or, implies, iff, until, release, weak, vars_below}
use Rattle.fin_monitor.specs.declared.name_bit.NameBit.{NameBit}
use Rattle.hy_formula.specs.Atoms.{IndexedAtom, plain_atom, is_atom, with_atoms}
use Rattle.fin_monitor.specs.Codes.{one_if, code_of, part_of}
use Rattle.fin_monitor.specs.Machines.{Machine, IsMonitor}
use Rattle.fin_monitor.specs.Parts.{bits_of, AreNamesOf}

-- ---- one name more

pub bits-more : (names : List NameBit) (n : NameBit) (letter : NameSet) → bits_of (names ++ n ∷ []) letter ≡ bits_of names letter + cond (contains letter n.name) (2 ^ n.place) 0
bits-more [] n letter = omega arith
bits-more (x ∷ names) n letter = omega (arith, bits-more names n letter)

pub bits-at : (names : List NameBit) (i : ℕ) (n : NameBit) (letter : NameSet) → i < length names → n ≡ get_or names i n
    → bits_of (take (i + 1) names) letter ≡ bits_of (take i names) letter + cond (contains letter n.name) (2 ^ n.place) 0
bits-at names i n letter lt is =
    ap (λ l. bits_of l letter) (take_more names i n lt ∙ ap (λ x. take i names ++ x ∷ []) (sym is)) ∙ bits-more (take i names) n letter

pub bits-up-to : (names : List NameBit) (i : ℕ) (letter : NameSet) → bits_of (take i names) letter ≤ bits_of names letter
bits-up-to [] zero letter = omega arith
bits-up-to [] (suc i) letter = omega arith
bits-up-to (x ∷ names) zero letter = omega arith
bits-up-to (x ∷ names) (suc i) letter = omega (arith, bits-up-to names i letter)

-- ---- one atom more

one-cond : (b : Bool) → one_if b ≡ cond b 1 0
one-cond true = refl
one-cond false = refl

twice-cond : (b : Bool) (m n : ℕ) → n ≡ 2 * m → cond b n 0 ≡ 2 * cond b m 0
twice-cond true m n e = e
twice-cond false m n e = omega arith

code-next : (p : ℕ → ℕ → Bool) (atoms : List Atom) (i : ℕ) (a : Atom) → i < length atoms → a ≡ get_or atoms i a
    → code_of p (map plain_atom (take (suc i) atoms)) ≡ code_of p (map plain_atom (take i atoms)) + cond (p a.name a.var) (2 ^ i) 0
code-next p [] i a lt is = absurd (omega arith)
code-next p (x ∷ xs) zero a lt is =
    let first : one_if (p x.name x.var) ≡ cond (p a.name a.var) 1 0 = sym (ap (λ (y : Atom). one_if (p y.name y.var)) is) ∙ one-cond (p a.name a.var) in
    omega arith
code-next p (x ∷ xs) (suc i) a lt is =
    let power : 2 ^ suc i ≡ 2 * 2 ^ i = rw pow-succ' (omega arith) in
    omega (arith, code-next p xs i a (omega arith) is, twice-cond (p a.name a.var) (2 ^ i) (2 ^ suc i) power)

pub name-added : (names more : List NameBit) (n : NameBit) (a : Atom) (variable i : ℕ) → more ≡ names ++ n ∷ [] → n.name ≡ a.name → n.place ≡ i → a.var ≡ variable
    → (letter : NameSet) → bits_of more letter ≡ bits_of names letter + cond (nat_eq a.var variable && contains letter a.name) (2 ^ i) 0
name-added names more n a variable i added name place own letter =
    ap (λ l. bits_of l letter) added ∙ bits-more names n letter
    ∙ ap (λ b. bits_of names letter + cond b (2 ^ n.place) 0) (ap (contains letter) name ∙ sym (ap (λ b. b && contains letter a.name) (eq-eqb a.var variable own)))
    ∙ ap (λ k. bits_of names letter + cond (nat_eq a.var variable && contains letter a.name) (2 ^ k) 0) place

-- the names of the atoms so far, and one more
pub names-more : (atoms : List Atom) (i variable : ℕ) (a : Atom) (names more : List NameBit) → i < length atoms → a ≡ get_or atoms i a
    → AreNamesOf names (map plain_atom (take i atoms)) variable
    → ((letter : NameSet) → bits_of more letter ≡ bits_of names letter + cond (nat_eq a.var variable && contains letter a.name) (2 ^ i) 0)
    → AreNamesOf more (map plain_atom (take (i + 1) atoms)) variable
names-more atoms i variable a names more lt is was added letter =
    added letter ∙ ap (λ n. n + cond (nat_eq a.var variable && contains letter a.name) (2 ^ i) 0) (was letter)
    ∙ sym (code-next (λ n v. nat_eq v variable && contains letter n) atoms i a lt is)
    ∙ ap (λ k. part_of (map plain_atom (take k atoms)) variable letter) (sym (add-one i))

-- ---- a variable without atoms

module _ (p : ℕ → ℕ → Bool) (n : ℕ) (none : (name v : ℕ) → v < n → p name v ≡ false) where
  code-last : (known : List IndexedAtom) (a : IndexedAtom) → code_of p known ≡ 0 → p a.name a.variable ≡ false → code_of p (known ++ a ∷ []) ≡ 0
  code-last [] a zero-so-far e = ap (λ b. one_if b + 2 * 0) e
  code-last (x ∷ known) a zero-so-far e = omega (arith, code-last known a (omega arith) e)

  code-with : (b : Bool) (known : List IndexedAtom) (a : IndexedAtom) → code_of p known ≡ 0 → p a.name a.variable ≡ false → code_of p (cond b known (known ++ a ∷ [])) ≡ 0
  code-with true known a so_far e = so_far
  code-with false known a so_far e = code-last known a so_far e

  code-quiet : (f : Tree) (known : List IndexedAtom) → vars_below n f ≡ true → code_of p known ≡ 0 → code_of p (with_atoms f known) ≡ 0
  code-quiet always known b e = e
  code-quiet never known b e = e
  code-quiet (atom a v) known b e = code-with (list_any (is_atom a v) known) known (record { name = a; variable = v }) e (none a v (ltb-true v n b))
  code-quiet (not f) known b e = code-quiet f known b e
  code-quiet (next f) known b e = code-quiet f known b e
  code-quiet (finally f) known b e = code-quiet f known b e
  code-quiet (globally f) known b e = code-quiet f known b e
  code-quiet (and f g) known b e = let (x, y) = and_parts (vars_below n f) (vars_below n g) b in code-quiet g (with_atoms f known) y (code-quiet f known x e)
  code-quiet (or f g) known b e = let (x, y) = and_parts (vars_below n f) (vars_below n g) b in code-quiet g (with_atoms f known) y (code-quiet f known x e)
  code-quiet (implies f g) known b e = let (x, y) = and_parts (vars_below n f) (vars_below n g) b in code-quiet g (with_atoms f known) y (code-quiet f known x e)
  code-quiet (iff f g) known b e = let (x, y) = and_parts (vars_below n f) (vars_below n g) b in code-quiet g (with_atoms f known) y (code-quiet f known x e)
  code-quiet (until f g) known b e = let (x, y) = and_parts (vars_below n f) (vars_below n g) b in code-quiet g (with_atoms f known) y (code-quiet f known x e)
  code-quiet (release f g) known b e = let (x, y) = and_parts (vars_below n f) (vars_below n g) b in code-quiet g (with_atoms f known) y (code-quiet f known x e)
  code-quiet (weak f g) known b e = let (x, y) = and_parts (vars_below n f) (vars_below n g) b in code-quiet g (with_atoms f known) y (code-quiet f known x e)

below-apart : (v w : ℕ) → v < w → nat_eq v w ≡ false
below-apart v w lt = step (nat_eq v w) refl
  where
    step : (b : Bool) → nat_eq v w ≡ b → nat_eq v w ≡ false
    step true e = absurd (omega (arith, eqb-true v w e, lt))
    step false e = e

-- No atom is one of a variable past the last.
pub past-none : (m : Machine) → IsMonitor m → (variable : ℕ) → m.variables ≤ variable → (letter : NameSet) → 0 ≡ part_of m.atoms variable letter
past-none m is variable past letter =
    sym (ap (λ l. part_of l variable letter) is.atoms
    ∙ code-quiet (λ n v. nat_eq v variable && contains letter n) m.variables (λ name v lt. ap (λ b. b && contains letter name) (below-apart v variable (omega arith))) m.body [] is.bound refl)

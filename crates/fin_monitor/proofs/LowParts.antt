-- What letters give by their lowest names, looked up by number.
use Rattle.std.proofs.Common.{◌≡◌, ◌≢◌, ◌⊎◌, ◌+◌, ◌*◌, ◌^◌, ◌<◌, ◌≤◌, ℕ, zero, suc, Bool, true, false, ◌&&◌, cond, nat_eq, nat_lt, nat_cmp, List, [], ◌∷◌, ◌++◌, length, take, map, get_or, slice_get, Some, inl, inr, refl, sym, ap, ◌∙◌, subst, arith, length-append}
use Rattle.std.specs.FinSet.{contains, empty, insert, contains-empty}
use Rattle.std.proofs.Math.Nat.{pow-succ'}
use Rattle.std.proofs.Math.Pow.{pow_mono}
use Rattle.std.proofs.lemmas.Bool.{cases_eq, cases_lt, eqb-true, lt-ltb, le-ltb}
use Rattle.std.proofs.lemmas.List.{take_more, length-map, get_or_append_left, get_or-append-add, get_or-map}
use Rattle.std.proofs.lemmas.Option.{get_or_from_slice_get}
use Rattle.hy_bits.specs.BinaryLaws.{contains-insert_same, contains-insert_other}
use Rattle.hy_bits.specs.Letter.{Letter as NameSet}
use Rattle.hy_formula.specs.Quantifiers.{Each}
use Rattle.hy_formula.proofs.Each.{each-append}
use Rattle.fin_monitor.specs.declared.name_bit.NameBit.{NameBit}
use Rattle.fin_monitor.specs.declared.variable_parts.VariableParts.{VariableParts}
use Rattle.hy_formula.specs.Atoms.{IndexedAtom}
use Rattle.fin_monitor.specs.Parts.{bits_of, bits_below, low_number, part_in, AreLowParts, ArePartsOf, AreParts}

-- ---- numbers of lowest names

pub low-lt : (k : ℕ) (letter : NameSet) → low_number k letter < 2 ^ k
low-lt zero letter = omega arith
low-lt (suc k) letter = rw pow-succ' (by (contains letter k) (low-lt k letter))
  where
    by : (b : Bool) → low_number k letter < 2 ^ k → low_number k letter + cond b (2 ^ k) 0 < 2 * 2 ^ k
    by true lt = omega arith
    by false lt = omega arith

pub low-small : (k : ℕ) (letter : NameSet) → k ≤ 8 → low_number k letter < 65536
low-small k letter le = let h : 2 ^ k ≤ 2 ^ 8 = pow_mono le in omega (arith, low-lt k letter, h)

-- ---- one name more

cond-none : (b : Bool) (n : ℕ) → cond b n n ≡ n
cond-none true n = refl
cond-none false n = refl

cond-add : (b : Bool) (m n : ℕ) → cond b (m + n) 0 ≡ cond b m 0 + cond b n 0
cond-add true m n = refl
cond-add false m n = refl

abbrev only : ℕ → NameSet
only k = insert empty k

only-other : (k q : ℕ) → q ≢ k → contains (only k) q ≡ false
only-other k q apart = contains-insert_other empty k q apart ∙ contains-empty nat_cmp q

name-next : (n : NameBit) (k : ℕ) (letter : NameSet)
    → cond (nat_lt n.name (suc k) && contains letter n.name) (2 ^ n.place) 0
    ≡ cond (nat_lt n.name k && contains letter n.name) (2 ^ n.place) 0 + cond (contains letter k) (cond (contains (only k) n.name) (2 ^ n.place) 0) 0
name-next n k letter =
    let bit = 2 ^ n.place in
    elim (cases_eq n.name k) [
      | inl e ↦
          let now : cond (nat_lt n.name (suc k) && contains letter n.name) bit 0 ≡ cond (contains letter k) bit 0 =
          ap (λ b. cond (b && contains letter n.name) bit 0) (lt-ltb n.name (suc k) (omega arith)) ∙ ap (λ q. cond (contains letter q) bit 0) e in
          let was : cond (nat_lt n.name k && contains letter n.name) bit 0 ≡ 0 = ap (λ b. cond (b && contains letter n.name) bit 0) (le-ltb n.name k (omega arith)) in
          let has : contains (only k) n.name ≡ true = ap (contains (only k)) e ∙ contains-insert_same empty k in
          let here : cond (contains letter k) (cond (contains (only k) n.name) bit 0) 0 ≡ cond (contains letter k) bit 0 =
          ap (λ b. cond (contains letter k) (cond b bit 0) 0) has in
          omega (arith, now, was, here)
      | inr apart ↦
          let same : nat_lt n.name (suc k) ≡ nat_lt n.name k = (elim (cases_lt n.name k) [
            | inl lt ↦ lt-ltb n.name (suc k) (omega arith) ∙ sym (lt-ltb n.name k lt)
            | inr le ↦ le-ltb n.name (suc k) (omega arith) ∙ sym (le-ltb n.name k le)
          ]) in
          let none : cond (contains letter k) (cond (contains (only k) n.name) bit 0) 0 ≡ 0 =
          ap (λ b. cond (contains letter k) (cond b bit 0) 0) (only-other k n.name apart) ∙ cond-none (contains letter k) 0 in
          let now : cond (nat_lt n.name (suc k) && contains letter n.name) bit 0 ≡ cond (nat_lt n.name k && contains letter n.name) bit 0 =
          ap (λ b. cond (b && contains letter n.name) bit 0) same in
          omega (arith, now, none)
    ]

bits-next : (names : List NameBit) (k : ℕ) (letter : NameSet)
    → bits_below (suc k) names letter ≡ bits_below k names letter + cond (contains letter k) (bits_of names (only k)) 0
bits-next [] k letter = omega (arith, cond-none (contains letter k) 0)
bits-next (n ∷ names) k letter =
    omega (arith, name-next n k letter, bits-next names k letter, cond-add (contains letter k) (cond (contains (only k) n.name) (2 ^ n.place) 0) (bits_of names (only k)))

-- ---- the table of one name more

pub low-start : (names : List NameBit) → AreLowParts (0 ∷ []) names 0
low-start names = record { long = refl; right = λ letter. none names letter }
  where
    none : (names : List NameBit) (letter : NameSet) → 0 ≡ bits_below 0 names letter
    none [] letter = refl
    none (n ∷ names) letter =
        omega (arith, none names letter, ap (λ b. cond (b && contains letter n.name) (2 ^ n.place) 0) (le-ltb n.name 0 (omega arith)))

pub low-more : (parts more : List ℕ) (names : List NameBit) (k bits : ℕ) → bits ≡ bits_of names (only k) → more ≡ parts ++ map (λ part. part + bits) parts
    → AreLowParts parts names k → AreLowParts more names (suc k)
low-more parts more names k bits e is are = let P : List ℕ → Type 0 = λ l. AreLowParts l names (suc k) in subst P (sym is) (record { long = long; right = right })
  where
    added : ℕ → ℕ
    added part = part + bits

    long : length (parts ++ map added parts) ≡ 2 ^ suc k
    long = length-append parts (map added parts) ∙ ap (λ n. length parts + n) (length-map parts added) ∙ rw pow-succ' (omega (arith, are.long))

    by : (letter : NameSet) (b : Bool) → get_or (parts ++ map added parts) (low_number k letter + cond b (2 ^ k) 0) 0 ≡ bits_below k names letter + cond b bits 0
    by letter true =
        let lt : low_number k letter < length parts = omega (arith, low-lt k letter, are.long) in
        ap (λ i. get_or (parts ++ map added parts) i 0) (omega (arith, are.long)) ∙ get_or-append-add parts (map added parts) (low_number k letter) 0
        ∙ get_or-map added parts (low_number k letter) 0 0 lt ∙ ap added (are.right letter)
    by letter false =
        let lt : low_number k letter < length parts = omega (arith, low-lt k letter, are.long) in
        ap (λ i. get_or (parts ++ map added parts) i 0) (omega arith) ∙ get_or_append_left parts (map added parts) 0 (low_number k letter) lt
        ∙ are.right letter ∙ omega arith

    right : (letter : NameSet) → get_or (parts ++ map added parts) (low_number (suc k) letter) 0 ≡ bits_below (suc k) names letter
    right letter = by letter (contains letter k) ∙ ap (λ n. bits_below k names letter + cond (contains letter k) n 0) e ∙ sym (bits-next names k letter)

-- ---- how great the entries are

pub each-within : (P Q : ℕ → Type 0) → ((n : ℕ) → P n → Q n) → (list : List ℕ) → Each P list → Each Q list
each-within P Q f [] e = tt
each-within P Q f (n ∷ list) (here, e) = (f n here, each-within P Q f list e)

each-map : (P Q : ℕ → Type 0) (f : ℕ → ℕ) → ((n : ℕ) → P n → Q (f n)) → (list : List ℕ) → Each P list → Each Q (map f list)
each-map P Q f go [] e = tt
each-map P Q f go (n ∷ list) (here, e) = (go n here, each-map P Q f go list e)

pub bound-more : (parts more : List ℕ) (k bits : ℕ) → bits < 65536 → more ≡ parts ++ map (λ part. part + bits) parts
    → Each (λ part. part ≤ k * 65536) parts → Each (λ part. part ≤ suc k * 65536) more
bound-more parts more k bits small is e =
    let P : ℕ → Type 0 = λ part. part ≤ k * 65536 in
    let Q : ℕ → Type 0 = λ part. part ≤ suc k * 65536 in
    let R : List ℕ → Type 0 = Each Q in
    subst R (sym is) (each-append Q parts (map (λ part. part + bits) parts) (each-within P Q (λ n le. omega arith) parts e) (each-map P Q (λ part. part + bits) (λ n le. omega arith) parts e))

-- ---- the other names

below-more : (names : List NameBit) (n : NameBit) (k : ℕ) (letter : NameSet)
    → bits_below k (names ++ n ∷ []) letter ≡ bits_below k names letter + cond (nat_lt n.name k && contains letter n.name) (2 ^ n.place) 0
below-more [] n k letter = omega arith
below-more (x ∷ names) n k letter = omega (arith, below-more names n k letter)

pub below-at : (names : List NameBit) (i : ℕ) (n : NameBit) (k : ℕ) (letter : NameSet) → i < length names → n ≡ get_or names i n
    → bits_below k (take (i + 1) names) letter ≡ bits_below k (take i names) letter + cond (nat_lt n.name k && contains letter n.name) (2 ^ n.place) 0
below-at names i n k letter lt is =
    ap (λ l. bits_below k l letter) (take_more names i n lt ∙ ap (λ x. take i names ++ x ∷ []) (sym is)) ∙ below-more (take i names) n k letter

-- ---- all parts of a variable

get-last : {A : Type 0} (xs : List A) (x : A) (v : ℕ) (y : A) → slice_get (xs ++ x ∷ []) v ≡ Some y → (slice_get xs v ≡ Some y) ⊎ ((v ≡ length xs) × (x ≡ y))
get-last [] x zero y e = inr (refl, cc)
get-last [] x (suc v) y e = absurd (cc)
get-last (z ∷ zs) x zero y e = inl e
get-last (z ∷ zs) x (suc v) y e = elim (get-last zs x v y e) [ inl f ↦ inl f | inr (at, same) ↦ inr (ap suc at, same) ]

-- what is looked up for the lowest names, and the bits of the others
pub looked-up : (parts : VariableParts) (letter : NameSet) (number low : ℕ) → number ≡ low_number 8 letter → slice_get parts.low number ≡ Some low
    → low + bits_of parts.high letter ≡ part_in parts letter
looked-up parts letter number low e at =
    ap (λ n. n + bits_of parts.high letter) (sym (get_or_from_slice_get parts.low number low 0 at) ∙ ap (λ i. get_or parts.low i 0) e)

pub none-high : (names : List NameBit) (letter : NameSet) → nat_eq (length names) 0 ≡ true → bits_of names letter ≡ 0
none-high [] letter e = refl
none-high (n ∷ names) letter e = let none : length (n ∷ names) ≡ 0 = eqb-true (length (n ∷ names)) 0 e in absurd (omega (arith, none))

pub no-parts : (atoms : List IndexedAtom) → AreParts [] atoms 0
no-parts atoms = record { long = refl; each = λ v parts at. absurd (cc) }

-- the parts of one variable more
pub parts-more : (lists : List VariableParts) (made : VariableParts) (atoms : List IndexedAtom) (n : ℕ) → AreParts lists atoms n → ArePartsOf made atoms n
    → AreParts (lists ++ made ∷ []) atoms (n + 1)
parts-more lists made atoms n are here = record {
  long = length-append lists (made ∷ []) ∙ ap (λ k. k + 1) are.long;
  each = λ v parts at.
      let P : ℕ → Type 0 = ArePartsOf made atoms in
      let Q : VariableParts → Type 0 = λ p. ArePartsOf p atoms v in
      elim (get-last lists made v parts at) [
        | inl old ↦ are.each v parts old
        | inr (last, same) ↦ subst Q same (subst P (sym (last ∙ are.long)) here)
      ];
}

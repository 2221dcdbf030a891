-- What is carried from place to place, and until as a sum of two words.
use Rattle.std.proofs.Common.{◌≡◌, ℕ, zero, suc, ◌+◌, ◌*◌, ◌-◌, ◌/◌, ◌%◌, ◌^◌, ◌<◌, ◌≤◌, Bool, true, false, cond, not, ◌&&◌, ◌||◌, nat_eq, min, max, refl, sym, ap, ◌∙◌, arith, bit_and, bit_or, w64}
use mir.Val.{bool_byte}
use Rattle.std.specs.Bool.{beq}
use Rattle.std.specs.Int.{bit_at, bit_not}
use Rattle.std.specs.Int.RustNames.{bit_xor}
use Rattle.std.proofs.Math.Nat.{mod-add-mod}
use Rattle.std.proofs.lemmas.Nat.{or_shr, div-add-mod', pow_pos, mod_below, xor_lt}
use Rattle.std.proofs.lemmas.Nat.Bits.{bit_at_lowest, bit_at-suc, bit_at_and, bit_at_or, bit_at_xor, bit_at_not, bit_at-lt, bit_at-zero, bit_at_cat_low}
use Rattle.hy_bits.specs.Binary.{has_one}
use Rattle.hy_bits.proofs.RowOperations.{one_or}
use Rattle.hy_finite.specs.declared.rule.Rule.{Rule}
use Rattle.hy_finite.specs.declared.rule.Rule.TheVariants.{Next, Until, Release}
use Rattle.hy_finite.specs.Rules.{says, carries, carry_at}

-- ---- places

-- from place n on, as from place 0 with what is carried there
pub carry-shifted : (rule : Rule) (f g f' g' : ℕ → Bool) (c : Bool) (n m : ℕ)
    → ((i j : ℕ) → i < m → j ≡ n + i → f j ≡ f' i) → ((i j : ℕ) → i < m → j ≡ n + i → g j ≡ g' i)
    → (k j : ℕ) → k ≤ m → j ≡ n + k → carry_at rule f g c j ≡ carry_at rule f' g'
    (carry_at rule f g c n) k
carry-shifted rule f g f' g' c n m p q zero j le e =
    let same : j ≡ n = omega arith in ap (carry_at rule f g c) same
carry-shifted rule f g f' g' c n m p q (suc k) zero le e = absurd (omega arith)
carry-shifted rule f g f' g' c n m p q (suc k) (suc j) le e =
    let before = carry-shifted rule f g f' g' c n m p q k j (omega arith) (omega arith) in
    let left = p k j (omega arith) (omega arith) in
    let right = q k j (omega arith) (omega arith) in
    ap (λ x. carries rule x (says rule x (g j) (carry_at rule f g c j))) left
    ∙ ap (λ x. carries rule (f' k) (says rule (f' k) x (carry_at rule f g c j))) right
    ∙ ap (λ x. carries rule (f' k) (says rule (f' k) (g' k) x)) before

-- two rules carry the same, where they do at each place; or, with `turn`, the opposite
pub carry-like : (turn : Bool → Bool) (r s : Rule) (f g f' g' : ℕ → Bool) (c c' : Bool) (m : ℕ)
    → c ≡ turn c'
    → ((k : ℕ) → k < m → (b : Bool) → carries r (f k) (says r (f k) (g k) (turn b)) ≡ turn
    (carries s (f' k) (says s (f' k) (g' k) b)))
    → (k : ℕ) → k ≤ m → carry_at r f g c k ≡ turn (carry_at s f' g' c' k)
carry-like turn r s f g f' g' c c' m first each zero le = first
carry-like turn r s f g f' g' c c' m first each (suc k) le =
    ap (λ x. carries r (f k) (says r (f k) (g k) x))
    (carry-like turn r s f g f' g' c c' m first each k (omega arith))
    ∙ each k (omega arith) (carry_at s f' g' c' k)

-- ---- bits

pub has_one-or : (a b k : ℕ) → has_one (bit_or a b) k ≡ (has_one a k || has_one b k)
has_one-or a b k =
    ap (λ x. nat_eq x 1) (bit_at_or a b k)
    ∙ one_or (bit_at a k) (bit_at b k) (bit_at-lt a k) (bit_at-lt b k)

one-and : (a b : ℕ) → a < 2 → b < 2 → nat_eq (min a b) 1 ≡ (nat_eq a 1 && nat_eq b 1)
one-and zero zero la lb = refl
one-and zero (suc zero) la lb = refl
one-and (suc zero) zero la lb = refl
one-and (suc zero) (suc zero) la lb = refl
one-and (suc (suc a)) b la lb = absurd (omega arith)
one-and a (suc (suc b)) la lb = absurd (omega arith)

pub has_one-and : (a b k : ℕ) → has_one (bit_and a b) k ≡ (has_one a k && has_one b k)
has_one-and a b k =
    ap (λ x. nat_eq x 1) (bit_at_and a b k)
    ∙ one-and (bit_at a k) (bit_at b k) (bit_at-lt a k) (bit_at-lt b k)

one-not : (a : ℕ) → a < 2 → nat_eq (1 - a) 1 ≡ not (nat_eq a 1)
one-not zero lt = refl
one-not (suc zero) lt = refl
one-not (suc (suc a)) lt = absurd (omega arith)

pub has_one-not : (a k : ℕ) → a < 2 ^ 64 → k < 64 → has_one (bit_not w64 a) k ≡ not (has_one a k)
has_one-not a k fits lt =
    ap (λ x. nat_eq x 1) (bit_at_not w64 a k fits lt) ∙ one-not (bit_at a k) (bit_at-lt a k)

one-iff : (a b : ℕ) → a < 2 → b < 2 → not (nat_eq ((a + b) % 2) 1) ≡ beq (nat_eq a 1) (nat_eq b 1)
one-iff zero zero la lb = refl
one-iff zero (suc zero) la lb = refl
one-iff (suc zero) zero la lb = refl
one-iff (suc zero) (suc zero) la lb = refl
one-iff (suc (suc a)) b la lb = absurd (omega arith)
one-iff a (suc (suc b)) la lb = absurd (omega arith)

pub has_one-iff : (a b k : ℕ) → a < 2 ^ 64 → b < 2 ^ 64 → k < 64
    → has_one (bit_not w64 (bit_xor a b)) k ≡ beq (has_one a k) (has_one b k)
has_one-iff a b k fa fb lt =
    has_one-not (bit_xor a b) k (xor_lt 64 a b fa fb) lt
    ∙ ap (λ x. not (nat_eq x 1)) (bit_at_xor a b k)
    ∙ one-iff (bit_at a k) (bit_at b k) (bit_at-lt a k) (bit_at-lt b k)

-- the low bits of a remainder
low-bits : (w n k : ℕ) → k < w → bit_at (n % 2 ^ w) k ≡ bit_at n k
low-bits w n k lt =
    sym (bit_at_cat_low (n / 2 ^ w) w (n % 2 ^ w) k lt)
    ∙ ap (λ x. bit_at x k) (div-add-mod' n (2 ^ w))

-- ---- a word moved up by one place, with a bit put in

first-bit : (f : ℕ) (c : Bool) → bit_at (bit_or (f * 2 % 2 ^ 64) (cond c 1 0)) 0 ≡ cond c 1 0
first-bit f c =
    bit_at_or (f * 2 % 2 ^ 64) (cond c 1 0) 0
    ∙ ap (λ x. max x (bit_at (cond c 1 0) 0)) (low-bits 64 (f * 2) 0 (omega arith)
    ∙ bit_at_lowest (f * 2) ∙ even)
    ∙ in-place c
  where
    even : f * 2 % 2 ≡ 0
    even = omega arith

    in-place : (c : Bool) → max 0 (bit_at (cond c 1 0) 0) ≡ cond c 1 0
    in-place true = refl
    in-place false = refl

later-bit : (f : ℕ) (c : Bool) (k : ℕ) → suc k < 64
    → bit_at (bit_or (f * 2 % 2 ^ 64) (cond c 1 0)) (suc k) ≡ bit_at f k
later-bit f c k lt =
    bit_at_or (f * 2 % 2 ^ 64) (cond c 1 0) (suc k)
    ∙ ap (λ x. max x (bit_at (cond c 1 0) (suc k))) (low-bits 64 (f * 2) (suc k) lt
    ∙ bit_at-suc (f * 2) k ∙ ap (λ x. bit_at x k) half)
    ∙ ap (max (bit_at f k)) (none c)
    ∙ omega arith
  where
    half : f * 2 / 2 ≡ f
    half = omega arith

    none : (c : Bool) → bit_at (cond c 1 0) (suc k) ≡ 0
    none true = bit_at-suc 1 k ∙ bit_at-zero k
    none false = bit_at-zero (suc k)

pub has_one-next : (f : ℕ) (g : ℕ → Bool) (c : Bool) (k : ℕ) → k < 64
    → has_one (bit_or (f * 2 % 2 ^ 64) (cond c 1 0)) k ≡ carry_at Next (has_one f) g c k
has_one-next f g c zero lt = ap (λ x. nat_eq x 1) (first-bit f c) ∙ back c
  where
    back : (c : Bool) → nat_eq (cond c 1 0) 1 ≡ c
    back true = refl
    back false = refl
has_one-next f g c (suc k) lt = ap (λ x. nat_eq x 1) (later-bit f c k lt)

-- ---- until as a sum

-- what a sum of three bits carries, where the first is the greater of two
carried : (a b : ℕ) (c : Bool) → a < 2 → b < 2
    → (max a b + b + cond c 1 0) / 2 ≡ cond (nat_eq b 1 || (nat_eq a 1 && c)) 1 0
carried zero zero true la lb = refl
carried zero zero false la lb = refl
carried zero (suc zero) true la lb = refl
carried zero (suc zero) false la lb = refl
carried (suc zero) zero true la lb = refl
carried (suc zero) zero false la lb = refl
carried (suc zero) (suc zero) true la lb = refl
carried (suc zero) (suc zero) false la lb = refl
carried (suc (suc a)) b c la lb = absurd (omega arith)
carried a (suc (suc b)) c la lb = absurd (omega arith)

halves : (x y c : ℕ) → (x + y + c) / 2 ≡ x / 2 + y / 2 + (x % 2 + y % 2 + c) / 2
halves x y c = omega arith

-- The bits of the sum, by those of its parts and what is carried to them.
sum-bit : (k f g : ℕ) (c : Bool) → bit_at (bit_or f g + g + cond c 1 0) k ≡ (bit_at
    (bit_or f g) k + bit_at g k + cond (carry_at Until (has_one f) (has_one g) c k) 1 0) % 2
sum-bit zero f g c =
    bit_at_lowest (bit_or f g + g + cond c 1 0)
    ∙ lowest (bit_or f g) g (cond c 1 0)
    ∙ ap (λ x. (x + g % 2 + cond c 1 0) % 2) (sym (bit_at_lowest (bit_or f g)))
    ∙ ap (λ x. (bit_at (bit_or f g) 0 + x + cond c 1 0) % 2) (sym (bit_at_lowest g))
  where
    lowest : (x y z : ℕ) → (x + y + z) % 2 ≡ (x % 2 + y % 2 + z) % 2
    lowest x y z = omega arith
sum-bit (suc k) f g c =
    bit_at-suc (bit_or f g + g + cond c 1 0) k
    ∙ ap (λ x. bit_at x k) (halves (bit_or f g) g (cond c 1 0))
    ∙ ap (λ x. bit_at (x + g / 2 + (bit_or f g % 2 + g % 2 + cond c 1 0) / 2) k) half
    ∙ ap (λ x. bit_at (bit_or (f / 2) (g / 2) + g / 2 + x) k) next
    ∙ sum-bit k (f / 2) (g / 2) c'
    ∙ ap (λ x. (x + bit_at (g / 2) k + cond (carry_at Until (has_one (f / 2)) (has_one
    (g / 2)) c' k) 1 0) % 2) (ap (λ x. bit_at x k) (sym half) ∙ sym (bit_at-suc (bit_or f g) k))
    ∙ ap (λ x. (bit_at (bit_or f g) (suc k) + x + cond (carry_at Until (has_one (f / 2)) (has_one
    (g / 2)) c' k) 1 0) % 2) (sym (bit_at-suc g k))
    ∙ ap (λ x. (bit_at (bit_or f g) (suc k) + bit_at g (suc k) + cond x 1 0) % 2) (sym shifted)
  where
    c' : Bool
    c' = has_one g 0 || (has_one f 0 && c)

    half : bit_or f g / 2 ≡ bit_or (f / 2) (g / 2)
    half = or_shr f g 1

    next : (bit_or f g % 2 + g % 2 + cond c 1 0) / 2 ≡ cond c' 1 0
    next =
        ap (λ x. (x + g % 2 + cond c 1 0) / 2) (sym (bit_at_lowest (bit_or f g)) ∙ bit_at_or f g 0)
        ∙ ap (λ x. (max (bit_at f 0) (bit_at g 0) + x + cond c 1 0) / 2) (sym (bit_at_lowest g))
        ∙ carried (bit_at f 0) (bit_at g 0) c (bit_at-lt f 0) (bit_at-lt g 0)

    shifted : carry_at Until (has_one f) (has_one g) c (suc k) ≡ carry_at Until (has_one (f / 2))
        (has_one (g / 2)) c' k
    shifted =
        carry-shifted Until (has_one f) (has_one g) (has_one (f / 2)) (has_one (g / 2)) c 1 k
        (after f) (after g) k (suc k) (omega arith) (omega arith)
      where
        after : (n i j : ℕ) → i < k → j ≡ 1 + i → has_one n j ≡ has_one (n / 2) i
        after n i zero lt e = absurd (omega arith)
        after n i (suc j) lt e =
            let same : j ≡ i = omega arith in ap (λ x. nat_eq x 1) (bit_at-suc n j
            ∙ ap (bit_at (n / 2)) same)

-- until by what the sum has not
until-bits : (f g s : ℕ) (u : Bool) → f < 2 → g < 2 → s ≡ (max f g + g + cond u 1 0) % 2
    → nat_eq (max g (min f (1 - s))) 1 ≡ (nat_eq g 1 || (nat_eq f 1 && u))
until-bits zero zero s true lf lg e = rw e refl
until-bits zero zero s false lf lg e = rw e refl
until-bits zero (suc zero) s true lf lg e = rw e refl
until-bits zero (suc zero) s false lf lg e = rw e refl
until-bits (suc zero) zero s true lf lg e = rw e refl
until-bits (suc zero) zero s false lf lg e = rw e refl
until-bits (suc zero) (suc zero) s true lf lg e = rw e refl
until-bits (suc zero) (suc zero) s false lf lg e = rw e refl
until-bits (suc (suc f)) g s u lf lg e = absurd (omega arith)
until-bits f (suc (suc g)) s u lf lg e = absurd (omega arith)

pub has_one-until : (f g : ℕ) (c : Bool) (k : ℕ) → k < 64
    → has_one (bit_or g (bit_and f (bit_not w64 (((bit_or f g + g) % 2 ^ 64 + cond c 1 0) % 2 ^
    64)))) k
    ≡ carry_at Until (has_one f) (has_one g) c (suc k)
has_one-until f g c k lt =
    ap (λ x. nat_eq x 1) (bit_at_or g (bit_and f (bit_not w64 sum)) k
    ∙ ap (max (bit_at g k)) (bit_at_and f (bit_not w64 sum) k
    ∙ ap (min (bit_at f k)) (bit_at_not w64 sum k fits lt)))
    ∙ until-bits (bit_at f k) (bit_at g k) (bit_at sum k) (carry_at Until (has_one f)
    (has_one g) c k) (bit_at-lt f k) (bit_at-lt g k) bits
  where
    sum : ℕ
    sum = ((bit_or f g + g) % 2 ^ 64 + cond c 1 0) % 2 ^ 64

    fits : sum < 2 ^ 64
    fits = mod_below ((bit_or f g + g) % 2 ^ 64 + cond c 1 0) (2 ^ 64) (pow_pos 64)

    bits : bit_at sum k ≡ (max (bit_at f k) (bit_at g k) + bit_at g k + cond (carry_at Until
        (has_one f) (has_one g) c k) 1 0) % 2
    bits =
        ap (λ x. bit_at x k) (mod-add-mod (bit_or f g + g) (2 ^ 64) (cond c 1 0))
        ∙ low-bits 64 (bit_or f g + g + cond c 1 0) k lt
        ∙ sum-bit k f g c
        ∙ ap (λ x. (x + bit_at g k + cond (carry_at Until (has_one f) (has_one g) c k) 1 0) % 2)
        (bit_at_or f g k)

-- ---- release, by until of the negations

turned-release : (f g b : Bool) → (g && (f || not b)) ≡ not (not g || (not f && b))
turned-release true true true = refl
turned-release true true false = refl
turned-release true false b = refl
turned-release false true true = refl
turned-release false true false = refl
turned-release false false b = refl

not-not : (b : Bool) → b ≡ not (not b)
not-not true = refl
not-not false = refl

pub release-turned : (f g f' g' : ℕ → Bool) (c : Bool) (m : ℕ) → ((k : ℕ) → k < m
    → f' k ≡ not (f k)) → ((k : ℕ) → k < m → g' k ≡ not (g k))
    → (k : ℕ) → k ≤ m → carry_at Release f g c k ≡ not (carry_at Until f' g' (not c) k)
release-turned f g f' g' c m p q =
    carry-like not Release Until f g f' g' c (not c) m (not-not c)
    (λ k lt b. turned-release (f k) (g k) b ∙ ap (λ x. not (x || (not (f k) && b))) (sym (q k lt))
    ∙ ap (λ x. not (g' k || (x && b))) (sym (p k lt)))

-- a truth value as a number
pub byte-of : (c : Bool) → bool_byte c ≡ cond c 1 0
byte-of true = refl
byte-of false = refl

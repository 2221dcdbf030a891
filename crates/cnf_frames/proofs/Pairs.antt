-- Pairs of frames, and where their further variables stand.
use Rattle.std.proofs.Common.{◌≡◌, ℕ, zero, suc, ◌+◌, ◌-◌, ◌*◌, ◌<◌, ◌≤◌, length, inl, inr, sym, ap, ◌∙◌, subst, arith}
use Rattle.std.proofs.Math.Nat.{mul-le-mul_left}
use Rattle.std.proofs.lemmas.Bool.{cases_eq}
use Rattle.aig_net.specs.Nets.{Net, variables}
use Rattle.cnf_frames.specs.Queries.{pairs_before, pair_start}
use Rattle.cnf_frames.specs.Counts.{pairs}

pub pairs-more : (k i n : ℕ) → i < n → pairs_before k i + (k - i) ≤ pairs_before k n
pairs-more k i zero lt = absurd (omega arith)
pairs-more k i (suc n) lt =
    elim (cases_eq i n) [
      | inl e ↦ let P : ℕ → Type 0 = λ i. pairs_before k i + (k - i) ≤ pairs_before k (suc n) in
          subst P (sym e) (omega arith)
      | inr apart ↦ omega (arith, pairs-more k i n (omega arith))
    ]

-- the further variables of the next frame come after those of this one
on : (a p x L : ℕ) → a + (p + 0) * L + x * L ≡ a + (p + x + 0) * L
on a p x L = omega arith

pub next-start : (net : Net) (k i L d : ℕ) → L ≡ length net.latches → d ≡ pair_start net k i 0 →
    d + (k - i) * L ≡ pair_start net k (i + 1) 0
next-start net k i L d e f =
    let up : suc i ≡ i + 1 = omega arith in
    ap (λ l. d + (k - i) * l) e ∙ ap (λ x. x + (k - i) * length net.latches) f
    ∙ on ((k + 2) * variables net) (pairs_before k i) (k - i) (length net.latches)
    ∙ ap (λ j. pair_start net k j 0) up

-- There is room for those of each frame.
pub start-room : (net : Net) (k i n : ℕ) → i < suc k → pair_start net k (suc k) 0 ≤ n →
    pair_start net k (suc i) 0 ≤ n
start-room net k i n lt room =
    let more : pairs_before k (suc i) + 0 ≤ pairs_before k (suc k) + 0 =
    omega (arith, pairs-more k i (suc k) lt) in
    let times : length net.latches * (pairs_before k (suc i) + 0)
    ≤ length net.latches * (pairs_before k (suc k) + 0) =
    mul-le-mul_left (length net.latches) more in
    at ((k + 2) * variables net) (pairs_before k (suc i) + 0) (pairs_before k (suc k) + 0)
    (length net.latches) times room
  where
    at : (a p q L : ℕ) → L * p ≤ L * q → a + q * L ≤ n → a + p * L ≤ n
    at a p q L le few = omega (arith, le, few)

pub next-room : (net : Net) (k i n L d : ℕ) → L ≡ length net.latches → d ≡ pair_start net k i 0 →
    i < suc k → pair_start net k (suc k) 0 ≤ n → d + (k - i) * L ≤ n
next-room net k i n L d e f lt room =
    let up : i + 1 ≡ suc i = omega arith in
    let P : ℕ → Type 0 = λ x. x ≤ n in
    subst P (sym (next-start net k i L d e f ∙ ap (λ j. pair_start net k j 0) up))
    (start-room net k i n lt room)

-- how many pairs there are, twice
doubled : (k n : ℕ) → n ≤ suc k → 2 * pairs_before k n + n * n ≡ n * (2 * k + 1)
doubled k zero le = omega arith
doubled k (suc n) le = step (pairs_before k n) (k - n) (omega arith) (doubled k n (omega arith))
  where
    step : (p x : ℕ) → n + x ≡ k → 2 * p + n * n ≡ n * (2 * k + 1) →
        2 * (p + x) + suc n * suc n ≡ suc n * (2 * k + 1)
    step p x e h = omega (arith, h, e)

pub pairs-counted : (k : ℕ) → pairs_before k (k + 1) ≡ pairs k
pairs-counted k =
    let up : k + 1 ≡ suc k = omega arith in
    let h = doubled k (suc k) (omega arith) in
    ap (pairs_before k) up ∙ half (pairs_before k (suc k)) h
  where
    half : (p : ℕ) → 2 * p + suc k * suc k ≡ suc k * (2 * k + 1) → p ≡ pairs k
    half p h =
        let e : 2 * p ≡ k * (k + 1) = omega (arith, h) in
        omega (arith, e)

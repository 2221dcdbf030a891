-- The free latches of copies of a net with oracles.
use Rattle.std.proofs.Common.{◌≡◌, ℕ, zero, suc, ◌+◌, ◌*◌, ◌<◌, ◌≤◌, Bool, true, false, cond, length, refl, ap, ◌∙◌, arith, inl, inr}
use Rattle.std.proofs.lemmas.Bool.{cases_eq}
use Rattle.aig_net.specs.declared.parts.Reset.TheVariants.{Zero}
use Rattle.aig_net.specs.Nets.{Net, IsNet, reset_at}
use Rattle.aig_net.proofs.Copying.{at-copied, length-copied}
use Rattle.self_compose.specs.Copies.{compose, copy_reset}
use Rattle.sym_tableau.specs.Oracles.{oracles}
use Rattle.sym_tableau.proofs.Parts.{many-latches, reset-oracle, reset-old, reset-started}
use Rattle.live_safe.specs.Safe.{count_below, free_at, is_free, safe_inputs}
use Rattle.wit_lasso.specs.FormulaNets.{Tableau, tableau_net}
use Rattle.wit_lasso.specs.PathParts.{free_before, is_free_at, take_place}

none-below : (test : ℕ → Bool) (n : ℕ) → ((k : ℕ) → k < n → test k ≡ false) →
    count_below test n ≡ 0
none-below test zero off = refl
none-below test (suc n) off =
    ap (λ b. cond b (suc (count_below test n)) (count_below test n)) (off n (omega arith))
    ∙ none-below test n (λ k lt. off k (omega arith))

-- what is counted behind s where nothing is below
behind : (test other : ℕ → Bool) (s n : ℕ) → ((k : ℕ) → k < s → test k ≡ false) →
    ((k : ℕ) → k < n → test (s + k) ≡ other k) → count_below test (s + n) ≡ count_below other n
behind test other s zero off same =
    let e : s + 0 ≡ s = omega arith in
    ap (count_below test) e ∙ none-below test s off
behind test other s (suc n) off same =
    let e : s + suc n ≡ suc (s + n) = omega arith in
    ap (count_below test) e
    ∙ ap (λ b. cond b (suc (count_below test (s + n))) (count_below test (s + n)))
    (same n (omega arith))
    ∙ ap (λ x. cond (other n) (suc x) x)
    (behind test other s n off (λ k lt. same k (omega arith)))

-- n of each: what is counted up to copy c of item j
module _ (test own : ℕ → Bool) (n m : ℕ)
    (same : (j c : ℕ) → j < m → c < n → test (j * n + c) ≡ own j) where
  some-of : (j : ℕ) → j < m → (c : ℕ) → c ≤ n →
      count_below test (j * n + c) ≡ count_below test (j * n + 0) + cond (own j) c 0
  some-of j lt zero le = at (own j)
    where
      at : (b : Bool) → count_below test (j * n + 0) ≡ count_below test (j * n + 0) + cond b 0 0
      at true = omega arith
      at false = omega arith
  some-of j lt (suc c) le =
      let e : j * n + suc c ≡ suc (j * n + c) = omega arith in
      ap (count_below test) e
      ∙ ap (λ b. cond b (suc (count_below test (j * n + c))) (count_below test (j * n + c)))
      (same j c lt le)
      ∙ ap (λ x. cond (own j) (suc x) x) (some-of j lt c (omega arith))
      ∙ at (own j) (count_below test (j * n + 0))
    where
      at : (b : Bool) (x : ℕ) → cond b (suc (x + cond b c 0)) (x + cond b c 0) ≡ x
          + cond b (suc c) 0
      at true x = omega arith
      at false x = omega arith

  each-of : (j : ℕ) → j ≤ m → count_below test (j * n + 0) ≡ count_below own j * n
  each-of zero le =
      let none : 0 * n + 0 ≡ 0 = omega arith in
      let plain : 0 ≡ 0 * n = omega arith in
      ap (count_below test) none ∙ plain
  each-of (suc j) le =
      let e : suc j * n + 0 ≡ j * n + n = omega arith in
      ap (count_below test) e ∙ some-of j (omega arith) n (omega arith)
      ∙ ap (λ x. x + cond (own j) n 0) (each-of j (omega arith))
      ∙ at (own j) (count_below own j)
    where
      at : (b : Bool) (x : ℕ) → x * n + cond b n 0 ≡ cond b (suc x) x * n
      at true x = omega arith
      at false x = omega arith

module _ (net : Net) (good : IsNet net) (n : ℕ) (t : Tableau) where
  abbrev all : Net
  all = compose net n

  abbrev tab : Net
  tab = tableau_net net n t

  abbrev front : ℕ
  front = suc (oracles t.nodes)

  reset-copied : (j c : ℕ) → j < length net.resets → c < n →
      reset_at all.resets (j * n + c) ≡ reset_at net.resets j
  reset-copied j c lt few = at-copied n (copy_reset n) net.resets Zero Zero j c lt few

  -- the reset of a latch of copy c
  pub reset-there : (j c : ℕ) → j < length net.resets → c < n →
      reset_at tab.resets (oracles t.nodes + suc (j * n + c)) ≡ reset_at net.resets j
  reset-there j c lt few = reset-old all t.nodes (j * n + c) ∙ reset-copied j c lt few

  front-off : (k : ℕ) → k < front → free_at tab k ≡ false
  front-off k lt =
      elim (cases_eq k (oracles t.nodes)) [
        | inl e ↦ ap (λ x. is_free (reset_at tab.resets x)) e
            ∙ ap is_free (reset-started all t.nodes)
        | inr apart ↦ ap is_free (reset-oracle all t.nodes k (omega (arith, apart, lt)))
      ]

  behind-front : (k : ℕ) → free_at tab (front + k) ≡ is_free_at all.resets k
  behind-front k =
      let e : front + k ≡ oracles t.nodes + suc k = omega arith in
      ap (λ x. is_free (reset_at tab.resets x)) e ∙ ap is_free (reset-old all t.nodes k)

  free-of : (m : ℕ) → count_below (free_at tab) (front + m) ≡ free_before all.resets m
  free-of m = behind (free_at tab) (is_free_at all.resets) front m front-off
      (λ k lt. behind-front k)

  same-free : (j c : ℕ) → j < length net.resets → c < n →
      is_free_at all.resets (j * n + c) ≡ is_free_at net.resets j
  same-free j c lt few = ap is_free (reset-copied j c lt few)

  -- how many free latches stand before that of copy c, where it is free
  pub free-there : (j c : ℕ) → j < length net.resets → c < n →
      is_free_at net.resets j ≡ true →
      count_below (free_at tab) (oracles t.nodes + suc (j * n + c)) ≡ free_before net.resets j * n
      + c
  free-there j c lt few is =
      let e : oracles t.nodes + suc (j * n + c) ≡ front + (j * n + c) = omega arith in
      let own : ℕ → Bool = is_free_at net.resets in
      let test : ℕ → Bool = is_free_at all.resets in
      ap (count_below (free_at tab)) e ∙ free-of (j * n + c)
      ∙ some-of test own n (length net.resets) same-free j lt c (omega (arith, few))
      ∙ ap (λ x. x + cond (own j) c 0)
      (each-of test own n (length net.resets) same-free j (omega (arith, lt)))
      ∙ ap (λ b. free_before net.resets j * n + cond b c 0) is

  -- how many there are
  pub free-all : count_below (free_at tab) (length tab.latches) ≡ free_before net.resets
      (length net.resets) * n
  free-all =
      let ls = many-latches all t.nodes in
      let copies : length all.latches ≡ length net.latches * n =
      length-copied n _ net.latches in
      let many : length net.resets ≡ length net.latches = good.resets in
      let times : length net.resets * n ≡ length net.latches * n = ap (λ x. x * n) many in
      let e : length tab.latches ≡ front + (length net.resets * n + 0) =
      omega (arith, ls, copies, times) in
      ap (count_below (free_at tab)) e ∙ free-of (length net.resets * n + 0)
      ∙ each-of (is_free_at all.resets) (is_free_at net.resets) n (length net.resets) same-free
      (length net.resets) (omega arith)

  -- the inputs of the safe net: those of the copies, the oracles, `take`, and those of free latches
  pub inputs-are : safe_inputs tab ≡ net.inputs * n + oracles t.nodes + suc
      (free_before net.resets (length net.resets) * n)
  inputs-are = ap (λ x. net.inputs * n + oracles t.nodes + suc x) free-all

  pub place-is : (inputs : ℕ) → inputs ≡ safe_inputs tab →
      take_place net n inputs ≡ tab.inputs
  place-is inputs e =
      let f = inputs-are in omega (arith, e, f)

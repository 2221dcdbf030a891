-- One step of a chain.
use Rattle.std.proofs.Common.{◌≡◌, ℕ, ◌+◌, ◌-◌, ◌<◌, ◌≤◌, ◌↔◌, List, [], ◌∷◌, ◌++◌, Some, length, get_or, drop, nat_eq, inl, inr, refl, sym, ap, ◌∙◌, subst, arith}
use Rattle.std.specs.Prelude.{IsTrue, ℤ, slice_get}
use Rattle.std.specs.List.{Contains}
use Rattle.std.proofs.lemmas.List.{get_or_append_left, get_or-append-add, length-append, drop_more, length-drop, drop_all}
use Rattle.std.proofs.lemmas.Bool.{eqb-true, eq-eqb}
use Rattle.std.proofs.lemmas.Option.{slice_get_within, get_or_from_slice_get, slice_get-get_or}
use Rattle.chain_check.specs.Clauses.{Clause}
use Rattle.chain_check.specs.Chains.{AllFalseIn, IsUnit, IsNumbered, AreTwo, Refutes, ends, goes}
use Rattle.chain_check.proofs.Literals.{same-or-not}

-- a number names one clause
pub one-clause : (clauses : List Clause) (k : ℕ) (c d : Clause) → IsNumbered clauses k c →
    IsNumbered clauses k d → c ≡ d
one-clause clauses k c d one two = sym (get_or_from_slice_get clauses (k - 1) c [] one.there) ∙
    get_or_from_slice_get clauses (k - 1) d [] two.there

pub none-open : (clauses : List Clause) {trues : List ℤ} {k : ℕ} {chain : List ℕ} (c : Clause) →
    IsNumbered clauses k c → AllFalseIn trues c → Refutes clauses trues (k ∷ chain) → chain ≡ []
none-open clauses c at false' (ends d at' false'') = refl
none-open clauses {k = k} c at false' (goes d l at' unit rest) =
    let P : Clause → Type 0 = λ e. Contains e l in
    absurd (unit.open_yet (false' l (subst P (one-clause clauses k d c at' at) unit.there)))

pub two-open : (clauses : List Clause) {trues : List ℤ} {k : ℕ} {chain : List ℕ} (c : Clause)
    (l m : ℤ) → IsNumbered clauses k c → AreTwo trues c l m → ¬ Refutes clauses trues (k ∷ chain)
two-open clauses {trues} {k} c l m at two (ends d at' false') =
    let P : Clause → Type 0 = λ e. AllFalseIn trues e in
    let all : P c = subst P (one-clause clauses k d c at' at) false' in
    two.open_first (all l two.first)
two-open clauses {trues} {k} c l m at two (goes d u at' unit rest) =
    let P : Clause → Type 0 = λ e. IsUnit trues e u in
    let its : P c = subst P (one-clause clauses k d c at' at) unit in
    elim (same-or-not l u) [
      | inl e ↦ two.open_second (its.others m two.second (λ f. two.differ (e ∙ sym f)))
      | inr apart ↦ two.open_first (its.others l two.first apart)
    ]

pub one-open : (clauses : List Clause) {trues : List ℤ} {k : ℕ} {chain : List ℕ} (c : Clause)
    (l : ℤ) → IsNumbered clauses k c → IsUnit trues c l → Refutes clauses trues (k ∷ chain) →
    Refutes clauses (trues ++ l ∷ []) chain
one-open clauses {trues} {k} c l at unit (ends d at' false') =
    let P : Clause → Type 0 = λ e. AllFalseIn trues e in
    let all : P c = subst P (one-clause clauses k d c at' at) false' in
    absurd (unit.open_yet (all l unit.there))
one-open clauses {trues} {k} {chain} c l at unit (goes d u at' unit' rest) =
    let P : Clause → Type 0 = λ e. IsUnit trues e u in
    let Q : ℤ → Type 0 = λ v. Refutes clauses (trues ++ v ∷ []) chain in
    let its : P c = subst P (one-clause clauses k d c at' at) unit' in
    elim (same-or-not u l) [
      | inl e ↦ subst Q e rest
      | inr apart ↦ absurd (its.open_yet (unit.others u its.there apart))
    ]

pub no-end : (clauses : List Clause) {trues : List ℤ} → ¬ Refutes clauses trues []
no-end clauses h = elim h [ ]

pub not-numbered : (clauses : List Clause) {trues : List ℤ} {k : ℕ} {chain : List ℕ} →
    ((c : Clause) → ¬ IsNumbered clauses k c) → ¬ Refutes clauses trues (k ∷ chain)
not-numbered clauses none (ends d at false') = none d at
not-numbered clauses none (goes d l at unit rest) = none d at

-- the clause at a place of two lists
pub in-first : (given learned : List Clause) (k : ℕ) (c : Clause) → 0 < k → k - 1 < length given →
    slice_get given (k - 1) ≡ Some c → IsNumbered (given ++ learned) k c
in-first given learned k c some lt at = record { counted = some; there = there }
  where
    same : get_or (given ++ learned) (k - 1) c ≡ c
    same = get_or_append_left given learned c (k - 1) lt ∙
        get_or_from_slice_get given (k - 1) c c at

    there : slice_get (given ++ learned) (k - 1) ≡ Some c
    there = slice_get-get_or (given ++ learned) (k - 1) c
        (omega (arith, length-append given learned)) ∙ ap Some same

pub in-second : (given learned : List Clause) (k : ℕ) (c : Clause) → 0 < k → length given ≤ k - 1 →
    slice_get learned ((k - 1) - length given) ≡ Some c → IsNumbered (given ++ learned) k c
in-second given learned k c some le at = record { counted = some; there = there }
  where
    place : length given + ((k - 1) - length given) ≡ k - 1
    place = omega arith

    lt : (k - 1) - length given < length learned
    lt = slice_get_within learned ((k - 1) - length given) c at

    same : get_or (given ++ learned) (k - 1) c ≡ c
    same =
        let P : ℕ → Type 0 = λ n. get_or (given ++ learned) n c ≡ c in
        subst P place (get_or-append-add given learned ((k - 1) - length given) c ∙
        get_or_from_slice_get learned ((k - 1) - length given) c c at)

    there : slice_get (given ++ learned) (k - 1) ≡ Some c
    there = slice_get-get_or (given ++ learned) (k - 1) c
        (omega (arith, length-append given learned, lt)) ∙ ap Some same

pub in-none : (given learned : List Clause) (k : ℕ) → length given + length learned ≤ k - 1 →
    (c : Clause) → ¬ IsNumbered (given ++ learned) k c
in-none given learned k past c at = omega (
  arith,
  slice_get_within (given ++ learned) (k - 1) c at.there,
  length-append given learned,
)

-- The chain from place i on says under `trues` what the whole says under `start`.
module _ (clauses : List Clause) (start trues : List ℤ) (chain : List ℕ) (i : ℕ)
    (lt : i < length chain) (iff : Refutes clauses trues (drop i chain) ↔
    Refutes clauses start chain) where
  here : drop i chain ≡ get_or chain i 0 ∷ drop (i + 1) chain
  here = drop_more chain i 0 lt

  forth : Refutes clauses trues (get_or chain i 0 ∷ drop (i + 1) chain) →
      Refutes clauses start chain
  forth h = let P : List ℕ → Type 0 = Refutes clauses trues in iff.0 (subst P (sym here) h)

  back : Refutes clauses start chain → Refutes clauses trues (get_or chain i 0 ∷ drop (i + 1) chain)
  back h = let P : List ℕ → Type 0 = Refutes clauses trues in subst P here (iff.1 h)

  pub stopped : ¬ Refutes clauses trues (get_or chain i 0 ∷ drop (i + 1) chain) →
      ¬ Refutes clauses start chain
  stopped none h = none (back h)

  pub at-end : (c : Clause) → IsNumbered clauses (get_or chain i 0) c → AllFalseIn trues c →
      IsTrue (nat_eq (i + 1) (length chain)) ↔ Refutes clauses start chain
  at-end c at false' = (
    λ e. forth (last (last-place e)),
    λ h. eq-eqb (i + 1) (length chain) (omega
        (arith, ap length (none-open clauses c at false' (back h)), length-drop (i + 1) chain)),
  )
    where
      last-place : IsTrue (nat_eq (i + 1) (length chain)) → drop (i + 1) chain ≡ []
      last-place e = let same : i + 1 ≡ length chain = eqb-true (i + 1) (length chain) e in
          drop_all (i + 1) chain (omega arith)

      last : drop (i + 1) chain ≡ [] → Refutes clauses trues (get_or chain i 0 ∷ drop (i + 1) chain)
      last e = let P : List ℕ → Type 0 = λ ks. Refutes clauses trues (get_or chain i 0 ∷ ks) in
          subst P (sym e) (ends c at false')

  pub onward : (c : Clause) (l : ℤ) → IsNumbered clauses (get_or chain i 0) c → IsUnit trues c l →
      Refutes clauses (trues ++ l ∷ []) (drop (i + 1) chain) ↔ Refutes clauses start chain
  onward c l at unit = (λ h. forth (goes c l at unit h), λ h. one-open clauses c l at unit (back h))

pub never : (clauses : List Clause) (start trues : List ℤ) (chain : List ℕ) (i : ℕ) →
    length chain ≤ i → (Refutes clauses trues (drop i chain) ↔ Refutes clauses start chain) →
    ¬ Refutes clauses start chain
never clauses start trues chain i past iff h = let P : List ℕ → Type 0 = Refutes clauses trues in
    no-end clauses (subst P (drop_all i chain past) (iff.1 h))

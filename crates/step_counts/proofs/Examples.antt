-- Where few traces branch off from each other, and the steps that are made then.
use Rattle.std.proofs.Common.{◌≡◌, ℕ, zero, suc, ◌<◌, ◌≤◌, ◌⊎◌, List, [], ◌∷◌, ◌+◌, ◌++◌, length, map, take, slice_index_or, sum, inl, inr, refl, sym, ap, subst, arith}
use Rattle.std.specs.List.{Contains}
use Rattle.std.specs.FinSet.{empty}
use Rattle.std.proofs.lemmas.List.Elements.{Contains-append_left, Contains-append_right}
use Rattle.hy_base.proofs.Members.{contains-here, contains-cases, contains-none}
use Rattle.hy_bits.specs.Letter.{Letter}
use Rattle.hy_finite.specs.Traces.{Trace}
use Rattle.hy_formula.specs.declared.formula.Formula.{Formula}
use Rattle.hy_formula.specs.Trees.{tree_of}
use Rattle.hy_finite.specs.declared.lengths.Lengths.{Lengths}
use Rattle.dominance.specs.Dominance.{IsSymmetric}
use Rattle.made_traces.specs.MadeTraces.{both_signals, made_traces}
use Rattle.rv_core.specs.Built.{spec_of_formula}
use Rattle.rv_core.specs.Endings.{Spec}
use Rattle.step_counts.specs.Branches.{Branches, counts_of, AreSymmetric}
use Rattle.step_counts.proofs.Making.{made-over}
use Rattle.step_counts.proofs.Wording.{words_of, lengths-of, branches-over}

-- a letter, and that letter before another one
module _ (a b c : Letter) where
  abbrev pub before : List Trace
  before = (a ∷ []) ∷ (a ∷ b ∷ []) ∷ []

  abbrev pub second : List (List Trace)
  second = [] ∷ ((a ∷ b ∷ []) ∷ []) ∷ []

  abbrev Begins : Trace → Type 0
  Begins u = (k : ℕ) → k < 2 → k < length u
      → (take (suc k) u ≡ take (suc k) (a ∷ c ∷ []))
      ⊎ Contains (slice_index_or second k []) (take (suc k) u)

  alone : Begins (a ∷ [])
  alone zero lt more = inl refl
  alone (suc k) lt more = absurd (omega (arith, more))

  with-second : Begins (a ∷ b ∷ [])
  with-second zero lt more = inl refl
  with-second (suc zero) lt more = inr (contains-here (a ∷ b ∷ []) [])
  with-second (suc (suc k)) lt more = absurd (omega (arith, lt))

  pub third-branches : Branches before (a ∷ c ∷ []) second
  third-branches = record { long = omega arith; right = each }
    where
      each : (u : Trace) (k : ℕ) → Contains before u → k < length (a ∷ c ∷ []) → k < length u
          → (take (suc k) u ≡ take (suc k) (a ∷ c ∷ []))
          ⊎ Contains (slice_index_or second k []) (take (suc k) u)
      each u k h lt more =
          let P : Trace → Type 0 = Begins in
          elim (contains-cases (a ∷ []) u ((a ∷ b ∷ []) ∷ []) h) [
            | inl e ↦ subst P e alone k lt more
            | inr later ↦ elim (contains-cases (a ∷ b ∷ []) u [] later) [
              | inl e ↦ subst P e with-second k lt more
              | inr none ↦ absurd (contains-none u none)
            ]
          ]

  pub third-is : (x y z : Trace) → x ≡ a ∷ [] → y ≡ a ∷ b ∷ [] → z ≡ a ∷ c ∷ []
      → Branches (x ∷ y ∷ []) z second
  third-is x y z e f g =
      let P : Trace → Type 0 = λ u. Branches (u ∷ y ∷ []) z second in
      let Q : Trace → Type 0 = λ u. Branches ((a ∷ []) ∷ u ∷ []) z second in
      let R : Trace → Type 0 = λ u. Branches before u second in
      subst P (sym e) (subst Q (sym f) (subst R (sym g) third-branches))

-- equal traces
pub equal-branches : (t : Trace) (list : List Trace) → ((u : Trace) → Contains list u → u ≡ t)
    → length t ≤ 2 → Branches list t ([] ∷ [] ∷ [])
equal-branches t list same few = record {
  long = few;
  right = λ u k c lt more. inl (ap (λ (v : Trace). take (suc k) v) (same u c));
}

-- a made trace behind made ones
pub made-branches : (table : List (List ℕ)) (n : ℕ) (list : List Trace) (t : Trace)
    → list ++ t ∷ [] ≡ made_traces table n
    → (words : List (List Trace)) × Branches list t words × (counts_of words ≡ 1 ∷ 3 ∷ 7 ∷ 15 ∷ [])
made-branches table n list t same =
    let x = both_signals table in
    let P : Trace → List Trace → Type 0 = λ u all. Contains all u in
    let here = subst (P t) same (Contains-append_right list (t ∷ []) t (contains-here t [])) in
    let (over, few) = made-over table n t here in (
      words_of x empty t over,
      branches-over x empty t over list
          (λ u c. (made-over table n u
          (subst (P u) same (Contains-append_left list (t ∷ []) u c))).0) few,
      lengths-of x empty t over,
    )

-- with one formula
module _ (f : Formula) (specs : List Spec) (one : specs ≡ map spec_of_formula (f ∷ [])) where
  pub within : (steps : Spec → ℕ) (most old new : ℕ) → steps (spec_of_formula f) ≡ most
      → new ≤ old + sum (map steps specs) → new ≤ old + most
  within steps most old new count le =
      omega (arith, le, ap (λ (ss : List Spec). sum (map steps ss)) one, count)

  pub symmetric : (rule : Lengths) (n : ℕ) → length f.prefix ≡ n
      → IsSymmetric rule n (tree_of f.body) → AreSymmetric rule specs
  symmetric rule n long is =
      let P : ℕ → Type 0 = λ k. IsSymmetric rule k (tree_of f.body) in
      let Q : List Spec → Type 0 = AreSymmetric rule in
      subst Q (sym one) (subst P (sym long) is, tt)

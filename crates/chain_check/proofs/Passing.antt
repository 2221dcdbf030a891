-- What makes the given clauses true makes those of a passed log true.
use Rattle.std.proofs.Common.{◌≡◌, ℕ, zero, suc, ◌-◌, ◌<◌, Bool, ◌⊎◌, List, [], ◌∷◌, ◌++◌, map, inl, inr, refl, sym, subst, arith}
use Rattle.std.specs.Prelude.{ℤ, neg_ℤ, unsigned_abs}
use Rattle.std.specs.List.{Contains}
use Rattle.std.proofs.lemmas.List.{append_assoc, append-nil}
use Rattle.std.proofs.lemmas.List.Elements.{Contains-append_right, Contains-append_cases, Contains-push_cases}
use Rattle.std.proofs.lemmas.Option.{slice_get_within, get_or_from_slice_get}
use Rattle.chain_check.specs.declared.logs.Learned.{Learned}
use Rattle.chain_check.specs.Clauses.{Clause, AreLiterals, AreClauses, IsMadeTrue, Satisfies, SatisfiesAll}
use Rattle.chain_check.specs.Chains.{IsNumbered, Refutes, ends, goes, Follows}
use Rattle.chain_check.specs.Logs.{clauses_of, IsPassed}
use Rattle.chain_check.proofs.Literals.{same-or-not, twice, same-variable, not-both, made-or-not, opposites}

-- a numbered clause is one of the list
pub numbered-there : (clauses : List Clause) (k : ℕ) (c : Clause) → IsNumbered clauses k c →
    Contains clauses c
numbered-there clauses k c at = (
  k - 1,
  slice_get_within clauses (k - 1) c at.there,
  get_or_from_slice_get clauses (k - 1) c c at.there,
)

module _ (values : List Bool) (variables : ℕ) where
  -- the literals are of variables, and true
  abbrev pub AreTrue : List ℤ → Type 0
  AreTrue trues = (l : ℤ) → Contains trues l → (0 < unsigned_abs l) × IsMadeTrue values l

  more-true : (trues : List ℤ) (l : ℤ) → AreTrue trues → 0 < unsigned_abs l → IsMadeTrue values l →
      AreTrue (trues ++ l ∷ [])
  more-true trues l old some now m there =
      elim (Contains-push_cases trues l m there) [
        | inl before ↦ old m before
        | inr e ↦ let P : ℤ → Type 0 = λ q. (0 < unsigned_abs q) × IsMadeTrue values q in
            subst P e (some, now)
      ]

  unrefuted : (clauses : List Clause) → AreClauses variables clauses → SatisfiesAll values clauses →
      {trues : List ℤ} {chain : List ℕ} → AreTrue trues → ¬ Refutes clauses trues chain
  unrefuted clauses right all {trues} true' (ends {k = k} c at false') =
      let there : Contains clauses c = numbered-there clauses k c at in
      let (l, of, made) = all c there in
      not-both values l (right c there l of).0 made (true' (neg_ℤ l) (false' l of)).1
  unrefuted clauses right all {trues} true' (goes {k = k} c l at unit rest) =
      let there : Contains clauses c = numbered-there clauses k c at in
      let (m, of, made) = all c there in
      elim (same-or-not m l) [
        | inl e ↦
            let P : ℤ → Type 0 = λ q. (0 < unsigned_abs q) × IsMadeTrue values q in
            let now : P l = subst P e ((right c there m of).0, made) in
            unrefuted clauses right all (more-true trues l true' now.0 now.1) rest
        | inr apart ↦ not-both values m (right c there m of).0 made
            (true' (neg_ℤ m) (unit.others m of apart)).1
      ]

  -- a clause of which no literal is false holds
  some-true : (c d : Clause) → AreLiterals variables d → ((l : ℤ) → Contains d l → Contains c l) →
      Satisfies values c ⊎ ((l : ℤ) → Contains d l → IsMadeTrue values (neg_ℤ l))
  some-true c [] right in' = inr (λ l (k, lt, e). absurd (omega arith))
  some-true c (l ∷ d) right in' =
      elim (made-or-not values l (right l (0, omega arith, refl)).0) [
        | inl made ↦ inl (l, in' l (0, omega arith, refl), made)
        | inr not-made ↦ elim (some-true c d (λ m h. right m (Contains-append_right (l ∷ []) d m h))
            (λ m h. in' m (Contains-append_right (l ∷ []) d m h))) [
              | inl found ↦ inl found
              | inr none ↦ inr (λ m h. elim (Contains-append_cases (l ∷ []) d m h) [
                | inl (k, lt, e) ↦ let P : ℤ → Type 0 = λ q. IsMadeTrue values (neg_ℤ q) in
                    subst P (only l m (k, lt, e)) not-made
                | inr later ↦ none m later
              ])
            ]
      ]
    where
      only : (l m : ℤ) → Contains (l ∷ []) m → l ≡ m
      only l m (zero, lt, e) = e
      only l m (suc k, lt, e) = absurd (omega arith)

  pub followed : (before : List Clause) (c : Clause) (chain : List ℕ) →
      AreClauses variables before → SatisfiesAll values before → Follows variables before c chain →
      Satisfies values c
  followed before c chain right all follows =
      elim (some-true c c follows.literals (λ l h. h)) [
        | inl found ↦ found
        | inr none ↦ absurd (unrefuted before right all (true' none) follows.refuted)
      ]
    where
      true' : ((l : ℤ) → Contains c l → IsMadeTrue values (neg_ℤ l)) → AreTrue (map neg_ℤ c)
      true' none l there =
          let back : Contains c (neg_ℤ l) = opposites c l there in
          let P : ℤ → Type 0 = λ q. (0 < unsigned_abs q) × IsMadeTrue values q in
          let some : 0 < unsigned_abs (neg_ℤ (neg_ℤ l)) =
          omega (arith, same-variable (neg_ℤ l), (follows.literals (neg_ℤ l) back).0) in
          subst P (twice l) (some, none (neg_ℤ l) back)

  pub all-passed : (log : List Learned) (before : List Clause) → AreClauses variables before →
      IsPassed variables before log → SatisfiesAll values before →
      SatisfiesAll values (before ++ clauses_of log)
  all-passed [] before right passed all = let P : List Clause → Type 0 = SatisfiesAll values in
      subst P (sym (append-nil before)) all
  all-passed (e ∷ log) before right (follows, rest) all =
      let P : List Clause → Type 0 = SatisfiesAll values in
      subst P (append_assoc before (e.clause ∷ []) (clauses_of log))
      (all-passed log (before ++ e.clause ∷ []) right' rest all')
    where
      right' : AreClauses variables (before ++ e.clause ∷ [])
      right' c there = elim (Contains-push_cases before e.clause c there) [
        | inl h ↦ right c h
        | inr same ↦ let P : Clause → Type 0 = AreLiterals variables in
            subst P same follows.literals
      ]

      all' : SatisfiesAll values (before ++ e.clause ∷ [])
      all' c there = elim (Contains-push_cases before e.clause c there) [
        | inl h ↦ all c h
        | inr same ↦ let P : Clause → Type 0 = Satisfies values in
            subst P same (followed before e.clause e.chain right all follows)
      ]

pub passed-clauses : (variables : ℕ) (given : List Clause) (log : List Learned)
    (values : List Bool) → AreClauses variables given → IsPassed variables given log →
    SatisfiesAll values given → SatisfiesAll values (given ++ clauses_of log)
passed-clauses variables given log values right passed all =
    all-passed values variables log given right passed all

pub unsatisfied : (variables : ℕ) (given : List Clause) (log : List Learned) (values : List Bool) →
    AreClauses variables given → IsPassed variables given log → Contains (clauses_of log) [] →
    ¬ SatisfiesAll values given
unsatisfied variables given log values right passed there all =
    let (l, (k, lt, e), made) = passed-clauses variables given log values right passed all []
    (Contains-append_right given (clauses_of log) [] there) in
    omega arith

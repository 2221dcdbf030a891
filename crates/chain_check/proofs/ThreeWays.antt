-- A passed log of new clauses has fewer than 3 to the power of the variables: a clause as a row that
-- says of each variable whether it is absent, there, or there as its opposite.
use Rattle.std.proofs.Common.{◌≡◌, ◌≢◌, ℕ, zero, suc, ◌^◌, ◌<◌, ◌≤◌, ◌⊎◌, List, [], ◌∷◌, ◌++◌, length, get_or, map, inl, inr, refl, sym, ap, ◌∙◌, subst, arith}
use Rattle.std.specs.Prelude.{ℤ, pos, negsuc}
use Rattle.std.specs.List.{Contains}
use Rattle.std.proofs.lemmas.Bool.{cases_eq}
use Rattle.std.proofs.lemmas.List.{length-map, get_or_default}
use Rattle.std.proofs.lemmas.List.Elements.{Contains-append_left, Contains-append_right, Contains-append_cases, Contains-push}
use Rattle.chain_check.specs.declared.logs.Learned.{Learned}
use Rattle.chain_check.specs.Clauses.{Clause, AreLiterals, IsApart, IsSubset, IsNew}
use Rattle.chain_check.specs.Logs.{IsPassed, AreNew}
use Rattle.chain_check.specs.Rows.{IsRow, AreRows, IsWithoutRepeats}
use Rattle.chain_check.proofs.Literals.{same-or-not}
use Rattle.chain_check.proofs.Counting.{counted-rows}

pub there-or-not : (c : Clause) (l : ℤ) → Contains c l ⊎ (¬ Contains c l)
there-or-not [] l = inr (λ (k, lt, e). absurd (omega arith))
there-or-not (m ∷ c) l = elim (same-or-not m l) [
  | inl e ↦ inl (0, omega arith, e)
  | inr apart ↦ elim (there-or-not c l) [
    | inl h ↦ inl (Contains-append_right (m ∷ []) c l h)
    | inr none ↦ inr (λ h. elim (Contains-append_cases (m ∷ []) c l h) [
      | inl (zero, lt, e) ↦ apart e
      | inl (suc k, lt, e) ↦ absurd (omega arith)
      | inr later ↦ none later
    ])
  ]
]

-- absent, there, or there as its opposite
way : (P Q : Type 0) → P ⊎ (¬ P) → Q ⊎ (¬ Q) → ℕ
way P Q (inl p) q = 1
way P Q (inr p) (inl q) = 2
way P Q (inr p) (inr q) = 0

way-below : (P Q : Type 0) (p : P ⊎ (¬ P)) (q : Q ⊎ (¬ Q)) → way P Q p q < 3
unfolding way
way-below P Q (inl p) q = omega arith
way-below P Q (inr p) (inl q) = omega arith
way-below P Q (inr p) (inr q) = omega arith

way-first : (P Q R S : Type 0) (p : P ⊎ (¬ P)) (q : Q ⊎ (¬ Q)) (r : R ⊎ (¬ R)) (s : S ⊎ (¬ S)) →
    way P Q p q ≡ way R S r s → P → R
unfolding way
way-first P Q R S p q (inl r) s e h = r
way-first P Q R S (inl p) q (inr r) (inl s) e h = absurd (omega arith)
way-first P Q R S (inl p) q (inr r) (inr s) e h = absurd (omega arith)
way-first P Q R S (inr p) q (inr r) s e h = absurd (p h)

way-second : (P Q R S : Type 0) (p : P ⊎ (¬ P)) (q : Q ⊎ (¬ Q)) (r : R ⊎ (¬ R)) (s : S ⊎ (¬ S)) →
    way P Q p q ≡ way R S r s → ¬ P → Q → S
unfolding way
way-second P Q R S p q r (inl s) e none h = s
way-second P Q R S (inl p) q r (inr s) e none h = absurd (none p)
way-second P Q R S (inr p) (inl q) (inl r) (inr s) e none h = absurd (omega arith)
way-second P Q R S (inr p) (inl q) (inr r) (inr s) e none h = absurd (omega arith)
way-second P Q R S (inr p) (inr q) r (inr s) e none h = absurd (q h)

value_at : Clause → ℕ → ℕ
value_at c v = way (Contains c (pos (suc v))) (Contains c (negsuc v)) (there-or-not c (pos (suc v)))
    (there-or-not c (negsuc v))

abbrev row_of : Clause → ℕ → List ℕ
row_of c zero = []
row_of c (suc n) = value_at c n ∷ row_of c n

long-row : (c : Clause) (n : ℕ) → length (row_of c n) ≡ n
long-row c zero = refl
long-row c (suc n) = ap suc (long-row c n)

row-below : (c : Clause) (n : ℕ) (x : ℕ) → Contains (row_of c n) x → x < 3
unfolding value_at
row-below c zero x (k, lt, e) = absurd (omega arith)
row-below c (suc n) x (zero, lt, e) = let P : ℕ → Type 0 = λ q. q < 3 in
    subst P e (way-below _ _ _ _)
row-below c (suc n) x (suc k, lt, e) = row-below c n x (k, omega arith, e)

same-values : (c d : Clause) (n : ℕ) → row_of c n ≡ row_of d n → (v : ℕ) → v < n →
    value_at c v ≡ value_at d v
same-values c d zero e v lt = absurd (omega arith)
same-values c d (suc n) e v lt =
    let here : value_at c n ≡ value_at d n = (cc) in
    let rest : row_of c n ≡ row_of d n = (cc) in
    elim (cases_eq v n) [
      | inl same ↦ let P : ℕ → Type 0 = λ q. value_at c q ≡ value_at d q in subst P (sym same) here
      | inr less ↦ same-values c d n rest v (omega arith)
    ]

within : (n : ℕ) (c d : Clause) → AreLiterals n c → IsApart c → row_of c n ≡ row_of d n →
    IsSubset c d
unfolding value_at
within n c d right apart e (pos zero) there = absurd (omega (arith, (right (pos zero) there).0))
within n c d right apart e (pos (suc v)) there =
    way-first _ _ _ _ _ _ _ _ (same-values c d n e v (omega (arith, (right (pos (suc v)) there).1)))
    there
within n c d right apart e (negsuc v) there =
    way-second _ _ _ _ _ _ _ _ (same-values c d n e v (omega (arith, (right (negsuc v) there).1)))
    (λ h. apart (negsuc v) there h) there

abbrev rows_of : ℕ → List Learned → List (List ℕ)
rows_of n log = map (λ e. row_of e.clause n) log

-- the clause of a row of the log
record IsMet (n : ℕ) (before : List Clause) (c : Clause) (row : List ℕ) : Type 0 where
  its_row : row ≡ row_of c n
  right : AreLiterals n c
  apart : IsApart c
  some : c ≢ []
  fresh : IsNew before c

met : (n : ℕ) (log : List Learned) (before : List Clause) → IsPassed n before log →
    AreNew before log → (j : ℕ) → j < length log → (c : Clause) ×
    IsMet n before c (get_or (rows_of n log) j [])
met n [] before passed new j lt = absurd (omega arith)
met n (e ∷ log) before (follows, passed) (some, fresh, new) zero lt = (
  e.clause,
  record {
    its_row = refl;
    right = follows.literals;
    apart = follows.apart;
    some =
        some;
    fresh = fresh;
  },
)
met n (e ∷ log) before (follows, passed) (some, fresh, new) (suc j) lt =
    let (c, m) = met n log (before ++ e.clause ∷ []) passed new j (omega arith) in (
      c,
      record {
        its_row = m.its_row;
        right = m.right;
        apart = m.apart;
        some = m.some;
        fresh =
            λ d h. m.fresh d (Contains-append_left before (e.clause ∷ []) d h);
      },
    )

distinct : (n : ℕ) (log : List Learned) (before : List Clause) → IsPassed n before log →
    AreNew before log → IsWithoutRepeats (rows_of n log)
distinct n [] before passed new i j lt below e = absurd (omega arith)
distinct n (l ∷ log) before (follows, passed) (some, fresh, new) i zero lt below e =
    absurd (omega arith)
distinct n (l ∷ log) before (follows, passed) (some, fresh, new) zero (suc j) lt below e =
    let (c, m) = met n log (before ++ l.clause ∷ []) passed new j
    (omega (arith, length-map log (λ (q : Learned). row_of q.clause n))) in
    m.fresh l.clause (Contains-push before l.clause)
    (within n l.clause c follows.literals follows.apart (e ∙ m.its_row))
distinct n (l ∷ log) before (follows, passed) (some, fresh, new) (suc i) (suc j) lt below e =
    distinct n log (before ++ l.clause ∷ []) passed new i j (omega arith) (omega arith) e

pub few-new : (variables : ℕ) (given : List Clause) (log : List Learned) →
    IsPassed variables given log → AreNew given log → length log < 3 ^ variables
few-new n given log passed new =
    let most : length (row_of [] n ∷ rows_of n log) ≤ 3 ^ n =
    counted-rows n 3 (row_of [] n ∷ rows_of n log) right apart in
    omega (arith, length-map log (λ (q : Learned). row_of q.clause n))
  where
    long : length (rows_of n log) ≡ length log
    long = length-map log (λ (q : Learned). row_of q.clause n)

    one : (c : Clause) (row : List ℕ) → row_of c n ≡ row → IsRow n 3 row
    one c row e = let P : List ℕ → Type 0 = IsRow n 3 in
        subst P e (record { long = long-row c n; below = row-below c n })

    right : AreRows n 3 (row_of [] n ∷ rows_of n log)
    right row (zero, lt, e) = one [] row e
    right row (suc k, lt, e) = let (c, m) = met n log given passed new k (omega (arith, long)) in
        one c row (sym m.its_row ∙ get_or_default (rows_of n log) k [] row (omega arith) ∙ e)

    apart : IsWithoutRepeats (row_of [] n ∷ rows_of n log)
    apart i zero lt below e = absurd (omega arith)
    apart (suc i) (suc j) lt below e = distinct n log given passed new i j (omega arith)
        (omega arith) e
    apart zero (suc j) lt below e =
        let (c, m) = met n log given passed new j (omega (arith, long)) in
        not-empty c m.some (within n c [] m.right m.apart (sym m.its_row ∙ sym e))
      where
        not-empty : (c : Clause) → c ≢ [] → ¬ IsSubset c []
        not-empty [] some inside = some refl
        not-empty (l ∷ c) some inside = let (k, lt, e) = inside l (0, omega arith, refl) in
            omega arith

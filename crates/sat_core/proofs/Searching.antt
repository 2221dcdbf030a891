-- The search.
use Rattle.std.proofs.Common.{◌≡◌, ◌≢◌, ℕ, zero, suc, ◌+◌, ◌-◌, ◌*◌, ◌^◌, ◌<◌, ◌≤◌, ◌⊎◌, ◌↔◌, Bool, true, false, List, [], ◌∷◌, ◌++◌, length, get_or, inl, inr, refl, sym, ap, ◌∙◌, subst, arith}
use Rattle.std.specs.Prelude.{ℤ, pos, negsuc, neg_ℤ, MatchBool}
use Rattle.std.specs.List.{Contains}
use Rattle.std.proofs.lemmas.Bool.{cases_eq, cases_Bool}
use Rattle.std.proofs.lemmas.List.{append_assoc, append-nil, map_push, length_push, get_or_append_left, get_or_push}
use Rattle.std.proofs.lemmas.List.Elements.{Contains-append_left}
use Rattle.sat_core.specs.declared.solver.Solver.{Solver}
use Rattle.chain_check.specs.declared.logs.Learned.{Learned}
use Rattle.chain_check.specs.Clauses.{Clause, IsLiteral, AreClauses, IsMadeTrue, SatisfiesAll, IsNew}
use Rattle.chain_check.specs.Chains.{Refutes, Follows}
use Rattle.chain_check.specs.Logs.{clauses_of, IsPassed, AreNew, EndsEmpty}
use Rattle.sat_core.specs.Trails.{AreSettled}
use Rattle.sat_core.specs.Solvers.{IsReady, GoesOn}
use Rattle.sat_core.specs.Searches.{IsSearching}
use Rattle.sat_core.proofs.Propagating.{not-shorter, no-more-than}
use Rattle.sat_core.specs.Outcomes.{AreValues}
use Rattle.sat_core.proofs.Readying.{ready-from}
use Rattle.sat_core.proofs.Resolving.{consistent-trail}
use Rattle.chain_check.proofs.ThreeWays.{few-new}

-- a log that goes on
pub passed-more : (n : ℕ) (log : List Learned) (before : List Clause) (e : Learned) →
    IsPassed n before log → Follows n (before ++ clauses_of log) e.clause e.chain →
    IsPassed n before (log ++ e ∷ [])
passed-more n [] before e passed follows = let P : List Clause → Type 0 =
    λ cs. Follows n cs e.clause e.chain in (subst P (append-nil before) follows, tt)
passed-more n (d ∷ log) before e (one, passed) follows =
    let P : List Clause → Type 0 = λ cs. Follows n cs e.clause e.chain in (
      one,
      passed-more n log (before ++ d.clause ∷ []) e passed
          (subst P (sym (append_assoc before (d.clause ∷ []) (clauses_of log))) follows),
    )

pub new-more : (log : List Learned) (before : List Clause) (e : Learned) → AreNew before log →
    e.clause ≢ [] → IsNew (before ++ clauses_of log) e.clause → AreNew before (log ++ e ∷ [])
new-more [] before e new some fresh = let P : List Clause → Type 0 = λ cs. IsNew cs e.clause in
    (some, subst P (append-nil before) fresh, tt)
new-more (d ∷ log) before e (some', fresh', new) some fresh =
    let P : List Clause → Type 0 = λ cs. IsNew cs e.clause in (
      some',
      fresh',
      new-more log (before ++ d.clause ∷ []) e new some
          (subst P (sym (append_assoc before (d.clause ∷ []) (clauses_of log))) fresh),
    )

pub empty-follows : (n : ℕ) (before : List Clause) (chain : List ℕ) → Refutes before [] chain →
    Follows n before [] chain
empty-follows n before chain refuted = record {
  literals = λ l (k, lt, e). absurd (omega arith);
  apart = λ l (k, lt, e) h. omega arith;
  refuted = refuted;
}

-- what stands on the trail is true by the values
pub made-true : (s : Solver) (values : List Bool) → IsReady s →
    AreValues s.partial.variables s.partial.literals values → (l : ℤ) →
    IsLiteral s.partial.variables l → Contains s.partial.literals l → IsMadeTrue values l
made-true s values ready is (pos zero) right true' = absurd (omega (arith, right.0))
made-true s values ready is (pos (suc v)) right true' =
    let P : ℕ → Type 0 = λ k. Contains s.partial.literals (pos k) in
    let same : suc v ≡ v + 1 = omega arith in
    let Q : ℕ → Type 0 = λ k. get_or values k false ≡ true in
    let place : v ≡ suc v - 1 = omega arith in
    subst Q place ((is.right v (omega (arith, right.1))).1 (subst P same true'))
made-true s values ready is (negsuc v) right true' =
    let P : ℕ → Type 0 = λ k. Contains s.partial.literals (pos k) in
    let same : v + 1 ≡ suc v = omega arith in
    let Q : ℕ → Type 0 = λ k. get_or values k false ≡ false in
    let place : v ≡ suc v - 1 = omega arith in
    subst Q place (elim (cases_Bool (get_or values v false)) [
      | inr no' ↦ no'
      | inl yes' ↦ absurd (consistent-trail s ready (negsuc v) true'
          (subst P same ((is.right v (omega (arith, right.1))).0 yes')))
    ])

-- every settled clause has a true literal where no literal is open
pub all-satisfied : (s : Solver) (values : List Bool) → IsReady s →
    AreSettled s.clauses s.partial.literals →
    ((l : ℤ) → IsLiteral s.partial.variables l → Contains s.partial.literals l ⊎
    Contains s.partial.literals (neg_ℤ l)) → AreValues s.partial.variables s.partial.literals values
    → SatisfiesAll values s.clauses
all-satisfied s values ready settled full is c there =
    let made = made-true s values ready is in
    elim (settled c there) [
      | inl (l, of, true') ↦ (l, of, made l (ready.right c there l of) true')
      | inr (l, m, two) ↦ elim (full l (ready.right c there l two.first)) [
        | inl true' ↦ (l, two.first, made l (ready.right c there l two.first) true')
        | inr false' ↦ absurd (two.open_first false')
      ]
    ]

pub less-open : (m n x y : ℕ) → x < y → y ≤ n → m + (n - y) < m + (n - x)
less-open m n x y lt le = omega arith

pub values-more : (k : ℕ) (literals : List ℤ) (values : List Bool) (b : Bool) →
    AreValues k literals values → ((b ≡ true) ↔ Contains literals (pos (k + 1))) →
    AreValues (k + 1) literals (values ++ b ∷ [])
values-more k literals values b is here = record
    { long = omega (arith, is.long, length_push values b); right = right }
  where
    right : (i : ℕ) → i < k + 1 → (get_or (values ++ b ∷ []) i false ≡ true) ↔
        Contains literals (pos (i + 1))
    right i lt =
        elim (cases_eq i k) [
          | inl same ↦
              let e : get_or (values ++ b ∷ []) i false ≡ b =
              get_or_push values b false i (is.long ∙ sym same) in
              let P : ℕ → Type 0 = λ q. Contains literals (pos (q + 1)) in
              (λ h. subst P (sym same) (here.0 (sym e ∙ h)), λ h. e ∙ here.1 (subst P same h))
          | inr apart ↦
              let e : get_or (values ++ b ∷ []) i false ≡ get_or values i false =
              get_or_append_left values (b ∷ []) false i (omega (arith, is.long)) in
              let old = is.right i (omega arith) in
              (λ h. old.0 (sym e ∙ h), λ h. e ∙ old.1 h)
        ]

pub full-from : (n : ℕ) (literals : List ℤ) →
    ((i : ℕ) → i < n → Contains literals (pos (i + 1)) ⊎ Contains literals (neg_ℤ (pos (i + 1)))) →
    (l : ℤ) → IsLiteral n l → Contains literals l ⊎ Contains literals (neg_ℤ l)
full-from n literals all (pos zero) right = absurd (omega (arith, right.0))
full-from n literals all (pos (suc v)) right =
    let P : ℕ → Type 0 = λ k. Contains literals (pos k) ⊎ Contains literals (neg_ℤ (pos k)) in
    let same : v + 1 ≡ suc v = omega arith in
    subst P same (all v (omega (arith, right.1)))
full-from n literals all (negsuc v) right =
    let P : ℕ → Type 0 = λ k. Contains literals (pos k) ⊎ Contains literals (neg_ℤ (pos k)) in
    let same : v + 1 ≡ suc v = omega arith in
    elim (subst P same (all v (omega (arith, right.1)))) [ inl h ↦ inr h | inr h ↦ inl h ]

pub full-more : (literals : List ℤ) (k : ℕ) →
    ((i : ℕ) → i < k → Contains literals (pos (i + 1)) ⊎ Contains literals (neg_ℤ (pos (i + 1)))) →
    Contains literals (pos (k + 1)) ⊎ Contains literals (neg_ℤ (pos (k + 1))) → (i : ℕ) →
    i < k + 1 → Contains literals (pos (i + 1)) ⊎ Contains literals (neg_ℤ (pos (i + 1)))
full-more literals k below here i lt =
    elim (cases_eq i k) [
      | inl same ↦ let P : ℕ → Type 0 = λ q. Contains literals (pos (q + 1)) ⊎
          Contains literals (neg_ℤ (pos (q + 1))) in subst P (sym same) here
      | inr apart ↦ below i (omega arith)
    ]

pub ready-empty : (s : Solver) (n : ℕ) (clauses : List Clause) → s.clauses ≡ clauses →
    s.partial ≡ record { variables = n; literals = [] } → s.reasons.items ≡ [] →
    s.limits.items ≡ [] → n < 2 ^ 31 → length clauses < 2 ^ 31 → n < length s.places.items →
    AreClauses n clauses → IsReady s
ready-empty s n clauses e partial reasons limits few many sized right =
    ready-from s n clauses [] [] s.places.items [] e (ap (λ t. t.variables) partial)
    (ap (λ t. t.literals) partial) reasons refl limits few (omega (arith, many)) sized right
    (record {
      long = refl;
      steps = λ i lt. absurd (omega arith);
      within =
          λ j lt. absurd (omega arith);
      rising = λ i j lt lt'. absurd (omega arith);
      complete =
          λ j lt. absurd (omega arith);
    })
    (λ i lt. absurd (omega arith))

pub searching-on : (n : ℕ) (given : List Clause) (k : ℕ) (s t : Solver) (log : List Learned) →
    IsSearching n given k s log → IsReady t → GoesOn s t → IsSearching n given k t log
searching-on n given k s t log is ready on = record {
  ready = ready;
  same_variables = on.variables ∙ is.same_variables;
  clauses = on.clauses ∙ is.clauses;
  passed = is.passed;
  new = is.new;
  few = is.few;
}

pub refuted-outcome : (n : ℕ) (given : List Clause) (k : ℕ) (s : Solver) (log more : List Learned)
    (e : Learned) (chain : List ℕ) → IsSearching n given k s log → Refutes s.clauses [] chain →
    more ≡ log ++ e ∷ [] → e.clause ≡ [] → e.chain ≡ chain → IsPassed n given more × EndsEmpty more
refuted-outcome n given k s log more e chain is refuted added empty same =
    let P : List Clause → Type 0 = λ cs. Refutes cs [] chain in
    let Q : Clause → Type 0 = λ c. Follows n (given ++ clauses_of log) c chain in
    let R : List ℕ → Type 0 = Follows n (given ++ clauses_of log) e.clause in
    let S : List Learned → Type 0 = IsPassed n given in
    let follows : R e.chain = subst R (sym same)
    (subst Q (sym empty) (empty-follows n (given ++ clauses_of log) chain
    (subst P is.clauses refuted))) in (
      subst S (sym added) (passed-more n log given e is.passed follows),
      record { front = log; last = e; parts = added; empty = empty },
    )

pub spent-outcome : (n : ℕ) (given : List Clause) (k : ℕ) (s : Solver) (log : List Learned) →
    IsSearching n given k s log → length log ≡ k → IsPassed n given log × AreNew given log ×
    (length log ≡ k) × (k < 3 ^ n)
spent-outcome n given k s log is all = (
  is.passed,
  is.new,
  all,
  omega (arith, all, few-new n given log is.passed is.new),
)

pub searching-learned : (n : ℕ) (given : List Clause) (k : ℕ) (s t : Solver)
    (log more : List Learned) (e : Learned) → IsSearching n given k s log → length log ≢ k →
    IsReady t → t.partial.variables ≡ s.partial.variables → t.clauses ≡ s.clauses ++ e.clause ∷ [] →
    Follows s.partial.variables s.clauses e.clause e.chain → IsNew s.clauses e.clause →
    e.clause ≢ [] → more ≡ log ++ e ∷ [] → IsSearching n given k t more
searching-learned n given k s t log more e is left ready variables clauses follows fresh some added
    =
    let P : ℕ → Type 0 = λ m. Follows m s.clauses e.clause e.chain in
    let Q : List Clause → Type 0 = λ cs. Follows n cs e.clause e.chain in
    let R : List Clause → Type 0 = λ cs. IsNew cs e.clause in
    let S : List Learned → Type 0 = IsSearching n given k t in
    subst S (sym added) (record {
      ready = ready;
      same_variables = variables ∙ is.same_variables;
      clauses = clauses ∙ ap (λ cs. cs ++ e.clause ∷ []) is.clauses ∙
          append_assoc given (clauses_of log) (e.clause ∷ []) ∙
          ap (λ cs. given ++ cs) (sym (map_push (λ (d : Learned). d.clause) log e));
      passed = passed-more n log given e is.passed
          (subst Q is.clauses (subst P is.same_variables follows));
      new = new-more log given e is.new some (subst R is.clauses fresh);
      few = omega (arith, is.few, left, length_push log e);
    })

pub satisfied-outcome : (n : ℕ) (given : List Clause) (k : ℕ) (s : Solver) (log : List Learned)
    (values : List Bool) → IsSearching n given k s log → AreSettled s.clauses s.partial.literals →
    ((l : ℤ) → IsLiteral s.partial.variables l → Contains s.partial.literals l ⊎
    Contains s.partial.literals (neg_ℤ l)) → AreValues s.partial.variables s.partial.literals values
    → (length values ≡ n) × SatisfiesAll values given
satisfied-outcome n given k s log values is settled full are =
    let P : List Clause → Type 0 = SatisfiesAll values in
    let all : P (given ++ clauses_of log) = subst P is.clauses
    (all-satisfied s values is.ready settled full are) in (
      are.long ∙ is.same_variables,
      λ c there. all c
          (Contains-append_left given (clauses_of log) c there),
    )

pub searching-decided : (n : ℕ) (given : List Clause) (k : ℕ) (s t u : Solver) (log : List Learned)
    (l : ℤ) → IsSearching n given k s log → GoesOn s t → IsReady u →
    u.partial ≡ record t.partial { literals = t.partial.literals ++ l ∷ [] } →
    (k - length log) * (n + 1) + (n - length u.partial.literals) < (k - length log) * (n + 1) +
    (n - length s.partial.literals)
searching-decided n given k s t u log l is on ready pushed =
    let variables : u.partial.variables ≡ n = ap (λ q. q.variables) pushed ∙ on.variables ∙
    is.same_variables in
    less-open ((k - length log) * (n + 1)) n (length s.partial.literals) (length u.partial.literals)
    (omega (
      arith,
      not-shorter s t on,
      ap (λ q. length q.literals) pushed,
      length_push t.partial.literals l,
    )) (omega (arith, no-more-than u ready, variables))

pub when-true : (P Q : Type 0) (b : Bool) → b ≡ true → MatchBool b P Q → P
when-true P Q true e h = h
when-true P Q false e h = absurd (cc)

pub when-false : (P Q : Type 0) (b : Bool) → b ≡ false → MatchBool b P Q → Q
when-false P Q true e h = absurd (cc)
when-false P Q false e h = h

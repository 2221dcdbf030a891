-- A search under assumptions.
use Rattle.std.proofs.Common.{◌≡◌, ℕ, ◌+◌, ◌-◌, ◌<◌, ◌≤◌, ◌⊎◌, Bool, List, [], ◌∷◌, ◌++◌, length, get_or, take, drop, inl, inr, refl, sym, ap, ◌∙◌, subst, arith}
use Rattle.std.specs.Prelude.{ℤ, pos, neg_ℤ, Option, Result, Ok, Err, OnOk, IfOk}
use Rattle.std.specs.List.{Contains}
use Rattle.std.proofs.lemmas.Bool.{cases_eq, cases_lt}
use Rattle.std.proofs.lemmas.List.{append_assoc, append-nil, length_push, get_or_default, length-take-le, get_or_append_left, get_or_push, get_or-take, take-append-le, take-take, take-append-drop, take_at}
use Rattle.std.proofs.lemmas.List.Elements.{Contains-append_left, Contains-push_cases}
use Rattle.chain_check.specs.declared.logs.Learned.{Learned}
use Rattle.chain_check.specs.Clauses.{Clause, IsLiteral, AreLiterals, IsMadeTrue, Satisfies, SatisfiesAll, IsSubset}
use Rattle.chain_check.specs.Chains.{Follows}
use Rattle.chain_check.proofs.Passing.{followed}
use Rattle.sat_core.specs.declared.solver.Solver.{Solver}
use Rattle.sat_core.specs.declared.solving.Search.{Search}
use Rattle.sat_core.specs.declared.watches.Watches.{Watches}
use Rattle.sat_core.specs.Searches.{IsSound}
use Rattle.sat_core.specs.Watches.{IsWatching}
use Rattle.sat_core.proofs.Holding.{watching-decided}
use Rattle.sat_core.specs.Outcomes.{AreValues}
use Rattle.sat_core.specs.Sessions.{IsLearned, AreFirstTrue, AreAllTrue, AreAssumed, AreDecided, IsDecided}
use Rattle.sat_core.specs.Lessons.{IsTaught}
use Rattle.sat_core.specs.Solvers.{IsReady, GoesOn}
use Rattle.sat_core.specs.Trails.{AreSettled}
use Rattle.sat_core.proofs.Propagating.{not-shorter, no-more-than}
use Rattle.sat_core.proofs.Resolving.{consistent-trail}
use Rattle.sat_core.proofs.Searching.{all-satisfied, made-true, less-open}

pub learned-none : (old new : List Clause) → new ≡ old → IsLearned old new
learned-none old new e = record {
  longer = ([], e ∙ sym (append-nil old));
  followed = λ values all. let P : List Clause → Type 0 = SatisfiesAll values in subst P (sym e) all;
}

pub learned-more : (old : List Clause) (s t : Solver) (e : Learned) → IsReady s →
    IsLearned old s.clauses → t.clauses ≡ s.clauses ++ e.clause ∷ [] →
    Follows s.partial.variables s.clauses e.clause e.chain → IsLearned old t.clauses
learned-more old s t e ready is clauses follows =
    let (more, longer) = is.longer in
    record {
      longer = (
        more ++ e.clause ∷ [],
        clauses ∙ ap (λ cs. cs ++ e.clause ∷ []) longer ∙ append_assoc old more (e.clause ∷ []),
      );
      followed = λ values all. let P : List Clause → Type 0 = SatisfiesAll values in
          subst P (sym clauses) (both values all);
    }
  where
    both : (values : List Bool) → SatisfiesAll values old →
        SatisfiesAll values (s.clauses ++ e.clause ∷ [])
    both values all c there = elim (Contains-push_cases s.clauses e.clause c there) [
      | inl h ↦ is.followed values all c h
      | inr same ↦ let P : Clause → Type 0 = Satisfies values in
          subst P same (followed values s.partial.variables s.clauses e.clause e.chain ready.right
          (is.followed values all) follows)
    ]

pub learned-same : (old new new' : List Clause) → new' ≡ new → IsLearned old new →
    IsLearned old new'
learned-same old new new' e is = let P : List Clause → Type 0 = IsLearned old in subst P (sym e) is

-- the next assumption is true, too
pub first-more : (trues assumptions : List ℤ) (n : ℕ) → AreFirstTrue trues assumptions n →
    Contains trues (get_or assumptions n (pos 0)) → AreFirstTrue trues assumptions (n + 1)
first-more trues assumptions n all here i lt = elim (cases_eq i n) [
  | inl same ↦ let P : ℕ → Type 0 = λ k. Contains trues (get_or assumptions k (pos 0)) in
      subst P (sym same) here
  | inr apart ↦ all i (omega arith)
]

-- with more that is true
pub first-longer : (trues trues' more assumptions : List ℤ) (n : ℕ) → trues' ≡ trues ++ more →
    AreFirstTrue trues assumptions n → AreFirstTrue trues' assumptions n
first-longer trues trues' more assumptions n e all i lt =
    let P : List ℤ → Type 0 = λ xs. Contains xs (get_or assumptions i (pos 0)) in
    subst P (sym e) (Contains-append_left trues more (get_or assumptions i (pos 0)) (all i lt))

pub first-on : (s t : Solver) (assumptions : List ℤ) (n : ℕ) → GoesOn s t →
    AreFirstTrue s.partial.literals assumptions n → AreFirstTrue t.partial.literals assumptions n
first-on s t assumptions n on all =
    let (more, e) = on.longer in
    first-longer s.partial.literals t.partial.literals more assumptions n e all

pub first-all : (trues assumptions : List ℤ) (n : ℕ) → length assumptions ≤ n →
    AreFirstTrue trues assumptions n → AreAllTrue trues assumptions
first-all trues assumptions n le all l (i, lt, e) =
    let P : ℤ → Type 0 = Contains trues in
    subst P (get_or_default assumptions i (pos 0) l lt ∙ e) (all i (omega (arith, lt, le)))

pub values-reply : (s : Solver) (n : ℕ) (assumptions : List ℤ) (values : List Bool) → IsReady s →
    s.partial.variables ≡ n → AreLiterals n assumptions →
    AreSettled s.clauses s.partial.literals → ((l : ℤ) →
    IsLiteral s.partial.variables l →
    Contains s.partial.literals l ⊎ Contains s.partial.literals (neg_ℤ l)) →
    AreAllTrue s.partial.literals assumptions →
    AreValues s.partial.variables s.partial.literals values → (length values ≡ n) ×
    SatisfiesAll values s.clauses × ((l : ℤ) → Contains assumptions l → IsMadeTrue values l)
values-reply s n assumptions values ready same right settled full all are =
    let P : ℕ → Type 0 = λ m. AreLiterals m assumptions in
    let its : P s.partial.variables = subst P (sym same) right in (
      are.long ∙ same,
      all-satisfied s values ready settled full are,
      λ l there. made-true s values ready are l (its l there) (all l there),
    )

-- a decision leaves less to decide
pub decided-smaller : (s t u : Solver) (n m : ℕ) (l : ℤ) → s.partial.variables ≡ n → GoesOn s t →
    IsReady u → u.partial ≡ record t.partial { literals = t.partial.literals ++ l ∷ [] } →
    m + (n - length u.partial.literals) < m + (n - length s.partial.literals)
decided-smaller s t u n m l same on ready pushed =
    let variables : u.partial.variables ≡ n = ap (λ q. q.variables) pushed ∙ on.variables ∙ same in
    less-open m n (length s.partial.literals) (length u.partial.literals)
    (omega (
      arith,
      not-shorter s t on,
      ap (λ q. length q.literals) pushed,
      length_push t.partial.literals l,
    )) (omega (arith, no-more-than u ready, variables))

-- a search after a decision
pub sound-decided : (s t : Search) (l : ℤ) {A E : Type 0} (r : Result A E) → IsSound s →
    s.watches.done ≡ length s.solver.partial.literals → OnOk r (IsReady t.solver) →
    OnOk r (t.solver.clauses ≡ s.solver.clauses) →
    OnOk r (t.solver.limits.items ≡ s.solver.limits.items ++ length s.solver.partial.literals ∷ [])
    → OnOk r (t.solver.partial ≡ record s.solver.partial
    { literals = s.solver.partial.literals ++ l ∷ [] }) → t.watches ≡ s.watches →
    OnOk r (IsSound t)
sound-decided s t l (Err e) is done ready clauses limits pushed same = tt
sound-decided s t l (Ok a) is done ready clauses limits pushed same =
    let P : Watches → Type 0 = λ w. IsWatching t.solver w.done w.pairs.items w.lists in
    record {
      ready = ready;
      watching = subst P (sym same) (watching-decided s.solver t.solver s.watches.done
          s.watches.pairs.items s.watches.lists l is.watching done clauses limits pushed);
      long = ap (λ w. length w.pairs.items) same ∙ is.long ∙ sym (ap length clauses);
    }

pub if-ok : {A E : Type 0} (r : Result A E) (P Q : A → Type 0) → ((a : A) → P a → Q a) →
    IfOk r P → IfOk r Q
if-ok (Ok a) P Q f h = f a h
if-ok (Err e) P Q f h = tt

-- one literal more of the assumptions
pub subset-more : (core assumptions : Clause) (l : ℤ) → IsSubset core assumptions →
    Contains assumptions l → IsSubset (core ++ l ∷ []) assumptions
subset-more core assumptions l all there m of = elim (Contains-push_cases core l m of) [
  | inl old ↦ all m old
  | inr same ↦ let P : ℤ → Type 0 = Contains assumptions in subst P same there
]

-- at the place of a decision: it is one of the assumptions, or all these were true
abbrev IsAssumedAt : List ℤ → List ℤ → ℕ → Type 0
IsAssumedAt assumptions trail k = Contains assumptions (get_or trail k (pos 0)) ⊎
    AreAllTrue (take k trail) assumptions

assumed-at : (assumptions xs ys : List ℤ) (k : ℕ) → get_or ys k (pos 0) ≡ get_or xs k (pos 0) →
    take k ys ≡ take k xs → IsAssumedAt assumptions xs k → IsAssumedAt assumptions ys k
assumed-at assumptions xs ys k at front (inl there) = let P : ℤ → Type 0 = Contains assumptions in
    inl (subst P (sym at) there)
assumed-at assumptions xs ys k at front (inr all) =
    let P : List ℤ → Type 0 = λ zs. AreAllTrue zs assumptions in inr (subst P (sym front) all)

-- a state given by its parts
assumed-from : (t : Solver) (assumptions trail : List ℤ) (limits : List ℕ) →
    t.partial.literals ≡ trail → t.limits.items ≡ limits →
    ((q : ℕ) → q < length limits → IsAssumedAt assumptions trail (get_or limits q 0)) →
    AreAssumed t assumptions
assumed-from t assumptions trail limits e f all =
    let P : List ℤ → Type 0 = λ xs. (q : ℕ) → q < length limits →
    IsAssumedAt assumptions xs (get_or limits q 0) in
    let Q : List ℕ → Type 0 = λ ls. (q : ℕ) → q < length ls →
    IsAssumedAt assumptions t.partial.literals (get_or ls q 0) in
    subst Q (sym f) (subst P (sym e) all)

pub assumed-none : (t : Solver) (assumptions : List ℤ) → t.limits.items ≡ [] →
    AreAssumed t assumptions
assumed-none t assumptions none q lt = absurd (omega (arith, lt, ap length none))

pub assumed-on : (s t : Solver) (assumptions : List ℤ) → IsReady s → GoesOn s t →
    AreAssumed s assumptions → AreAssumed t assumptions
assumed-on s t assumptions ready on all =
    let (more, e) = on.longer in
    assumed-from t assumptions (s.partial.literals ++ more) s.limits.items e on.limits
    (λ q lt. assumed-at assumptions s.partial.literals (s.partial.literals ++ more)
    (get_or s.limits.items q 0)
    (get_or_append_left s.partial.literals more (pos 0) (get_or s.limits.items q 0)
    (ready.trail.within q lt))
    (take-append-le (get_or s.limits.items q 0) s.partial.literals more
    (omega (arith, ready.trail.within q lt))) (all q lt))

pub assumed-decided : (s t : Search) (assumptions : List ℤ) (l : ℤ) → IsReady s.solver →
    IsDecided s t assumptions l → AreAssumed s.solver assumptions → AreAssumed t.solver assumptions
assumed-decided s t assumptions l ready is all =
    assumed-from t.solver assumptions (trail ++ l ∷ []) (limits ++ length trail ∷ [])
    (ap (λ q. q.literals) is.pushed) is.limits each
  where
    trail : List ℤ
    trail = s.solver.partial.literals

    limits : List ℕ
    limits = s.solver.limits.items

    here : IsAssumedAt assumptions (trail ++ l ∷ []) (length trail)
    here = elim is.assumed [
      | inl there ↦ let P : ℤ → Type 0 = Contains assumptions in
          inl (subst P (sym (get_or_push trail l (pos 0) (length trail) refl)) there)
      | inr true' ↦ let P : List ℤ → Type 0 = λ xs. AreAllTrue xs assumptions in
          inr (subst P (sym (take_at trail (l ∷ []) (length trail) refl)) true')
    ]

    each : (q : ℕ) → q < length (limits ++ length trail ∷ []) →
        IsAssumedAt assumptions (trail ++ l ∷ []) (get_or (limits ++ length trail ∷ []) q 0)
    each q lt = let P : ℕ → Type 0 = IsAssumedAt assumptions (trail ++ l ∷ []) in
        elim (cases_lt q (length limits)) [
          | inl old ↦
              subst P (sym (get_or_append_left limits (length trail ∷ []) 0 q old))
              (assumed-at assumptions trail (trail ++ l ∷ []) (get_or limits q 0)
              (get_or_append_left trail (l ∷ []) (pos 0) (get_or limits q 0)
              (ready.trail.within q old))
              (take-append-le (get_or limits q 0) trail (l ∷ [])
              (omega (arith, ready.trail.within q old))) (all q old))
          | inr past ↦
              subst P (sym (get_or_push limits (length trail) 0 q
              (omega (arith, lt, past, length_push limits (length trail))))) here
        ]

pub assumed-taught : (s t : Solver) (assumptions : List ℤ) (c : Clause) (top : ℤ)
    (second : Option ℤ) (level : ℕ) → IsReady s → IsTaught s t c top second level →
    AreAssumed s assumptions → AreAssumed t assumptions
assumed-taught s t assumptions c top second level ready taught all =
    assumed-from t assumptions (take to s.partial.literals ++ top ∷ []) (take level s.limits.items)
    taught.trail taught.limits each
  where
    to : ℕ
    to = get_or s.limits.items level 0

    front : length (take to s.partial.literals) ≡ to
    front = length-take-le to s.partial.literals
        (omega (arith, ready.trail.within level taught.inside))

    each : (q : ℕ) → q < length (take level s.limits.items) → IsAssumedAt assumptions
        (take to s.partial.literals ++ top ∷ []) (get_or (take level s.limits.items) q 0)
    each q lt =
        let small : q < level = omega (
          arith,
          lt,
          length-take-le level s.limits.items (omega (arith, taught.inside)),
        ) in
        let k : ℕ = get_or s.limits.items q 0 in
        let low : k < to = ready.trail.rising q level small taught.inside in
        let P : ℕ → Type 0 = IsAssumedAt assumptions (take to s.partial.literals ++ top ∷ []) in
        subst P (sym (get_or-take level s.limits.items q 0 small))
        (assumed-at assumptions s.partial.literals (take to s.partial.literals ++ top ∷ []) k
        (get_or_append_left (take to s.partial.literals) (top ∷ []) (pos 0) k
        (omega (arith, low, front)) ∙ get_or-take to s.partial.literals k (pos 0) low)
        (take-append-le k (take to s.partial.literals) (top ∷ []) (omega (arith, low, front)) ∙
        take-take k to s.partial.literals (omega (arith, low)))
        (all q (omega (arith, small, taught.inside))))

-- with an assumption that is false, all decisions are assumptions
pub decided-all : (s : Solver) (assumptions : List ℤ) (l : ℤ) → IsReady s →
    AreAssumed s assumptions → Contains assumptions l → Contains s.partial.literals (neg_ℤ l) →
    AreDecided s assumptions
decided-all s assumptions l ready assumed there false' q lt =
    elim (assumed q lt) [
      | inl of ↦ of
      | inr all ↦
          let k : ℕ = get_or s.limits.items q 0 in
          let P : List ℤ → Type 0 = λ xs. Contains xs l in
          absurd (consistent-trail s ready l (subst P (take-append-drop k s.partial.literals)
          (Contains-append_left (take k s.partial.literals) (drop k s.partial.literals) l
          (all l there))) false')
    ]

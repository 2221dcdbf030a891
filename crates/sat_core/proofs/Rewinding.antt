-- A search between two asks: back to before all decisions, and one clause more.
use Rattle.std.proofs.Common.{◌≡◌, ℕ, ◌+◌, ◌^◌, ◌<◌, ◌≤◌, Bool, true, false, List, [], ◌∷◌, ◌++◌, length, get_or, take, inl, inr, refl, sym, ap, ◌∙◌, subst, arith}
use Rattle.std.specs.Prelude.{ℤ, pos, unsigned_abs, Option, Some, None, is_some, not, MatchBool, MatchOption, Result, Ok, Err, OnOk, IfOk, slice_get}
use Rattle.std.specs.List.{Contains}
use Rattle.std.proofs.lemmas.Bool.{cases_eq}
use Rattle.std.proofs.lemmas.List.{length-take-le, length_push, get_or_append_left, get_or-take}
use Rattle.chain_check.specs.Clauses.{Clause, AreLiterals}
use Rattle.chain_check.specs.Chains.{AllFalseIn}
use Rattle.sat_core.specs.declared.solver.Solver.{Solver}
use Rattle.sat_core.specs.declared.solving.Search.{Search}
use Rattle.sat_core.specs.declared.watches.Pair.{Pair}
use Rattle.sat_core.specs.declared.watches.Watches.{Watches}
use Rattle.sat_core.specs.Backs.{IsBack}
use Rattle.sat_core.specs.Lists.{place_of}
use Rattle.sat_core.specs.Searches.{IsSound}
use Rattle.sat_core.specs.Solvers.{IsReady, GoesOn, IsConflict}
use Rattle.sat_core.specs.Sessions.{Excludes}
use Rattle.sat_core.specs.Watches.{AllFalseBut, AreAdded, IsHeld, IsReplacement, IsWatching, no_pair}
use Rattle.sat_core.proofs.Adding.{watching-added, held-fixed, added-long, added-old, added-cases, added-first, added-second}
use Rattle.sat_core.proofs.Covering.{covered-open, watched-back, fixed-back}
use Rattle.sat_core.proofs.Forcing.{conflict-unmet}
use Rattle.sat_core.proofs.Holding.{held-on, place-inside, watching-from, watching-on}
use Rattle.sat_core.proofs.Visiting.{clause-is, literals-read}

-- back to before the decision of a level
pub watching-back : (s t : Solver) (done highest level : ℕ) (pairs : List Pair)
    (lists : List (List ℕ)) → IsReady s → IsWatching s done pairs lists → IsBack s t highest level →
    IsWatching t (length t.partial.literals) pairs lists
watching-back s t done highest level pairs lists ready is back =
    let P : ℕ → Type 0 = λ n. IsWatching t n pairs lists in
    subst P its-length (watching-from t s.partial.variables s.clauses
    (take to s.partial.literals) (take level s.limits.items) to pairs lists
    (ap (λ q. q.variables) back.pushed) back.clauses (ap (λ q. q.literals) back.pushed) back.limits
    (omega (arith, front)) after is.sized is.within is.inside held)
  where
    to : ℕ
    to = get_or s.limits.items level 0

    fits : to ≤ length s.partial.literals
    fits = omega (arith, ready.trail.within level back.inside)

    front : length (take to s.partial.literals) ≡ to
    front = length-take-le to s.partial.literals fits

    its-length : to ≡ length t.partial.literals
    its-length = sym front ∙ sym (ap (λ q. length q.literals) back.pushed)

    few : length (take level s.limits.items) ≡ level
    few = length-take-le level s.limits.items (omega (arith, back.inside))

    after : (q : ℕ) → q < length (take level s.limits.items) →
        get_or (take level s.limits.items) q 0 ≤ to
    after q lt = omega (
      arith,
      get_or-take level s.limits.items q 0 (omega (arith, lt, few)),
      ready.trail.rising q level (omega (arith, lt, few)) back.inside,
    )

    held : (k : ℕ) → k < length pairs → IsHeld (take to s.partial.literals)
        (take level s.limits.items) to lists (get_or s.clauses k []) k (get_or pairs k no_pair)
    held k lt =
        held-on s.partial.literals (take to s.partial.literals) s.limits.items
        (take level s.limits.items) done to lists lists (get_or s.clauses k []) k
        (get_or pairs k no_pair)
        (fixed-back s.partial.literals s.limits.items level (get_or s.clauses k []) back.inside
        fits)
        (λ x y h. watched-back s.partial.literals s.limits.items done level
        (get_or s.clauses k []) x y back.inside (is.after level back.inside) fits h)
        (λ x h. h) (is.held k lt)

-- to before all decisions
pub no-level : (s t : Solver) (level : ℕ) → IsBack s t 0 level → level ≡ 0
no-level s t level back = elim (cases_eq level 0) [
  | inl none ↦ none
  | inr some ↦ absurd (omega (arith, back.lower 0 (omega arith)))
]

pub sound-back : (s t : Search) (level : ℕ) → IsSound s → IsReady t.solver →
    IsBack s.solver t.solver 0 level → t.watches.pairs.items ≡ s.watches.pairs.items →
    t.watches.lists ≡ s.watches.lists → t.watches.done ≡ length t.solver.partial.literals →
    IsSound t
sound-back s t level is ready back pairs lists done =
    let D : ℕ → Type 0 = λ n. IsWatching t.solver n t.watches.pairs.items t.watches.lists in
    let P : List Pair → Type 0 = λ ps. IsWatching t.solver (length t.solver.partial.literals) ps
    t.watches.lists in
    let L : List (List ℕ) → Type 0 = λ ls. IsWatching t.solver (length t.solver.partial.literals)
    s.watches.pairs.items ls in
    record {
      ready = ready;
      watching = subst D (sym done) (subst P (sym pairs) (subst L (sym lists)
          (watching-back s.solver t.solver s.watches.done 0 level s.watches.pairs.items
          s.watches.lists is.ready is.watching back)));
      long = ap length pairs ∙ is.long ∙ sym (ap length back.clauses);
    }

-- a clause more, which is not watched yet
pub watching-clause : (s t : Solver) (c : Clause) (done : ℕ) (pairs : List Pair)
    (lists : List (List ℕ)) → IsWatching s done pairs lists → t.clauses ≡ s.clauses ++ c ∷ [] →
    t.partial ≡ s.partial → t.limits.items ≡ s.limits.items → IsWatching t done pairs lists
watching-clause s t c done pairs lists is clauses partial limits =
    watching-from t s.partial.variables (s.clauses ++ c ∷ []) s.partial.literals s.limits.items
    done pairs lists (ap (λ q. q.variables) partial) clauses (ap (λ q. q.literals) partial) limits
    is.reached is.after is.sized (omega (arith, is.within, length_push s.clauses c)) is.inside
    (λ k lt. let P : Clause → Type 0 = λ d. IsHeld s.partial.literals s.limits.items done lists d k
    (get_or pairs k no_pair) in
    subst P (sym (get_or_append_left s.clauses (c ∷ []) [] k (omega (arith, lt, is.within))))
    (is.held k lt))

-- with no literal that is not false, all are false
pub all-false : (n : ℕ) (trues : List ℤ) (c : Clause) (other : ℤ) → other ≡ pos 0 →
    AreLiterals n c → AllFalseBut trues c other → AllFalseIn trues c
all-false n trues c other zero' right all m there =
    all m there (λ e. let P : ℤ → Type 0 = λ q. 0 < unsigned_abs q in
    let none : P (pos 0) = subst P (e ∙ zero') (right m there).0 in absurd (omega arith))

-- a clause is watched between two asks
module _ (s : Solver) (w : Watches) (place : ℕ) (ready : IsReady s)
    (inside : place < length s.clauses)
    (watching : IsWatching s w.done w.pairs.items w.lists)
    (next : length w.pairs.items ≡ place) (c : Clause) (at : slice_get s.clauses place ≡ Some c)
    (other first : ℤ)
    (found : IsReplacement s.partial.literals c other first) where
  here : get_or s.clauses (length w.pairs.items) [] ≡ c
  here = ap (λ k. get_or s.clauses k []) next ∙ clause-is s.clauses place c at

  long-more : (pairs : List Pair) (pair : Pair) → pairs ≡ w.pairs.items ++ pair ∷ [] →
      length pairs ≡ place + 1
  long-more pairs pair e = omega (arith, ap length e, length_push w.pairs.items pair, next)

  pub entered-place : (m : ℤ) → Contains c m → place_of m < length w.lists
  entered-place m there = place-inside s.partial.variables m w.lists
      (literals-read s ready place inside c at m there) watching.sized

  pub entered-small : (m : ℤ) → Contains c m → unsigned_abs m < 2 ^ 31
  entered-small m there = omega (
    arith,
    (literals-read s ready place inside c at m there).1,
    ready.few_variables,
  )

  pub entered-two : (w' : Watches) (m : ℤ) → IsReplacement s.partial.literals c first m →
      w'.done ≡ w.done →
      w'.pairs.items ≡ w.pairs.items ++ (record { first = first; second = m }) ∷ [] →
      AreAdded (length w.pairs.items) first m w.lists w'.lists →
      IsWatching s w'.done w'.pairs.items w'.lists × (length w'.pairs.items ≡ place + 1)
  entered-two w' m second done e added =
      let pair : Pair = record { first = first; second = m } in
      let k : ℕ = length w.pairs.items in
      let one : place_of first < length w.lists = entered-place first found.there in
      let two : place_of m < length w.lists = entered-place m second.there in
      let D : ℕ → Type 0 = λ n. IsWatching s n w'.pairs.items w'.lists in
      let P : List Pair → Type 0 = λ ps. IsWatching s w.done ps w'.lists in
      let Q : Clause → Type 0 = λ d. IsHeld s.partial.literals s.limits.items w.done w'.lists d k
      pair in
      let held : Q c = record {
        first = found.there;
        second = second.there;
        guarded = inr (
          record {
            differ = λ e. second.differ (sym e);
            left = covered-open s.partial.literals s.limits.items w.done c first found.open_yet;
            right = covered-open s.partial.literals s.limits.items w.done c m second.open_yet;
          },
          added-first k first m w.lists w'.lists one two added,
          added-second k first m w.lists w'.lists one two added,
        );
      } in (
        subst D (sym done) (subst P (sym e) (watching-added s w.done w.pairs.items w.lists w'.lists
            pair watching (added-long k first m w.lists w'.lists one two added)
            (omega (arith, next, inside)) (added-old k first m w.lists w'.lists one two added)
            (added-cases k first m w.lists w'.lists one two added) (subst Q (sym here) held))),
        long-more w'.pairs.items pair e,
      )

  pub entered-one : (t : Solver) (w' : Watches) → GoesOn s t → Contains t.partial.literals first →
      s.limits.items ≡ [] → w'.done ≡ w.done → w'.pairs.items ≡ w.pairs.items ++
      (record { first = first; second = first }) ∷ [] → w'.lists ≡ w.lists →
      IsWatching t w'.done w'.pairs.items w'.lists × (length w'.pairs.items ≡ place + 1)
  entered-one t w' on true' none done e same =
      let pair : Pair = record { first = first; second = first } in
      let k : ℕ = length w.pairs.items in
      let D : ℕ → Type 0 = λ n. IsWatching t n w'.pairs.items w'.lists in
      let P : List Pair → Type 0 = λ ps. IsWatching t w.done ps w'.lists in
      let R : List (List ℕ) → Type 0 = λ ls. IsWatching t w.done (w.pairs.items ++ pair ∷ []) ls in
      let Q : Clause → Type 0 = λ d. IsHeld t.partial.literals t.limits.items w.done w.lists d k
      pair in
      let its : get_or t.clauses k [] ≡ c = ap (λ cs. get_or cs k []) on.clauses ∙ here in (
        subst D (sym done) (subst P (sym e) (subst R (sym same)
            (watching-added t w.done w.pairs.items w.lists w.lists pair
            (watching-on s t w.done w.pairs.items w.lists on watching) refl
            (omega (arith, next, inside, ap length on.clauses)) (λ q j h. h) (λ q j h. inl h)
            (subst Q (sym its) (held-fixed t k w.done c first w.lists found.there true'
            (on.limits ∙ none)))))),
        long-more w'.pairs.items pair e,
      )

-- a search whose last clause is watched, too, or false for good
pub sound-entered : (t : Search) (entered : Bool) (place : ℕ) → IsReady t.solver →
    length t.solver.limits.items ≡ 0 → place + 1 ≡ length t.solver.clauses → MatchBool entered
    (IsWatching t.solver t.watches.done t.watches.pairs.items t.watches.lists
    × (length t.watches.pairs.items ≡ place + 1)) (IsConflict t.solver (place + 1)) →
    MatchBool entered (IsSound t) (Excludes t.solver.clauses [])
sound-entered t true place ready none all is = record {
  ready = ready;
  watching = is.0;
  long = is.1 ∙ all;
}
sound-entered t false place ready none all is = λ values sat given.
    conflict-unmet t.solver (place + 1) ready none is values sat

pub sound-added : (s : Solver) (t : Search) (place : ℕ) {E : Type 0} (r : Result Bool E) →
    OnOk r (IsReady t.solver) → OnOk r (GoesOn s t.solver) → s.limits.items ≡ [] →
    place + 1 ≡ length s.clauses → IfOk r (λ entered. MatchBool entered
    (IsWatching t.solver t.watches.done t.watches.pairs.items t.watches.lists
    × (length t.watches.pairs.items ≡ place + 1)) (IsConflict t.solver (place + 1))) →
    IfOk r (λ entered. MatchBool entered (IsSound t) (Excludes t.solver.clauses []))
sound-added s t place (Err e) ready on none all is = tt
sound-added s t place (Ok entered) ready on none all is =
    sound-entered t entered place ready (ap length (on.limits ∙ none))
    (all ∙ sym (ap length on.clauses)) is

-- a search at its start, of which all is watched or a clause is false for good
pub first-kept : (t : Search) (n : ℕ) (found : Option ℕ) (refuted : Bool) →
    refuted ≡ is_some found → IsReady t.solver → length t.solver.limits.items ≡ 0 →
    t.solver.partial.variables ≡ n → MatchOption found
    (IsWatching t.solver t.watches.done t.watches.pairs.items t.watches.lists
    × (length t.watches.pairs.items ≡ length t.solver.clauses)) (λ k. IsConflict t.solver k) →
    (not refuted ≡ true → IsSound t × (t.solver.partial.variables ≡ n)) ×
    (refuted ≡ true → Excludes t.solver.clauses [])
first-kept t n None refuted e ready none same is = (
  λ sound. (record { ready = ready; watching = is.0; long = is.1 }, same),
  λ h. let clash : false ≡ true = sym e ∙ h in absurd (cc),
)
first-kept t n (Some k) refuted e ready none same is = (
  λ h. let clash : false ≡ true = sym (ap not e) ∙ h in absurd (cc),
  λ h values sat given. conflict-unmet t.solver k ready none is values sat,
)

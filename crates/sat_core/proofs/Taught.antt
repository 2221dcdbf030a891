-- The solver after it has learned.
use Rattle.std.proofs.Common.{◌≡◌, ℕ, suc, ◌+◌, ◌-◌, ◌^◌, ◌<◌, ◌≤◌, List, [], ◌∷◌, ◌++◌, Some, length, get_or, take, inl, inr, refl, sym, ap, ◌∙◌, subst, arith}
use Rattle.std.specs.Prelude.{ℤ, pos, neg_ℤ, unsigned_abs, slice_get, Option, None, MatchOption}
use Rattle.std.specs.List.{Contains}
use Rattle.std.proofs.lemmas.List.{length-take-le, length_push, get_or-take, take-take, get_or_push, get_or_append_left}
use Rattle.std.proofs.lemmas.Bool.{cases_eq, cases_lt, cases_order}
use Rattle.std.proofs.lemmas.Option.{slice_get-get_or}
use Rattle.sat_core.specs.declared.solver.Solver.{Solver}
use Rattle.chain_check.specs.Clauses.{Clause, IsLiteral, AreLiterals}
use Rattle.chain_check.specs.Chains.{IsUnit, IsNumbered}
use Rattle.sat_core.specs.Trails.{IsOpenIn, IsSettled, IsStep}
use Rattle.sat_core.specs.Solvers.{IsReady}
use Rattle.sat_core.specs.Points.{IsTopped}
use Rattle.sat_core.specs.Backs.{IsBack}
use Rattle.sat_core.specs.Lessons.{IsLate, IsSecond, IsTaught}
use Rattle.chain_check.proofs.Literals.{opposite-literal, twice}
use Rattle.sat_core.proofs.Trailing.{apart-places}
use Rattle.sat_core.proofs.Pointing.{literals, learned-unit, top-open, learned-settled}
use Rattle.sat_core.proofs.Backing.{ready-learned}

pub last-numbered : (clauses : List Clause) (c : Clause) →
    IsNumbered (clauses ++ c ∷ []) (length clauses + 1) c
last-numbered clauses c =
    let P : ℕ → Type 0 = λ k. slice_get (clauses ++ c ∷ []) k ≡ Some c in
    let same : length clauses ≡ (length clauses + 1) - 1 = omega arith in
    record {
      counted = omega arith;
      there = subst P same
          (slice_get-get_or (clauses ++ c ∷ []) (length clauses) c
          (omega (arith, length_push clauses c)) ∙
          ap Some (get_or_push clauses c c (length clauses) refl));
    }

module _ (s : Solver) (start p : ℕ) (its : Clause) (highest : ℕ) (ready : IsReady s)
    (some : 0 < length s.limits.items) (last : start ≡ get_or s.limits.items
    (length s.limits.items - 1) 0) (topped : IsTopped s.partial.literals start p its highest)
    (mid : Solver) (ready' : IsReady mid) (level : ℕ) (back : IsBack s mid highest level) where
  abbrev up : ℤ
  up = neg_ℤ (get_or s.partial.literals p (pos 0))

  -- the place to which it goes back
  abbrev to : ℕ
  to = get_or s.limits.items level 0

  trail-is : mid.partial.literals ≡ take to s.partial.literals
  trail-is = ap (λ t. t.literals) back.pushed

  variables-are : mid.partial.variables ≡ s.partial.variables
  variables-are = ap (λ t. t.variables) back.pushed

  limit-at : (j : ℕ) → j < length s.limits.items → level ≤ j →
      get_or s.limits.items level 0 ≤ get_or s.limits.items j 0
  limit-at j lt le =
      elim (cases_eq level j) [
        | inl same ↦ let P : ℕ → Type 0 = λ q. get_or s.limits.items level 0 ≤ get_or s.limits.items
            q 0 in subst P same (omega arith)
        | inr apart ↦ omega (arith, ready.trail.rising level j (omega arith) lt)
      ]

  to-low : to ≤ p
  to-low = omega (
    arith,
    limit-at (length s.limits.items - 1) (omega arith)
        (omega (arith, back.inside)),
    last,
    topped.level,
  )

  settled : (j : ℕ) → j < length mid.limits.items →
      IsSettled (take (get_or mid.limits.items j 0) mid.partial.literals) its
  settled j lt =
      let few : length (take level s.limits.items) ≡ level =
      length-take-le level s.limits.items (omega (arith, back.inside)) in
      let less : j < level = omega (arith, lt, ap length back.limits, few) in
      let low : get_or s.limits.items j 0 < highest = back.lower j less in
      let limit : get_or mid.limits.items j 0 ≡ get_or s.limits.items j 0 =
      ap (λ xs. get_or xs j 0) back.limits ∙ get_or-take level s.limits.items j 0 less in
      let front : take (get_or mid.limits.items j 0) mid.partial.literals ≡ take
      (get_or s.limits.items j 0) s.partial.literals =
      ap (λ q. take q mid.partial.literals) limit ∙ ap (take (get_or s.limits.items j 0)) trail-is ∙
      take-take (get_or s.limits.items j 0) to s.partial.literals
      (omega (arith, low, back.above)) in
      let P : List ℤ → Type 0 = λ xs. IsSettled xs its in
      subst P (sym front) (learned-settled s start p its highest ready some last topped
      (get_or s.limits.items j 0) low)

  pub taught-ready : (next : Solver) (c : Clause) → length s.clauses + 1 < 2 ^ 32 - 1 → c ≡ its →
      next.clauses ≡ mid.clauses ++ c ∷ [] → next.partial ≡ mid.partial →
      next.reasons.items ≡ mid.reasons.items → next.places.items ≡ mid.places.items →
      next.limits.items ≡ mid.limits.items → IsReady next
  taught-ready next c room e clauses partial reasons places limits =
      let P : ℕ → Type 0 = λ n. AreLiterals n its in
      ready-learned mid next its ready' (omega (arith, room, ap length back.clauses))
      (subst P (sym variables-are) (literals s start p its highest ready some last topped)) settled
      (clauses ∙ ap (λ d. mid.clauses ++ d ∷ []) e) partial reasons places limits

  pub taught-step : (clauses : List Clause) (c : Clause) (l : ℤ) (k : ℕ) → c ≡ its → l ≡ up →
      clauses ≡ mid.clauses ++ c ∷ [] → k ≡ length clauses →
      IsStep mid.partial.variables clauses mid.limits.items mid.partial.literals l k
  taught-step clauses c l k e f g h =
      let L : ℤ → Type 0 = λ z. IsStep mid.partial.variables clauses mid.limits.items
      mid.partial.literals z k in
      let size : length clauses ≡ length mid.clauses + 1 = ap length g ∙
      length_push mid.clauses c in
      subst L (sym f) (record {
        right = right;
        fresh = let P : List ℤ → Type 0 = λ xs. IsOpenIn xs up in
            subst P (sym trail-is) (top-open s start p its highest ready some last topped to to-low);
        caused = λ more.
            let N : List Clause → Type 0 = λ cs. IsNumbered cs k its in
            let M : ℕ → Type 0 = λ q. IsNumbered (mid.clauses ++ its ∷ []) q its in
            let U : List ℤ → Type 0 = λ xs. IsUnit xs its up in (
              its,
              subst N (sym (g ∙ ap (λ d. mid.clauses ++ d ∷ []) e))
                  (subst M (sym (h ∙ size)) (last-numbered mid.clauses its)),
              subst U (sym trail-is) (learned-unit s start p its highest ready some last topped to back.above
                  to-low),
            );
        decided = λ none. absurd (omega (arith, h, size, none));
      })
    where
      right : IsLiteral mid.partial.variables (neg_ℤ (get_or s.partial.literals p (pos 0)))
      right = let P : ℕ → Type 0 = λ n. IsLiteral n up in
          subst P (sym variables-are) (opposite-literal s.partial.variables
          (get_or s.partial.literals p (pos 0)) (ready.trail.steps p topped.inside).right)

  -- the literal that became false last of the others
  pub the-second : (t : Solver) (c : Clause) (top m : ℤ) → c ≡ its → top ≡ up → 0 < highest →
      m ≡ neg_ℤ (get_or s.partial.literals (highest - 1) (pos 0)) →
      t.limits.items ≡ mid.limits.items →
      t.partial.literals ≡ mid.partial.literals ++ top ∷ [] → IsSecond t c top m
  the-second t c top m e f some is limits trail =
      let (i, at, low, there) = topped.reached some in
      let inside : i < length s.partial.literals = omega
      (arith, low, topped.level, topped.inside) in
      let l : ℤ = get_or s.partial.literals i (pos 0) in
      let its-place : highest - 1 ≡ i = omega (arith, at) in
      let m-is : m ≡ neg_ℤ l = is ∙ ap (λ k. neg_ℤ (get_or s.partial.literals k (pos 0))) its-place
      in
      let C : Clause → Type 0 = λ d. Contains d m in
      let D : ℤ → Type 0 = Contains its in
      record {
        there = subst C (sym e) (subst D (sym m-is) there);
        differ = λ same.
            let clash : l ≡ get_or s.partial.literals p (pos 0) = sym (twice l) ∙
            ap neg_ℤ (sym m-is ∙ sym same ∙ f) ∙ twice (get_or s.partial.literals p (pos 0)) in
            apart-places s.partial.variables s.clauses s.partial.literals s.reasons.items
            s.limits.items ready.trail i p (omega (arith, low, topped.level)) topped.inside
            (ap unsigned_abs clash);
        late = late i at inside m-is;
      }
    where
      late : (i : ℕ) → suc i ≡ highest → i < length s.partial.literals →
          m ≡ neg_ℤ (get_or s.partial.literals i (pos 0)) →
          IsLate t.partial.literals t.limits.items m
      late i at inside m-is k stands q less =
          let few : length (take level s.limits.items) ≡ level =
          length-take-le level s.limits.items (omega (arith, back.inside)) in
          let within : q < level = omega (arith, less, ap length (limits ∙ back.limits), few) in
          let limit : get_or t.limits.items q 0 ≡ get_or s.limits.items q 0 =
          ap (λ xs. get_or xs q 0) (limits ∙ back.limits) ∙
          get_or-take level s.limits.items q 0 within in
          let low : get_or s.limits.items q 0 < highest = back.lower q within in
          elim (cases_lt k to) [
            | inr past ↦ omega (arith, limit, low, back.above, past)
            | inl early ↦
                let same : get_or s.partial.literals k (pos 0) ≡ get_or s.partial.literals i
                (pos 0) =
                sym (get_or-take to s.partial.literals k (pos 0) early) ∙
                sym (get_or_append_left (take to s.partial.literals) (top ∷ []) (pos 0) k
                (omega (
                  arith,
                  length-take-le to s.partial.literals
                      (omega (arith, to-low, topped.inside)),
                  early,
                ))) ∙
                sym (ap (λ xs. get_or xs k (pos 0))
                (trail ∙ ap (λ xs. xs ++ top ∷ []) trail-is)) ∙ stands.1 ∙ ap neg_ℤ m-is ∙
                twice (get_or s.partial.literals i (pos 0)) in
                elim (cases_order k i) [
                  | inl eq ↦ omega (arith, limit, low, at, eq)
                  | inr (inl less') ↦ absurd (apart-places s.partial.variables s.clauses
                      s.partial.literals s.reasons.items s.limits.items ready.trail k i less'
                      inside (ap unsigned_abs same))
                  | inr (inr more) ↦ absurd (apart-places s.partial.variables s.clauses
                      s.partial.literals s.reasons.items s.limits.items ready.trail i k more
                      (omega (arith, early, to-low, topped.inside)) (ap unsigned_abs (sym same)))
                ]
          ]

  pub taught-lesson : (t : Solver) (c : Clause) (top : ℤ) (second : Option ℤ) → c ≡ its → top ≡ up →
      MatchOption second (highest ≡ 0)
      (λ l. (0 < highest) × (l ≡ neg_ℤ (get_or s.partial.literals (highest - 1) (pos 0)))) →
      t.limits.items ≡ mid.limits.items →
      t.partial.literals ≡ mid.partial.literals ++ top ∷ [] → IsTaught s t c top second level
  taught-lesson t c top second e f found limits trail = record {
    inside = back.inside;
    limits = limits ∙ back.limits;
    trail = trail ∙ ap (λ xs. xs ++ top ∷ []) trail-is;
    has_top = let C : Clause → Type 0 = λ d. Contains d top in
        let D : ℤ → Type 0 = Contains its in
        subst C (sym e) (subst D (sym f) topped.top);
    has_second = seconds second found;
  }
    where
      seconds : (o : Option ℤ) → MatchOption o (highest ≡ 0)
          (λ l. (0 < highest) × (l ≡ neg_ℤ (get_or s.partial.literals (highest - 1) (pos 0)))) →
          MatchOption o (t.limits.items ≡ []) (IsSecond t c top)
      seconds None none =
          elim (cases_lt 0 level) [
            | inl some ↦ absurd (omega (arith, back.lower 0 some, none))
            | inr zero' ↦ let P : ℕ → Type 0 = λ n. t.limits.items ≡ take n s.limits.items in
                let here : level ≡ 0 = omega arith in
                subst P here (limits ∙ back.limits)
          ]
      seconds (Some m) (some, is) = the-second t c top m e f some is limits trail

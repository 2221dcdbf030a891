-- What a solver keeps, as its trail grows.
use Rattle.std.proofs.Common.{◌≡◌, ◌≢◌, ℕ, ◌-◌, ◌^◌, ◌<◌, List, [], ◌∷◌, ◌++◌, length, get_or, set, inl, inr, sym, ap, ◌∙◌, subst, arith, get_or-set_same, get_or-set_other}
use Rattle.std.specs.Prelude.{ℤ, pos, unsigned_abs, Result, Ok, Err, OnOk}
use Rattle.std.specs.List.{Contains}
use Rattle.std.proofs.lemmas.Bool.{cases_lt}
use Rattle.std.proofs.lemmas.List.{length-set, length_push, get_or_append_left, get_or_push}
use Rattle.std.proofs.lemmas.List.Elements.{Contains-get_or}
use Rattle.sat_core.specs.declared.solver.Solver.{Solver}
use Rattle.chain_check.specs.Clauses.{Clause, IsLiteral, AreClauses}
use Rattle.chain_check.specs.Store.{Trues}
use Rattle.sat_core.specs.Trails.{IsOpenIn, IsStep, IsTrail, ArePlaced, AreSettled}
use Rattle.sat_core.specs.Solvers.{IsReady}
use Rattle.chain_check.proofs.Literals.{of-one-variable}
use Rattle.sat_core.proofs.Trailing.{trail-implied, trail-decided}

placed-more : (trail : List ℤ) (places : List ℕ) (l : ℤ) → unsigned_abs l < length places →
    IsOpenIn trail l → ArePlaced trail places →
    ArePlaced (trail ++ l ∷ []) (set places (unsigned_abs l) (length trail))
placed-more trail places l small open' placed i lt =
    let P : ℤ → Type 0 = λ z. get_or (set places (unsigned_abs l) (length trail))
    (unsigned_abs z) 0 ≡ i in
    elim (cases_lt i (length trail)) [
      | inl old ↦
          let apart : unsigned_abs (get_or trail i (pos 0)) ≢ unsigned_abs l =
          λ e. elim (of-one-variable (get_or trail i (pos 0)) l e) [
            | inl same ↦ let Q : ℤ → Type 0 = Contains trail in
                open'.0 (subst Q same (Contains-get_or trail i (pos 0) old))
            | inr opposite ↦ let Q : ℤ → Type 0 = Contains trail in
                open'.1 (subst Q opposite (Contains-get_or trail i (pos 0) old))
          ] in
          subst P (sym (get_or_append_left trail (l ∷ []) (pos 0) i old))
          (get_or-set_other places (unsigned_abs l) (unsigned_abs (get_or trail i (pos 0)))
          (length trail) 0 apart ∙ placed i old)
      | inr past ↦
          let here : length trail ≡ i = omega (arith, length_push trail l) in
          subst P (sym (get_or_push trail l (pos 0) i here))
          (get_or-set_same places (unsigned_abs l) (length trail) 0 small ∙ here)
    ]

-- what a push leaves
pub record IsPushed (clauses : List Clause) (t : Trues) (reasons places limits : List ℕ) (l : ℤ)
    (k : ℕ) (new : Solver) : Type 0 where
  pub clauses_same : new.clauses ≡ clauses
  pub limits_same : new.limits.items ≡ limits
  pub reasons_more : new.reasons.items ≡ reasons ++ k ∷ []
  pub places_set : new.places.items ≡ set places (unsigned_abs l) (length t.literals)
  pub pushed : new.partial ≡ record t { literals = t.literals ++ l ∷ [] }

pub ready-from : (new : Solver) (n : ℕ) (clauses : List Clause) (trail : List ℤ)
    (reasons places limits : List ℕ) → new.clauses ≡ clauses → new.partial.variables ≡ n →
    new.partial.literals ≡ trail → new.reasons.items ≡ reasons → new.places.items ≡ places →
    new.limits.items ≡ limits → n < 2 ^ 31 → length clauses < 2 ^ 32 - 1 → n < length places →
    AreClauses n clauses → IsTrail n clauses trail reasons limits → ArePlaced trail places →
    IsReady new
ready-from new n clauses trail reasons places limits e f g h i j few many sized right is placed =
    let A : List Clause → Type 0 = λ cs. length cs < 2 ^ 32 - 1 in
    let B : ℕ → Type 0 = λ m. AreClauses m clauses in
    let C : List Clause → Type 0 = AreClauses new.partial.variables in
    let T1 : ℕ → Type 0 = λ m. IsTrail m clauses trail reasons limits in
    let T2 : List Clause → Type 0 = λ cs. IsTrail new.partial.variables cs trail reasons limits in
    let T3 : List ℤ → Type 0 = λ xs. IsTrail new.partial.variables new.clauses xs reasons limits in
    let T4 : List ℕ → Type 0 = λ rs. IsTrail new.partial.variables new.clauses new.partial.literals
    rs limits in
    let T5 : List ℕ → Type 0 = IsTrail new.partial.variables new.clauses new.partial.literals
    new.reasons.items in
    let P1 : List ℤ → Type 0 = λ xs. ArePlaced xs places in
    let P2 : List ℕ → Type 0 = ArePlaced new.partial.literals in
    record {
      few_variables = omega (arith, f, few);
      few_clauses = subst A (sym e) many;
      sized = omega (arith, f, ap length i, sized);
      right = subst C (sym e) (subst B (sym f) right);
      trail = subst T5 (sym j) (subst T4 (sym h)
          (subst T3 (sym g) (subst T2 (sym e) (subst T1 (sym f) is))));
      placed = subst P2 (sym i) (subst P1 (sym g) placed);
    }

pub ready-implied : (old new : Solver) (l : ℤ) (k : ℕ) → IsReady old →
    IsStep old.partial.variables old.clauses old.limits.items old.partial.literals l k →
    IsPushed old.clauses old.partial old.reasons.items old.places.items old.limits.items l k new →
    IsReady new
ready-implied old new l k ready step is =
    ready-from new old.partial.variables old.clauses (old.partial.literals ++ l ∷ [])
    (old.reasons.items ++ k ∷ []) (set old.places.items (unsigned_abs l)
    (length old.partial.literals)) old.limits.items is.clauses_same
    (ap (λ t. t.variables) is.pushed) (ap (λ t. t.literals) is.pushed) is.reasons_more
    is.places_set is.limits_same ready.few_variables ready.few_clauses
    (omega (
      arith,
      ready.sized,
      length-set old.places.items (unsigned_abs l)
          (length old.partial.literals),
    ))
    ready.right (trail-implied old.partial.variables old.clauses old.partial.literals
    old.reasons.items old.limits.items l k ready.trail step)
    (placed-more old.partial.literals old.places.items l
    (omega (arith, step.right.1, ready.sized)) step.fresh ready.placed)

pub ready-decided : (old new : Solver) (l : ℤ) → IsReady old →
    AreSettled old.clauses old.partial.literals → IsLiteral old.partial.variables l →
    IsOpenIn old.partial.literals l → IsPushed old.clauses old.partial old.reasons.items
    old.places.items (old.limits.items ++ length old.partial.literals ∷ []) l 0 new → IsReady new
ready-decided old new l ready settled right open' is =
    ready-from new old.partial.variables old.clauses (old.partial.literals ++ l ∷ [])
    (old.reasons.items ++ 0 ∷ []) (set old.places.items (unsigned_abs l)
    (length old.partial.literals)) (old.limits.items ++ length old.partial.literals ∷ [])
    is.clauses_same (ap (λ t. t.variables) is.pushed)
    (ap (λ t. t.literals) is.pushed) is.reasons_more is.places_set is.limits_same
    ready.few_variables ready.few_clauses
    (omega (
      arith,
      ready.sized,
      length-set old.places.items (unsigned_abs l)
          (length old.partial.literals),
    ))
    ready.right (trail-decided old.partial.variables old.clauses old.partial.literals
    old.reasons.items old.limits.items l ready.trail settled right open')
    (placed-more old.partial.literals old.places.items l
    (omega (arith, right.1, ready.sized)) open' ready.placed)

pub on-ok : {A E : Type 0} (r : Result A E) (P Q R : Type 0) → (P → Q → R) → OnOk r P → OnOk r Q →
    OnOk r R
on-ok (Ok a) P Q R f p q = f p q
on-ok (Err e) P Q R f p q = tt

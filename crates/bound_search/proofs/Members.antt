-- What the variables of a member say of a lasso, and that its clauses are met exactly so.
use Rattle.std.proofs.Common.{◌≡◌, ℕ, suc, ◌+◌, ◌-◌, ◌*◌, ◌/◌, ◌%◌, ◌<◌, ◌≤◌, ◌↔◌, Bool, true, nat_eq, List, length, get_or, inl, inr, refl, sym, ap, ◌∙◌, subst, arith}
use Rattle.std.specs.FinSet.{empty, contains, from_list, contains-from_list_nat}
use Rattle.std.specs.List.{Contains, filter, list_any}
use Rattle.std.specs.Ordering.{nat_cmp}
use Rattle.std.proofs.Math.Nat.{mod-add-div', mod-eq_of_lt, mod-lt, add-mod_left}
use Rattle.std.proofs.lemmas.Bool.{cases_lt}
use Rattle.std.proofs.lemmas.Bool.Decides.{Decides-eqb}
use Rattle.hy_base.proofs.Truths.{same-truth}
use Rattle.hy_base.proofs.Members.{any-from, any-of, filter-from, filter-of}
use Rattle.hy_bits.specs.Letter.{Letter}
use Rattle.hy_formula.specs.Lassos.{Lasso}
use Rattle.hy_lasso.specs.Words.{letter_at}
use Rattle.hy_lasso.proofs.LassoWords.{in-stem, in-cycle, lasso-repeats}
use Rattle.hy_base.specs.Rows.{listed}
use Rattle.hy_base.proofs.Listed.{length-listed, at-listed}
use Rattle.chain_check.specs.FewClauses.{for_each, further, same_clauses}
use Rattle.chain_check.specs.Values.{Assignment, AllMet}
use Rattle.chain_check.proofs.Values.{met-append, met-each, each-met, some-value, value-some}
use Rattle.chain_check.proofs.FewMeanings.{further-means, same-met, guarded-met}
use Rattle.bound_search.specs.declared.bound.Bound.{Bound}
use Rattle.bound_search.specs.Bounds.{IsShort}
use Rattle.bound_search.specs.Names.{name_place}
use Rattle.bound_search.specs.Spelling.{Spells, letter_read, lasso_read}
use Rattle.bound_search.specs.Queries.{round, places, letter_variable, cycle_variable, repeat_clauses, cycle_clauses, some_cycle, member_clauses}
use Rattle.bound_search.proofs.Naming.{place-within, at-place}

-- The variables of member t were written of the lasso, its letters and how many its cycle has.
pub record IsWritten (a : Assignment) (names : List ℕ) (bound : Bound) (t : ℕ)
    (l : Lasso Letter) : Type 0 where
  pub letters : (r : ℕ) → r < length names → (i : ℕ) → i < places bound →
      a (letter_variable names bound t r i) ≡ contains (letter_at l i) (get_or names r 0)
  pub cycle : (d : ℕ) → d < bound.cycle →
      a (cycle_variable names bound t d) ≡ nat_eq (suc d) (length l.cycle)

listed-at : {A : Type 0} (n : ℕ) (f : ℕ → A) (d : A) (i : ℕ) → i < n →
    get_or (listed 0 n f) i d ≡ f i
listed-at n f d i lt = let e : 0 + i ≡ i = omega arith in at-listed 0 n f d i lt ∙ ap f e

-- what is in a list that was filtered
filtered-has : (p : ℕ → Bool) (xs : List ℕ) (x : ℕ) → Contains xs x →
    contains (from_list {R = nat_cmp} (filter p xs)) x ≡ p x
filtered-has p xs x there =
    contains-from_list_nat (filter p xs) x ∙ same-truth _ (p x) to back
  where
    to : list_any (λ y. nat_eq y x) (filter p xs) ≡ true → p x ≡ true
    to h =
        let (y, c, e) = any-from (λ y. nat_eq y x) (filter p xs) h in
        let (_, passes) = filter-from p xs y c in
        let P : ℕ → Type 0 = λ z. p z ≡ true in
        subst P ((Decides-eqb y x).0 e) passes

    back : p x ≡ true → list_any (λ y. nat_eq y x) (filter p xs) ≡ true
    back h = any-of (λ y. nat_eq y x) (filter p xs) x (filter-of p xs x there h)
        ((Decides-eqb x x).1 refl)

filtered-from : (p : ℕ → Bool) (xs : List ℕ) (x : ℕ) →
    contains (from_list {R = nat_cmp} (filter p xs)) x ≡ true → Contains xs x
filtered-from p xs x h =
    let (y, c, e) = any-from (λ y. nat_eq y x) (filter p xs)
    (sym (contains-from_list_nat (filter p xs) x) ∙ h) in
    let (there, _) = filter-from p xs y c in
    let P : ℕ → Type 0 = Contains xs in
    subst P ((Decides-eqb y x).0 e) there

module _ (a : Assignment) (names : List ℕ) (bound : Bound) (t : ℕ) where
  -- place i of the name at place r
  abbrev at : ℕ → ℕ → Bool
  at r i = a (letter_variable names bound t r i)

  -- Behind the first round of d + 1 letters stand those of the first round.
  abbrev Repeats : ℕ → Type 0
  Repeats d = (r : ℕ) → r < length names → (j : ℕ) → j < round bound - suc d →
      at r (bound.stem + (suc d + j)) ≡ at r (bound.stem + j % suc d)

  repeat-met : (d r j : ℕ) → AllMet a (repeat_clauses names bound t d r j) ↔
      (a (cycle_variable names bound t d) ≡ true →
      at r (bound.stem + (suc d + j)) ≡ at r (bound.stem + j % suc d))
  repeat-met d r j =
      let x = letter_variable names bound t r (bound.stem + (suc d + j)) in
      let y = letter_variable names bound t r (bound.stem + j % suc d) in
      let guard =
      guarded-met a (cycle_variable names bound t d) (same_clauses (further x) (further y)) in
      let same =
      same-met a (further x) (further y) (a x) (a y) (further-means a x) (further-means a y) in
      (λ h e. same.0 (guard.0 h e), λ f. guard.1 (λ e. same.1 (f e)))

  -- ---- a lasso, where the clauses are met

  repeats-met : (d : ℕ) → a (cycle_variable names bound t d) ≡ true →
      AllMet a (cycle_clauses names bound t d) → Repeats d
  repeats-met d e h r few j lt =
      (repeat-met d r j).0 (met-each a (repeat_clauses names bound t d r) _
      (met-each a _ _ h r few) j lt) e

  -- some length of the cycle
  pub some-length : AllMet a (member_clauses names bound t) →
      (d : ℕ) × (d < bound.cycle) × (a (cycle_variable names bound t d) ≡ true)
  some-length h =
      let (some, _) = (met-append a (some_cycle names bound t)
      (for_each (cycle_clauses names bound t) bound.cycle)).0 h in
      some-value a (λ d. further (cycle_variable names bound t d)) bound.cycle some.0

  -- behind the stem the letters go round
  round-read : (d : ℕ) → Repeats d → (r : ℕ) → r < length names → (i : ℕ) → bound.stem ≤ i →
      i < places bound → at r i ≡ at r (bound.stem + (i - bound.stem) % suc d)
  round-read d repeats r few i from lt = elim (cases_lt (i - bound.stem) (suc d)) [
    | inl first ↦
        let e : (i - bound.stem) % suc d ≡ i - bound.stem = mod-eq_of_lt first in
        let whole : i ≡ bound.stem + (i - bound.stem) % suc d = omega (arith, e, from) in
        ap (at r) whole
    | inr past ↦
        let j : ℕ = i - bound.stem - suc d in
        let whole : i - bound.stem ≡ suc d + j = omega (arith, past) in
        let there : i ≡ bound.stem + (suc d + j) = omega (arith, past, from) in
        let less : j % suc d ≡ (i - bound.stem) % suc d =
        sym (add-mod_left (suc d) j) ∙ ap (λ x. x % suc d) (sym whole) in
        ap (at r) there ∙ repeats r few j (omega (arith, past, from, lt))
        ∙ ap (λ k. at r (bound.stem + k)) less
  ]

  read-before : (d i : ℕ) → i < bound.stem →
      letter_at (lasso_read a names bound t d) i ≡ letter_read a names bound t i
  read-before d i before =
      let l : Lasso Letter = lasso_read a names bound t d in
      let letter : ℕ → Letter = letter_read a names bound t in
      let stem : length l.stem ≡ bound.stem = length-listed 0 bound.stem letter in
      in-stem empty l i (omega (arith, stem, before)) ∙ listed-at bound.stem letter empty i before

  read-behind : (d i : ℕ) → bound.stem ≤ i → letter_at (lasso_read a names bound t d) i
      ≡ letter_read a names bound t (bound.stem + (i - bound.stem) % suc d)
  read-behind d i from =
      let l : Lasso Letter = lasso_read a names bound t d in
      let letter : ℕ → Letter = letter_read a names bound t in
      let stem : length l.stem ≡ bound.stem = length-listed 0 bound.stem letter in
      let cycle : length l.cycle ≡ suc d = length-listed bound.stem (suc d) letter in
      let k : ℕ = (i - bound.stem) % suc d in
      let few : k < suc d = mod-lt (i - bound.stem) (omega arith) in
      in-cycle empty l i (omega (arith, stem, from))
      ∙ ap (λ n. get_or l.cycle ((i - n) % length l.cycle) empty) stem
      ∙ ap (λ n. get_or l.cycle ((i - bound.stem) % n) empty) cycle
      ∙ at-listed bound.stem (suc d) letter empty k few

  spells-read : (d : ℕ) → Repeats d → Spells a names bound t (lasso_read a names bound t d)
  spells-read d repeats name there i lt =
      let l : Lasso Letter = lasso_read a names bound t d in
      let has : (k : ℕ) → contains (letter_read a names bound t k) name
      ≡ at (name_place name names) k =
      λ k. filtered-has (λ x. at (name_place x names) k) names name there in
      elim (cases_lt i bound.stem) [
        | inl before ↦
            sym (has i) ∙ sym (ap (λ x. contains x name) (read-before d i before))
        | inr from ↦
            round-read d repeats (name_place name names) (place-within name names there) i from lt
            ∙ sym (has (bound.stem + (i - bound.stem) % suc d))
            ∙ sym (ap (λ x. contains x name) (read-behind d i from))
      ]

  -- The lasso has these names alone.
  pub named-read : (d i name : ℕ) →
      contains (letter_at (lasso_read a names bound t d) i) name ≡ true → Contains names name
  named-read d i name h =
      let from_letter : (k : ℕ) → contains (letter_read a names bound t k) name ≡ true →
      Contains names name =
      λ k e. filtered-from (λ x. at (name_place x names) k) names name e in
      elim (cases_lt i bound.stem) [
        | inl before ↦
            from_letter i (sym (ap (λ x. contains x name) (read-before d i before)) ∙ h)
        | inr from ↦
            from_letter (bound.stem + (i - bound.stem) % suc d)
            (sym (ap (λ x. contains x name) (read-behind d i from)) ∙ h)
      ]

  pub short-read : (d : ℕ) → d < bound.cycle → IsShort bound (lasso_read a names bound t d)
  short-read d lt =
      let letter : ℕ → Letter = letter_read a names bound t in
      let stem = length-listed 0 bound.stem letter in
      let cycle = length-listed bound.stem (suc d) letter in
      record {
        stem = omega (arith, stem);
        some = omega (arith, cycle);
        cycle = omega (arith, cycle, lt);
      }

  -- Where the clauses of a member are met, its variables spell the lasso of each length.
  pub met-read : AllMet a (member_clauses names bound t) → (d : ℕ) → d < bound.cycle →
      a (cycle_variable names bound t d) ≡ true →
      Spells a names bound t (lasso_read a names bound t d)
  met-read h d lt e =
      let (_, each) = (met-append a (some_cycle names bound t)
      (for_each (cycle_clauses names bound t) bound.cycle)).0 h in
      spells-read d (repeats-met d e (met-each a (cycle_clauses names bound t) bound.cycle
      each d lt))

  -- It spells some lasso.
  pub met-member : AllMet a (member_clauses names bound t) →
      (l : Lasso Letter) × IsShort bound l × Spells a names bound t l
  met-member h =
      let (d, lt, e) = some-length h in
      (lasso_read a names bound t d, short-read d lt, met-read h d lt e)

  -- ---- the clauses, where the variables were written of a lasso

  module _ (l : Lasso Letter) (short : IsShort bound l)
      (written : IsWritten a names bound t l) where
    pub spells-written : Spells a names bound t l
    spells-written name there i lt =
        written.letters (name_place name names) (place-within name names there) i lt
        ∙ ap (contains (letter_at l i)) (at-place name names there)

    written-repeats : (d : ℕ) → suc d ≡ length l.cycle → Repeats d
    written-repeats d long r few j lt =
        let short_stem = short.stem in
        let rest : j % suc d < suc d = mod-lt j (omega arith) in
        let parts : j % suc d + j / suc d * suc d ≡ j = mod-add-div' j (suc d) in
        let i : ℕ = bound.stem + j % suc d in
        let m : ℕ = suc (j / suc d) in
        let whole : bound.stem + (suc d + j) ≡ i + m * suc d = omega (arith, parts) in
        let e : letter_at l (bound.stem + (suc d + j)) ≡ letter_at l i =
        ap (letter_at l) (whole ∙ ap (λ c. i + m * c) long)
        ∙ lasso-repeats empty l m i (omega (arith, short_stem)) in
        written.letters r few _ (omega (arith, lt))
        ∙ ap (λ x. contains x (get_or names r 0)) e
        ∙ sym (written.letters r few i (omega (arith, rest, lt)))

    pub member-met : AllMet a (member_clauses names bound t)
    member-met =
        let some = short.some in
        let few = short.cycle in
        let last : ℕ = length l.cycle - 1 in
        let long : suc last ≡ length l.cycle = omega (arith, some) in
        let within : last < bound.cycle = omega (arith, some, few) in
        (met-append a (some_cycle names bound t) (for_each
        (cycle_clauses names bound t) bound.cycle)).1 (
          (
            value-some a (λ d. further (cycle_variable names bound t d)) bound.cycle last within
                (written.cycle last within ∙ (Decides-eqb (suc last) (length l.cycle)).1 long),
            tt,
          ),
          each-met a (cycle_clauses names bound t) bound.cycle (λ d lt.
              each-met a _ (length names) (λ r there.
              each-met a (repeat_clauses names bound t d r) _ (λ j behind.
              (repeat-met d r j).1 (λ e. written-repeats d
              ((Decides-eqb (suc d) (length l.cycle)).0 (sym (written.cycle d lt) ∙
              e)) r there j behind)))),
        )

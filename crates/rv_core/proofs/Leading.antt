-- What is kept with a trace more are the leaders again.
use Rattle.std.proofs.Common.{◌≡◌, ℕ, Bool, true, false, not, cond, nat_eq, List, [], ◌∷◌, ◌++◌, length, ◌⊎◌, inl, inr, refl, sym, ap, ◌∙◌, subst}
use Rattle.std.specs.List.{Contains, list_any, filter}
use Rattle.std.proofs.lemmas.Bool.{eq-eqb, eqb-true, cases_Bool}
use Rattle.hy_base.proofs.Members.{contains-here, contains-later, contains-cases, contains-none, any-from, any-of}
use Rattle.hy_formula.specs.Quantifiers.{Each}
use Rattle.hy_formula.proofs.Each.{each-at}
use Rattle.hy_finite.specs.declared.lengths.Lengths.{Lengths}
use Rattle.hy_finite.specs.Traces.{Trace}
use Rattle.fin_monitor.specs.Machines.{Machine}
use Rattle.trace_trie.specs.Numbered.{Numbered}
use Rattle.dominance.specs.Leaders.{IsAt, AreLeaders, TestKept, numbered}
use Rattle.dominance.specs.Leaders as leaders
use Rattle.dominance.proofs.Elements.{at-one}
use Rattle.dominance.proofs.Leaderships.{refused-new, kept-step}
use Rattle.rv_core.specs.Arrivals.{IsOver, IsUnder, AreLeft, none, dropped, stays, IsNext, over, last}
use Rattle.rv_core.specs.Held.{spec_of}
use Rattle.rv_core.specs.Keeping.{Covers, IsKept, members_of}
use Rattle.rv_core.proofs.Keepings.{covers-itself, covers-through, kept-at, member-of, member-from}

pub members-push : (kept : List Numbered) (p : Numbered)
    → members_of (kept ++ p ∷ []) ≡ members_of kept ++ numbered p.0 p.1 ∷ []
members-push [] p = refl
members-push (q ∷ qs) p = ap (λ xs. numbered q.0 q.1 ∷ xs) (members-push qs p)

module _ (rule : Lengths) (drop : Bool) (m : Machine) (t : Trace) where
  -- each one is covered, or left
  under-or-left : (kept left : List Numbered) → AreLeft rule drop m t kept left → (p : Numbered)
      → Contains kept p → IsUnder rule drop m t p ⊎ Contains left p
  under-or-left kept left none p c = absurd (contains-none p c)
  under-or-left kept left (dropped q ps rest is more) p c =
      elim (contains-cases q p ps c) [
        | inl e ↦ let P : Numbered → Type 0 = IsUnder rule drop m t in inl (subst P e is)
        | inr later ↦ under-or-left ps rest more p later
      ]
  under-or-left kept left (stays q ps rest not_under more) p c =
      elim (contains-cases q p ps c) [
        | inl e ↦
            let P : Numbered → Type 0 = Contains (q ∷ rest) in
            inr (subst P e (contains-here q rest))
        | inr later ↦ elim (under-or-left ps rest more p later) [
          | inl is ↦ inl is
          | inr in_rest ↦ inr (contains-later q p rest in_rest)
        ]
      ]

  -- what is left was kept, and is not covered
  left-was : (kept left : List Numbered) → AreLeft rule drop m t kept left → (p : Numbered)
      → Contains left p → Contains kept p × (¬ IsUnder rule drop m t p)
  left-was kept left none p c = absurd (contains-none p c)
  left-was kept left (dropped q ps rest is more) p c =
      let (was, fact) = left-was ps rest more p c in (contains-later q p ps was, fact)
  left-was kept left (stays q ps rest not_under more) p c =
      elim (contains-cases q p rest c) [
        | inl e ↦
            let P : Numbered → Type 0 = Contains (q ∷ ps) in
            let Q : Numbered → Type 0 = λ r. ¬ IsUnder rule drop m t r in
            (subst P e (contains-here q ps), subst Q e not_under)
        | inr later ↦
            let (was, fact) = left-was ps rest more p later in (contains-later q p ps was, fact)
      ]

  -- a test that says which are covered leaves the same
  filter-left : (kept left : List Numbered) → AreLeft rule drop m t kept left
      → (f : leaders.Numbered Trace → Bool)
      → ((p : Numbered) → Contains kept p → IsUnder rule drop m t p → f (numbered p.0 p.1) ≡ true)
      → ((p : Numbered) → Contains kept p → (¬ IsUnder rule drop m t p)
      → f (numbered p.0 p.1) ≡ false)
      → filter (λ (y : leaders.Numbered Trace). not (f y)) (members_of kept) ≡ members_of left
  filter-left kept left none f is_under is_left = refl
  filter-left kept left (dropped q ps rest is more) f is_under is_left =
      let tail = filter (λ (y : leaders.Numbered Trace). not (f y)) (members_of ps) in
      ap (λ b. cond (not b) (numbered q.0 q.1 ∷ tail) tail) (is_under q (contains-here q ps) is)
      ∙ filter-left ps rest more f (λ p c. is_under p (contains-later q p ps c))
      (λ p c. is_left p (contains-later q p ps c))
  filter-left kept left (stays q ps rest not_under more) f is_under is_left =
      let tail = filter (λ (y : leaders.Numbered Trace). not (f y)) (members_of ps) in
      ap (λ b. cond (not b) (numbered q.0 q.1 ∷ tail) tail)
      (is_left q (contains-here q ps) not_under)
      ∙ ap (λ xs. numbered q.0 q.1 ∷ xs) (filter-left ps rest more f
      (λ p c. is_under p (contains-later q p ps c)) (λ p c. is_left p (contains-later q p ps c)))

  module _ (list : List Trace) (kept left : List Numbered)
      (is : IsKept rule drop (spec_of m) list kept) (are : AreLeft rule drop m t kept left) where
    -- a kept one is covered where its number is not left
    abbrev number_left : ℕ → Bool
    number_left n = list_any (λ (q : Numbered). nat_eq q.0 n) left

    left-number : (p : Numbered) → Contains kept p → (¬ IsUnder rule drop m t p)
        → number_left p.0 ≡ true
    left-number p c not_under =
        elim (under-or-left kept left are p c) [
          | inl under ↦ absurd (not_under under)
          | inr in_left ↦
              any-of (λ (q : Numbered). nat_eq q.0 p.0) left p in_left (eq-eqb p.0 p.0 refl)
        ]

    number-left : (p : Numbered) → Contains kept p → number_left p.0 ≡ true
        → ¬ IsUnder rule drop m t p
    number-left p c e under =
        let (q, in_left, same) = any-from (λ (q : Numbered). nat_eq q.0 p.0) left e in
        let (was, not_under) = left-was kept left are q in_left in
        let number : q.0 ≡ p.0 = eqb-true q.0 p.0 same in
        let P : ℕ → Type 0 = λ k. IsAt list k q.1 in
        let at = subst P number (kept-at rule drop (spec_of m) list kept is q was) in
        let item : p.1 ≡ q.1 =
        at-one list p.0 p.1 q.1 (kept-at rule drop (spec_of m) list kept is p c) at in
        let Q : Trace → Type 0 = Covers rule drop (spec_of m) t in
        not_under (subst Q item under)

    abbrev under_test : leaders.Numbered Trace → Bool
    under_test y = not (number_left y.number)

    under-true : (p : Numbered) → Contains kept p → IsUnder rule drop m t p
        → under_test (numbered p.0 p.1) ≡ true
    under-true p c under =
        elim (cases_Bool (number_left p.0)) [
          | inl e ↦ absurd (number-left p c e under)
          | inr e ↦ ap not e
        ]

    under-false : (p : Numbered) → Contains kept p → (¬ IsUnder rule drop m t p)
        → under_test (numbered p.0 p.1) ≡ false
    under-false p c not_under = ap not (left-number p c not_under)

    true-under : (p : Numbered) → Contains kept p → under_test (numbered p.0 p.1) ≡ true
        → IsUnder rule drop m t p
    true-under p c e =
        elim (under-or-left kept left are p c) [
          | inl under ↦ under
          | inr in_left ↦
              let f = under-false p c (left-was kept left are p in_left).1 in absurd (cc)
        ]

    tests : Each (λ (p : Numbered). ¬ IsOver rule drop m t p) kept
        → TestKept (Covers rule drop (spec_of m)) (members_of kept) t (λ y. false) under_test
    tests no_over = record {
      above_right = λ x c. (
        λ e. absurd (cc),
        λ o. absurd (each-at (λ (p : Numbered). ¬ IsOver rule drop m t p) kept (x.number, x.item)
            no_over (member-from kept x c) o),
      );
      under_right = λ x c.
          let d = member-from kept x c in
          (true-under (x.number, x.item) d, under-true (x.number, x.item) d);
    }

    none-above : (xs : List (leaders.Numbered Trace)) → list_any (λ y. false) xs ≡ false
    none-above [] = refl
    none-above (x ∷ xs) = none-above xs

    taken : Each (λ (p : Numbered). ¬ IsOver rule drop m t p) kept
        → IsKept rule drop (spec_of m) (list ++ t ∷ []) (left ++ (length list, t) ∷ [])
    taken no_over =
        let Over = Covers rule drop (spec_of m) in
        let x = numbered (length list) t in
        let rest = filter (λ (y : leaders.Numbered Trace). not (under_test y)) (members_of kept) in
        let step = kept-step Over (covers-itself rule drop (spec_of m))
        (covers-through rule drop (spec_of m)) list t (members_of kept) is (λ y. false) under_test
        (tests no_over) in
        let P : List (leaders.Numbered Trace) → Type 0 = AreLeaders Over (list ++ t ∷ []) in
        let Q : Bool → Type 0 = λ b. P (cond b (members_of kept) (rest ++ x ∷ [])) in
        let same = filter-left kept left are under_test under-true under-false in
        subst P (ap (λ xs. xs ++ x ∷ []) same ∙ sym (members-push left (length list, t)))
        (subst Q (none-above (members_of kept)) step)

  pub next-kept : (list : List Trace) (kept new : List Numbered)
      → IsKept rule drop (spec_of m) list kept → IsNext rule drop m t (length list) kept new
      → IsKept rule drop (spec_of m) (list ++ t ∷ []) new
  next-kept list kept new is (over p c o e) =
      let P : List Numbered → Type 0 = IsKept rule drop (spec_of m) (list ++ t ∷ []) in
      subst P (sym e) (refused-new (Covers rule drop (spec_of m))
      (covers-itself rule drop (spec_of m)) (covers-through rule drop (spec_of m)) list t
      (members_of kept) is (numbered p.0 p.1) (member-of kept p c) o)
  next-kept list kept new is (last left no_over are e) =
      let P : List Numbered → Type 0 = IsKept rule drop (spec_of m) (list ++ t ∷ []) in
      subst P (sym e) (taken list kept left is are no_over)

-- Numbered traces one after another, and those of them that are left.
use Rattle.std.proofs.Common.{◌≡◌, ℕ, ◌+◌, ◌<◌, ◌≤◌, Bool, true, false, nat_lt, cond, not, List, [], ◌∷◌, ◌++◌, refl, sym, ap, ◌∙◌, subst, arith, append_assoc, append-nil}
use Rattle.std.specs.List.{Contains}
use Rattle.std.proofs.lemmas.Bool.{eq-eqb, lt-ltb, le-ltb, ltb-true, ltb-false}
use Rattle.std.proofs.lemmas.List.Elements.{Contains-append_right}
use Rattle.hy_base.proofs.Members.{contains-here}
use Rattle.hy_formula.specs.Quantifiers.{Each}
use Rattle.hy_formula.proofs.Each.{each-append, each-like}
use Rattle.hy_finite.specs.declared.lengths.Lengths.{Lengths}
use Rattle.hy_finite.specs.Traces.{Trace}
use Rattle.fin_monitor.specs.Machines.{Machine}
use Rattle.trace_trie.specs.Numbered.{Numbered, IsAscending, rest_from, without_number}
use Rattle.trace_trie.proofs.Numbering.{without-other, without-append}
use Rattle.rv_core.specs.Arrivals.{IsOver, IsUnder, AreLeft, none, dropped, stays, IsNext, last}

-- ---- what is left of a list from a number on

pub rest-start : (list : List Numbered) → rest_from 0 list ≡ list
rest-start [] = refl
rest-start (p ∷ ps) =
    ap (λ b. cond b (rest_from 0 ps) (p ∷ ps)) (le-ltb p.0 0 (omega arith))

rest-all : (n : ℕ) (list : List Numbered) → Each (λ (q : Numbered). n ≤ q.0) list
    → rest_from n list ≡ list
rest-all n [] h = refl
rest-all n (p ∷ ps) h = ap (λ b. cond b (rest_from n ps) (p ∷ ps)) (le-ltb p.0 n h.0)

pub rest-head : (n : ℕ) (list : List Numbered) (p : Numbered) (more : List Numbered)
    → rest_from n list ≡ p ∷ more → n ≤ p.0
rest-head n [] p more e = absurd (cc)
rest-head n (x ∷ xs) p more e = by (nat_lt x.0 n) refl e (rest-head n xs p more)
  where
    by : (b : Bool) → nat_lt x.0 n ≡ b → cond b (rest_from n xs) (x ∷ xs) ≡ p ∷ more
        → (rest_from n xs ≡ p ∷ more → n ≤ p.0) → n ≤ p.0
    by true f e go = go e
    by false f e go =
        let same : x ≡ p = cc in
        let number : x.0 ≡ p.0 = ap (λ (q : Numbered). q.0) same in
        omega (arith, ltb-false x.0 n f)

-- behind a number comes the next one
pub rest-next : (n : ℕ) (list : List Numbered) (p : Numbered) (more : List Numbered)
    → IsAscending list → rest_from n list ≡ p ∷ more → rest_from (p.0 + 1) list ≡ more
rest-next n [] p more h e = absurd (cc)
rest-next n (x ∷ xs) p more (above, h) e =
    by (nat_lt x.0 n) refl e (rest-next n xs p more h)
  where
    by : (b : Bool) → nat_lt x.0 n ≡ b → cond b (rest_from n xs) (x ∷ xs) ≡ p ∷ more
        → (rest_from n xs ≡ p ∷ more → rest_from (p.0 + 1) xs ≡ more)
        → rest_from (p.0 + 1) (x ∷ xs) ≡ more
    by true f e go =
        let le = rest-head n xs p more e in
        ap (λ b. cond b (rest_from (p.0 + 1) xs) (x ∷ xs))
        (lt-ltb x.0 (p.0 + 1) (omega (arith, ltb-true x.0 n f, le)))
        ∙ go e
    by false f e go =
        let same : x ≡ p = cc in
        let rest : xs ≡ more = cc in
        let number : x.0 ≡ p.0 = ap (λ (q : Numbered). q.0) same in
        ap (λ b. cond b (rest_from (p.0 + 1) xs) (x ∷ xs))
        (lt-ltb x.0 (p.0 + 1) (omega arith))
        ∙ rest-all (p.0 + 1) xs
        (each-like (λ (q : Numbered). x.0 < q.0) (λ (q : Numbered). p.0 + 1 ≤ q.0) (λ q lt. omega arith) xs above)
        ∙ rest

pub rest-contains : (n : ℕ) (list : List Numbered) (p : Numbered) (more : List Numbered)
    → rest_from n list ≡ p ∷ more → Contains list p
rest-contains n [] p more e = absurd (cc)
rest-contains n (x ∷ xs) p more e = by (nat_lt x.0 n) e (rest-contains n xs p more)
  where
    by : (b : Bool) → cond b (rest_from n xs) (x ∷ xs) ≡ p ∷ more
        → (rest_from n xs ≡ p ∷ more → Contains xs p) → Contains (x ∷ xs) p
    by true e go = Contains-append_right (x ∷ []) xs p (go e)
    by false e go =
        let same : x ≡ p = cc in
        let P : Numbered → Type 0 = Contains (x ∷ xs) in subst P same (contains-here x xs)

without-here : (p : Numbered) (more : List Numbered)
    → without_number p.0 (p ∷ more) ≡ without_number p.0 more
without-here p more =
    ap (λ b. cond (not b) (p ∷ without_number p.0 more) (without_number p.0 more))
    (eq-eqb p.0 p.0 refl)

-- ---- those that are left

module _ (rule : Lengths) (drop : Bool) (m : Machine) (t : Trace) where
  left-dropped : (kept left : List Numbered) (p : Numbered) → AreLeft rule drop m t kept left
      → IsUnder rule drop m t p → AreLeft rule drop m t (kept ++ p ∷ []) left
  left-dropped kept left p none is = dropped p [] [] is none
  left-dropped kept left p (dropped q ps rest under more) is =
      dropped q (ps ++ p ∷ []) rest under (left-dropped ps rest p more is)
  left-dropped kept left p (stays q ps rest not_under more) is =
      stays q (ps ++ p ∷ []) rest not_under (left-dropped ps rest p more is)

  left-stays : (kept left : List Numbered) (p : Numbered) → AreLeft rule drop m t kept left
      → (¬ IsUnder rule drop m t p) → AreLeft rule drop m t (kept ++ p ∷ []) (left ++ p ∷ [])
  left-stays kept left p none is = stays p [] [] is none
  left-stays kept left p (dropped q ps rest under more) is =
      dropped q (ps ++ p ∷ []) (rest ++ p ∷ []) under (left-stays ps rest p more is)
  left-stays kept left p (stays q ps rest not_under more) is =
      stays q (ps ++ p ∷ []) (rest ++ p ∷ []) not_under (left-stays ps rest p more is)

  pub left-each : (P : Numbered → Type 0) (kept left : List Numbered)
      → AreLeft rule drop m t kept left
      → Each P kept → Each P left
  left-each P kept left none e = tt
  left-each P kept left (dropped q ps rest under more) (here, e) = left-each P ps rest more e
  left-each P kept left (stays q ps rest not_under more) (here, e) =
      (here, left-each P ps rest more e)

  -- Up to a number all are compared: none covers the trace, and those that it covers are dropped.
  pub record IsSifted (kept : List Numbered) (from : ℕ) (left : List Numbered) : Type 0 where
    pub front : List Numbered
    pub front_left : List Numbered
    pub whole : kept ≡ front ++ rest_from from kept
    pub below : Each (λ (p : Numbered). p.0 < from) front
    pub are : AreLeft rule drop m t front front_left
    pub left_is : left ≡ front_left ++ rest_from from kept
    pub no_over : Each (λ (p : Numbered). ¬ IsOver rule drop m t p) front

  pub sifted-start : (kept : List Numbered) → IsSifted kept 0 kept
  sifted-start kept = record {
    front = [];
    front_left = [];
    whole = sym (rest-start kept);
    below = tt;
    are = none;
    left_is = sym (rest-start kept);
    no_over = tt;
  }

  module _ (kept : List Numbered) (from : ℕ) (left : List Numbered) (p : Numbered)
      (more : List Numbered) (s : IsSifted kept from left) (ascending : IsAscending kept)
      (rest : rest_from from kept ≡ p ∷ more) (not_over : ¬ IsOver rule drop m t p) where
    le : from ≤ p.0
    le = rest-head from kept p more rest

    next : rest_from (p.0 + 1) kept ≡ more
    next = rest-next from kept p more ascending rest

    whole : kept ≡ (s.front ++ p ∷ []) ++ rest_from (p.0 + 1) kept
    whole = s.whole ∙ ap (λ ps. s.front ++ ps) (rest ∙ ap (λ ps. p ∷ ps) (sym next))
        ∙ sym (append_assoc s.front (p ∷ []) (rest_from (p.0 + 1) kept))

    below : Each (λ (q : Numbered). q.0 < p.0 + 1) (s.front ++ p ∷ [])
    below = each-append (λ (q : Numbered). q.0 < p.0 + 1) s.front (p ∷ [])
        (each-like (λ (q : Numbered). q.0 < from) (λ (q : Numbered). q.0 < p.0 + 1) (λ q lt. omega (arith, le)) s.front s.below) (omega arith, tt)

    no_over : Each (λ (q : Numbered). ¬ IsOver rule drop m t q) (s.front ++ p ∷ [])
    no_over =
        each-append (λ (q : Numbered). ¬ IsOver rule drop m t q) s.front (p ∷ []) s.no_over
        (not_over, tt)

    above : Each (λ (q : Numbered). p.0 < q.0) more
    above = by (s.front) kept ascending (s.whole ∙ ap (λ ps. s.front ++ ps) rest)
      where
        by : (front list : List Numbered) → IsAscending list → list ≡ front ++ p ∷ more
            → Each (λ (q : Numbered). p.0 < q.0) more
        by [] list h e = let P : List Numbered → Type 0 = IsAscending in (subst P e h).0
        by (x ∷ xs) list h e =
            let P : List Numbered → Type 0 = IsAscending in
            by xs (xs ++ p ∷ more) (subst P e h).1 refl

    pub sifted-stays : (¬ IsUnder rule drop m t p) → IsSifted kept (p.0 + 1) left
    sifted-stays not_under = record {
      front = s.front ++ p ∷ [];
      front_left = s.front_left ++ p ∷ [];
      whole = whole;
      below = below;
      are = left-stays s.front s.front_left p s.are not_under;
      left_is = s.left_is
          ∙ ap (λ ps. s.front_left ++ ps) (rest ∙ ap (λ ps. p ∷ ps) (sym next))
          ∙ sym (append_assoc s.front_left (p ∷ []) (rest_from (p.0 + 1) kept));
      no_over = no_over;
    }

    pub sifted-dropped : IsUnder rule drop m t p
        → IsSifted kept (p.0 + 1) (without_number p.0 left)
    sifted-dropped under =
        let other = λ (q : Numbered). (q.0 ≡ p.0 → ⊥) in
        let first = without-other p.0 s.front_left
        (left-each other s.front s.front_left s.are
        (each-like (λ (q : Numbered). q.0 < from) other (λ q lt e. omega (arith, le)) s.front s.below)) in
        let later = without-other p.0 more
        (each-like (λ (q : Numbered). p.0 < q.0) other (λ q lt e. omega arith) more above) in
        let gone = without-here p more in
        record {
          front = s.front ++ p ∷ [];
          front_left = s.front_left;
          whole = whole;
          below = below;
          are = left-dropped s.front s.front_left p s.are under;
          left_is = ap (without_number p.0) (s.left_is ∙ ap (λ ps. s.front_left ++ ps) rest)
              ∙ without-append p.0 s.front_left (p ∷ more)
              ∙ ap (λ ps. ps ++ without_number p.0 (p ∷ more)) first
              ∙ ap (λ ps. s.front_left ++ ps) (gone ∙ later ∙ sym next);
          no_over = no_over;
        }

  pub sifted-end : (n : ℕ) (kept : List Numbered) (from : ℕ) (left new : List Numbered)
      → IsSifted kept from left → rest_from from kept ≡ [] → new ≡ left ++ (n, t) ∷ []
      → IsNext rule drop m t n kept new
  sifted-end n kept from left new s none_left e =
      let whole : kept ≡ s.front =
      s.whole ∙ ap (λ ps. s.front ++ ps) none_left ∙ append-nil s.front in
      let left_is : left ≡ s.front_left =
      s.left_is ∙ ap (λ ps. s.front_left ++ ps) none_left ∙ append-nil s.front_left in
      let P : List Numbered → Type 0 = Each (λ (p : Numbered). ¬ IsOver rule drop m t p) in
      let Q : List Numbered → Type 0 = λ ps. AreLeft rule drop m t ps s.front_left in
      last s.front_left (subst P (sym whole) s.no_over) (subst Q (sym whole) s.are)
      (e ∙ ap (λ ps. ps ++ (n, t) ∷ []) left_is)

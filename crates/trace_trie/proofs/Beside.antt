-- The newest trace beside the others that pass a point.
use Rattle.std.proofs.Common.{◌≡◌, ◌≢◌, ℕ, zero, suc, ◌<◌, Bool, true, false, cond, List, [], ◌∷◌, ◌++◌, length, length-append, append-nil, map, drop, get_or, slice_get, Option, Some, None, refl, sym, ap, ◌∙◌, subst, arith}
use Rattle.std.specs.List.{Contains, filter}
use denote.Ref.{Bor}
use Rattle.std.proofs.lemmas.List.Elements.{Contains-append_left, Contains-append_right}
use Rattle.hy_base.proofs.Members.{contains-here}
use Rattle.hy_bits.specs.Letter.{Letter}
use Rattle.hy_formula.specs.Quantifiers.{Each}
use Rattle.hy_formula.proofs.Each.{each-append, each-like}
use Rattle.trace_trie.specs.Numbered.{Numbered, same_letter, begins, tail, under}
use Rattle.trace_trie.specs.Cursors.{AreDistinct, AreLetters, GoesOn, and_new_letter, and_waiting, letter_where_none, new_letter}
use Rattle.trace_trie.proofs.Lettering.{equal-letter, letter-itself}
use Rattle.trace_trie.proofs.Rests.{under-append}

-- the newest alone, behind its own first letter
under-one : (a : Letter) (n : ℕ) (t : List Letter) → under a ((n, a ∷ t) ∷ []) ≡ (n, t) ∷ []
under-one a n t =
    ap (λ b. map (λ (p : Numbered). (p.0, tail p.1)) (cond b ((n, a ∷ t) ∷ []) []))
    (letter-itself a)

-- where some trace goes on by a letter, it is one of the letters
held : (letters : List Letter) (a : Letter) (rests : List Numbered)
    → Each (λ (p : Numbered). GoesOn letters p.1) rests → 0 < length (under a rests)
    → Contains letters a
held letters a [] h lt = absurd (omega arith)
held letters a ((n, []) ∷ ps) h lt = held letters a ps h.1 lt
held letters a ((n, b ∷ t) ∷ ps) h lt =
    by (same_letter a b) refl lt (held letters a ps h.1)
  where
    by : (c : Bool) → same_letter a b ≡ c
        → 0 < length {A = Numbered} (map (λ (p : Numbered). (p.0, tail p.1))
        (cond c ((n, b ∷ t) ∷ filter (λ (p : Numbered). begins a p.1) ps)
        (filter (λ (p : Numbered). begins a p.1) ps)))
        → (0 < length (under a ps) → Contains letters a) → Contains letters a
    by true e lt go = subst (Contains letters) (sym (equal-letter a b e)) h.0
    by false e lt go = go lt

distinct-push : (letters : List Letter) (a : Letter) → AreDistinct letters
    → Each (λ (b : Letter). b ≢ a) letters → AreDistinct (letters ++ a ∷ [])
distinct-push [] a h k = (tt, tt)
distinct-push (b ∷ letters) a h k = (
  each-append (λ (o : Letter). o ≢ b) letters (a ∷ []) h.0 ((λ e. k.0 (sym e)), tt),
  distinct-push letters a h.1 k.1,
)

goes-left : (letters more : List Letter) (t : List Letter) → GoesOn letters t
    → GoesOn (letters ++ more) t
goes-left letters more [] h = tt
goes-left letters more (a ∷ t) h = Contains-append_left letters more a h

-- ---- the letters

module _ {letters : List Letter} {rests : List Numbered} (are : AreLetters letters rests)
    (n : ℕ) (t : List Letter) where
  some-still : (a : Letter) → 0 < length (under a rests)
      → 0 < length (under a (rests ++ (n, t) ∷ []))
  some-still a lt =
      omega (
        arith,
        ap length (under-append a rests ((n, t) ∷ [])),
        length-append (under a rests) (under a ((n, t) ∷ [])),
        lt,
      )

  letters-more : (more : List Letter) → AreDistinct (letters ++ more)
      → Each (λ (a : Letter). 0 < length (under a (rests ++ (n, t) ∷ []))) more
      → GoesOn (letters ++ more) t → AreLetters (letters ++ more) (rests ++ (n, t) ∷ [])
  letters-more more distinct some goes = record {
    distinct = distinct;
    some =
        each-append (λ (a : Letter). 0 < length (under a (rests ++ (n, t) ∷ []))) letters more
        (each-like (λ (a : Letter). 0 < length (under a rests))
        (λ (a : Letter). 0 < length (under a (rests ++ (n, t) ∷ []))) some-still letters are.some)
        some;
    whole =
        each-append (λ (p : Numbered). GoesOn (letters ++ more) p.1) rests ((n, t) ∷ [])
        (each-like (λ (p : Numbered). GoesOn letters p.1)
        (λ (p : Numbered). GoesOn (letters ++ more) p.1) (λ p h. goes-left letters more p.1 h)
        rests are.whole) (goes, tt);
  }

  letters-same : GoesOn letters t → AreLetters (letters ++ []) (rests ++ (n, t) ∷ [])
  letters-same goes =
      letters-more [] (subst AreDistinct (sym (append-nil letters)) are.distinct) tt
      (goes-left letters [] t goes)

  letters-new : (a : Letter) (u : List Letter) → t ≡ a ∷ u → under a rests ≡ []
      → AreLetters (letters ++ a ∷ []) (rests ++ (n, t) ∷ [])
  letters-new a u is none =
      letters-more (a ∷ [])
      (distinct-push letters a are.distinct (each-like (λ (b : Letter). 0 < length (under b rests))
      (λ (b : Letter). b ≢ a) apart letters are.some)) (here, tt)
      (subst (GoesOn (letters ++ a ∷ [])) (sym is)
      (Contains-append_right letters (a ∷ []) a (contains-here a [])))
    where
      apart : (b : Letter) → 0 < length (under b rests) → b ≢ a
      apart b lt same =
          let e : length (under b rests) ≡ 0 =
          ap (λ (q : Letter). length (under q rests)) same ∙ ap length none in
          omega (arith, e, lt)

      here : 0 < length (under a (rests ++ (n, t) ∷ []))
      here =
          let e : under a (rests ++ (n, t) ∷ []) ≡ (n, u) ∷ [] =
          under-append a rests ((n, t) ∷ [])
          ∙ ap (λ (l : List Numbered). l ++ under a ((n, t) ∷ [])) none
          ∙ ap (λ (q : List Letter). under a ((n, q) ∷ [])) is ∙ under-one a n u in
          omega (arith, ap length e)

letters-one : {letters : List Letter} {rests : List Numbered} → AreLetters letters rests
    → (n : ℕ) (t : List Letter) → AreLetters (letters ++ new_letter rests t) (rests ++ (n, t) ∷ [])
letters-one are n [] = letters-same are n [] tt
letters-one {letters} {rests} are n (a ∷ u) = by (under a rests) refl
  where
    by : (l : List Numbered) → under a rests ≡ l
        → AreLetters (letters ++ letter_where_none a l) (rests ++ (n, a ∷ u) ∷ [])
    by [] none = letters-new are n (a ∷ u) a u refl none
    by (p ∷ ps) e =
        letters-same are n (a ∷ u) (held letters a rests are.whole (omega (arith, ap length e)))

pub letters-beside : {letters : List Letter} {rests : List Numbered} → AreLetters letters rests
    → (newest : Option (ℕ × Bor (List Letter)))
    → AreLetters (and_new_letter letters rests newest) (and_waiting rests newest)
letters-beside are None = are
letters-beside are (Some p) = letters-one are p.0 p.1.now

-- ---- a child

letter-is : (b a : Letter) (i : ℕ) → slice_get (b ∷ []) i ≡ Some a → b ≡ a
letter-is b a zero e = cc
letter-is b a (suc i) e = absurd (cc)

pub taken : (rests : List Numbered) (t : List Letter) (a : Letter) → slice_get t 0 ≡ Some a
    → 0 < length (under a rests) → new_letter rests t ≡ []
taken rests [] a e lt = refl
taken rests (b ∷ u) a e lt =
    let P : Letter → Type 0 = λ q. letter_where_none q (under q rests) ≡ [] in
    subst P (sym (letter-is b a 0 e)) (none (under a rests) lt)
  where
    none : (l : List Numbered) → 0 < length l → letter_where_none a l ≡ []
    none [] lt = absurd (omega arith)
    none (p ∷ ps) lt = refl

-- the child of a letter that no other rest has first
pub child-new : (rests : List Numbered) (n : ℕ) (t : List Letter) (d : Letter)
    → 0 < length (new_letter rests t)
    → (n, drop 1 t) ∷ [] ≡ under (get_or t 0 d) (rests ++ (n, t) ∷ [])
child-new rests n [] d some = absurd (omega arith)
child-new rests n (b ∷ u) d some = by (under b rests) refl some
  where
    by : (l : List Numbered) → under b rests ≡ l → 0 < length (letter_where_none b l)
        → (n, u) ∷ [] ≡ under b (rests ++ (n, b ∷ u) ∷ [])
    by [] none some =
        sym (under-append b rests ((n, b ∷ u) ∷ [])
        ∙ ap (λ (l : List Numbered). l ++ under b ((n, b ∷ u) ∷ [])) none
        ∙ under-one b n u)
    by (p ∷ ps) none some = absurd (omega arith)

pub newest-passes : {newest : Option (ℕ × Bor (List Letter))} {p : ℕ × Bor (List Letter)}
    (rests : List Numbered) → newest ≡ Some p
    → Contains (and_waiting rests newest) (p.0, p.1.now)
newest-passes {newest} {p} rests is =
    let P : Option (ℕ × Bor (List Letter)) → Type 0 =
    λ q. Contains (and_waiting rests q) (p.0, p.1.now) in
    subst P (sym is)
    (Contains-append_right rests ((p.0, p.1.now) ∷ []) (p.0, p.1.now) (contains-here (p.0, p.1.now) []))

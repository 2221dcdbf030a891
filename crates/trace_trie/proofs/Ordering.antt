-- Lists of traces in the order of their numbers.
use Rattle.std.proofs.Common.{◌≡◌, suc, ◌<◌, ◌≤◌, Bool, true, false, cond, ltb, List, [], ◌∷◌, ◌++◌, length, map, refl, sym, ap, ◌∙◌, subst, inl, inr, arith}
use Rattle.std.proofs.lemmas.Bool.{ltb-true, ltb-false, lt-ltb, le-ltb, cases_Bool}
use Rattle.std.specs.List.{filter, Contains}
use Rattle.hy_base.proofs.Members.{contains-here, contains-later, contains-cases, contains-none}
use Rattle.hy_bits.specs.Letter.{Letter}
use Rattle.hy_formula.specs.Quantifiers.{Each}
use Rattle.hy_formula.proofs.Each.{each-filter, each-like, each-at, each-from}
use Rattle.trace_trie.specs.Numbered.{Numbered, begins, tail, under, put_in_order, in_order}
use Rattle.trace_trie.specs.Kids.{IsMore}

-- ---- what holds of each pair

module _ (P : Numbered → Type 0) where
  each-put : (p : Numbered) (xs : List Numbered) → P p → Each P xs → Each P (put_in_order p xs)
  each-put p [] h k = (h, tt)
  each-put p (q ∷ qs) h k = step (ltb q.0 p.0) (each-put p qs h k.1)
    where
      step : (b : Bool) → Each P (put_in_order p qs) → Each P (cond b (q ∷ put_in_order p qs) (p ∷ q ∷ qs))
      step true m = (k.0, m)
      step false m = (h, k)

  each-unput : (p : Numbered) (xs : List Numbered) → Each P (put_in_order p xs) → P p × Each P xs
  each-unput p [] h = (h.0, tt)
  each-unput p (q ∷ qs) h = step (ltb q.0 p.0) h (each-unput p qs)
    where
      step : (b : Bool) → Each P (cond b (q ∷ put_in_order p qs) (p ∷ q ∷ qs)) → (Each P (put_in_order p qs) → P p × Each P qs) → P p × Each P (q ∷ qs)
      step true h m = let r = m h.1 in (r.0, (h.0, r.1))
      step false h m = (h.0, h.1)

  pub each-in-order : (xs : List Numbered) → Each P xs → Each P (in_order xs)
  each-in-order [] h = tt
  each-in-order (p ∷ ps) h = each-put p (in_order ps) h.0 (each-in-order ps h.1)

  pub each-unorder : (xs : List Numbered) → Each P (in_order xs) → Each P xs
  each-unorder [] h = tt
  each-unorder (p ∷ ps) h = let r = each-unput p (in_order ps) h in (r.0, each-unorder ps r.1)

-- ---- how many, and which

length-put : (p : Numbered) (xs : List Numbered) → length (put_in_order p xs) ≡ suc (length xs)
length-put p [] = refl
length-put p (q ∷ qs) = step (ltb q.0 p.0) (length-put p qs)
  where
    step : (b : Bool) → length (put_in_order p qs) ≡ suc (length qs) → length (cond b (q ∷ put_in_order p qs) (p ∷ q ∷ qs)) ≡ suc (suc (length qs))
    step true h = ap suc h
    step false h = refl

pub length-in-order : (xs : List Numbered) → length (in_order xs) ≡ length xs
length-in-order [] = refl
length-in-order (p ∷ ps) = length-put p (in_order ps) ∙ ap suc (length-in-order ps)

contains-put : (p : Numbered) (xs : List Numbered) → Contains (put_in_order p xs) p
contains-put p [] = contains-here p []
contains-put p (q ∷ qs) = step (ltb q.0 p.0) (contains-put p qs)
  where
    step : (b : Bool) → Contains (put_in_order p qs) p → Contains (cond b (q ∷ put_in_order p qs) (p ∷ q ∷ qs)) p
    step true h = contains-later q p (put_in_order p qs) h
    step false h = contains-here p (q ∷ qs)

contains-put-later : (p x : Numbered) (xs : List Numbered) → Contains xs x → Contains (put_in_order p xs) x
contains-put-later p x [] c = absurd (contains-none x c)
contains-put-later p x (q ∷ qs) c = step (ltb q.0 p.0) (contains-put-later p x qs)
  where
    step : (b : Bool) → (Contains qs x → Contains (put_in_order p qs) x) → Contains (cond b (q ∷ put_in_order p qs) (p ∷ q ∷ qs)) x
    step true h = elim (contains-cases q x qs c) [
      | inl same ↦ let P : Numbered → Type 0 = Contains (q ∷ put_in_order p qs) in subst P same (contains-here q (put_in_order p qs))
      | inr later ↦ contains-later q x (put_in_order p qs) (h later)
    ]
    step false h = contains-later p x (q ∷ qs) c

pub contains-in-order : (x : Numbered) (xs : List Numbered) → Contains xs x → Contains (in_order xs) x
contains-in-order x [] c = c
contains-in-order x (p ∷ ps) c = elim (contains-cases p x ps c) [
  | inl same ↦ let P : Numbered → Type 0 = Contains (put_in_order p (in_order ps)) in subst P same (contains-put p (in_order ps))
  | inr later ↦ contains-put-later p x (in_order ps) (contains-in-order x ps later)
]

pub contains-unorder : (x : Numbered) (xs : List Numbered) → Contains (in_order xs) x
    → Contains xs x
contains-unorder x xs c =
    let P : Numbered → Type 0 = Contains xs in
    each-at P (in_order xs) x (each-in-order P xs (each-from P xs (λ y d. d))) c

-- ---- a filter

abbrev AreSorted : List Numbered → Type 0
AreSorted [] = Unit {0}
AreSorted (p ∷ ps) = Each (λ (q : Numbered). p.0 ≤ q.0) ps × AreSorted ps

put-sorted : (p : Numbered) (xs : List Numbered) → AreSorted xs → AreSorted (put_in_order p xs)
put-sorted p [] h = (tt, tt)
put-sorted p (q ∷ qs) h = step (ltb q.0 p.0) refl (put-sorted p qs h.1)
  where
    step : (b : Bool) → ltb q.0 p.0 ≡ b → AreSorted (put_in_order p qs) → AreSorted (cond b (q ∷ put_in_order p qs) (p ∷ q ∷ qs))
    step true e m = let lt = ltb-true q.0 p.0 e in (each-put (λ (r : Numbered). q.0 ≤ r.0) p qs (omega arith) h.0, m)
    step false e m =
        let le = ltb-false q.0 p.0 e in
        ((le, each-like (λ (r : Numbered). q.0 ≤ r.0) (λ (r : Numbered). p.0 ≤ r.0) (λ r k. omega arith) qs h.0), h)

in-order-sorted : (xs : List Numbered) → AreSorted (in_order xs)
in-order-sorted [] = tt
in-order-sorted (p ∷ ps) = put-sorted p (in_order ps) (in-order-sorted ps)

put-front : (p : Numbered) (xs : List Numbered) → Each (λ (q : Numbered). p.0 ≤ q.0) xs → put_in_order p xs ≡ p ∷ xs
put-front p [] h = refl
put-front p (q ∷ qs) h = ap (λ b. cond b (q ∷ put_in_order p qs) (p ∷ q ∷ qs)) (le-ltb q.0 p.0 h.0)

inside : (p q : Numbered) (c d : Bool) (xs ys : List Numbered) → ltb q.0 p.0 ≡ true → xs ≡ cond d (put_in_order p ys) ys
    → cond c (q ∷ xs) xs ≡ cond d (put_in_order p (cond c (q ∷ ys) ys)) (cond c (q ∷ ys) ys)
inside p q true true xs ys e h = ap (λ l. q ∷ l) h ∙ sym (ap (λ b. cond b (q ∷ put_in_order p ys) (p ∷ q ∷ ys)) e)
inside p q true false xs ys e h = ap (λ l. q ∷ l) h
inside p q false d xs ys e h = h

module _ (f : Numbered → Bool) where
  filter-put : (p : Numbered) (xs : List Numbered) → AreSorted xs → filter f (put_in_order p xs) ≡ cond (f p) (put_in_order p (filter f xs)) (filter f xs)
  filter-put p [] h = refl
  filter-put p (q ∷ qs) h = elim (cases_Bool (ltb q.0 p.0)) [
    | inl e ↦
        ap (λ b. filter f (cond b (q ∷ put_in_order p qs) (p ∷ q ∷ qs))) e
        ∙ inside p q (f q) (f p) (filter f (put_in_order p qs)) (filter f qs) e (filter-put p qs h.1)
    | inr e ↦
        let le = ltb-false q.0 p.0 e in
        let all : Each (λ (r : Numbered). p.0 ≤ r.0) (q ∷ qs) =
        (le, each-like (λ (r : Numbered). q.0 ≤ r.0) (λ (r : Numbered). p.0 ≤ r.0) (λ r k. omega arith) qs h.0) in
        ap (filter f) (put-front p (q ∷ qs) all)
        ∙ sym (ap (λ l. cond (f p) l (filter f (q ∷ qs))) (put-front p (filter f (q ∷ qs)) (each-filter (λ (r : Numbered). p.0 ≤ r.0) f (q ∷ qs) all)))
  ]

  pub in-order-filter : (xs : List Numbered) → in_order (filter f xs) ≡ filter f (in_order xs)
  in-order-filter [] = refl
  in-order-filter (p ∷ ps) = step (f p) (in-order-filter ps) (filter-put p (in_order ps) (in-order-sorted ps))
    where
      step : (b : Bool) → in_order (filter f ps) ≡ filter f (in_order ps)
          → filter f (put_in_order p (in_order ps)) ≡ cond b (put_in_order p (filter f (in_order ps))) (filter f (in_order ps))
          → in_order (cond b (p ∷ filter f ps) (filter f ps)) ≡ filter f (put_in_order p (in_order ps))
      step true h e = ap (put_in_order p) h ∙ sym e
      step false h e = h ∙ sym e

-- ---- what is left behind a letter

map-put : (p : Numbered) (xs : List Numbered)
    → map (λ (q : Numbered). (q.0, tail q.1)) (put_in_order p xs) ≡ put_in_order (p.0, tail p.1) (map (λ (q : Numbered). (q.0, tail q.1)) xs)
map-put p [] = refl
map-put p (q ∷ qs) = step (ltb q.0 p.0) (map-put p qs)
  where
    step : (b : Bool) → map (λ (q : Numbered). (q.0, tail q.1)) (put_in_order p qs) ≡ put_in_order (p.0, tail p.1) (map (λ (q : Numbered). (q.0, tail q.1)) qs)
        → map (λ (q : Numbered). (q.0, tail q.1)) (cond b (q ∷ put_in_order p qs) (p ∷ q ∷ qs))
        ≡ cond b ((q.0, tail q.1) ∷ put_in_order (p.0, tail p.1) (map (λ (q : Numbered). (q.0, tail q.1)) qs))
        ((p.0, tail p.1) ∷ (q.0, tail q.1) ∷ map (λ (q : Numbered). (q.0, tail q.1)) qs)
    step true h = ap (λ l. (q.0, tail q.1) ∷ l) h
    step false h = refl

in-order-map : (xs : List Numbered) → in_order (map (λ (q : Numbered). (q.0, tail q.1)) xs) ≡ map (λ (q : Numbered). (q.0, tail q.1)) (in_order xs)
in-order-map [] = refl
in-order-map (p ∷ ps) = ap (put_in_order (p.0, tail p.1)) (in-order-map ps) ∙ sym (map-put p (in_order ps))

pub in-order-under : (a : Letter) (xs : List Numbered) → in_order (under a xs) ≡ under a (in_order xs)
in-order-under a xs =
    in-order-map (filter (λ (p : Numbered). begins a p.1) xs)
    ∙ ap (map (λ (q : Numbered). (q.0, tail q.1))) (in-order-filter (λ (p : Numbered). begins a p.1) xs)

-- ---- one more, the greatest number last

put-last : (p : Numbered) (xs : List Numbered) → Each (λ (q : Numbered). q.0 < p.0) xs → put_in_order p xs ≡ xs ++ p ∷ []
put-last p [] h = refl
put-last p (q ∷ qs) h = ap (λ b. cond b (q ∷ put_in_order p qs) (p ∷ q ∷ qs)) (lt-ltb q.0 p.0 h.0) ∙ ap (λ l. q ∷ l) (put-last p qs h.1)

put-before : (x p : Numbered) (xs : List Numbered) → x.0 < p.0 → put_in_order x (xs ++ p ∷ []) ≡ put_in_order x xs ++ p ∷ []
put-before x p [] lt = ap (λ b. cond b (p ∷ x ∷ []) (x ∷ p ∷ [])) (le-ltb p.0 x.0 (omega arith))
put-before x p (q ∷ qs) lt = step (ltb q.0 x.0) (put-before x p qs lt)
  where
    step : (b : Bool) → put_in_order x (qs ++ p ∷ []) ≡ put_in_order x qs ++ p ∷ []
        → cond b (q ∷ put_in_order x (qs ++ p ∷ [])) (x ∷ q ∷ qs ++ p ∷ []) ≡ cond b (q ∷ put_in_order x qs) (x ∷ q ∷ qs) ++ p ∷ []
    step true h = ap (λ l. q ∷ l) h
    step false h = refl

between : (p : Numbered) (xs ys : List Numbered) → Each (λ (q : Numbered). q.0 < p.0) (xs ++ ys) → in_order (xs ++ p ∷ ys) ≡ in_order (xs ++ ys) ++ p ∷ []
between p [] ys h = put-last p (in_order ys) (each-in-order (λ (q : Numbered). q.0 < p.0) ys h)
between p (x ∷ xs) ys h = ap (put_in_order x) (between p xs ys h.1) ∙ put-before x p (in_order (xs ++ ys)) h.0

pub in-order-more : {p : Numbered} {old new : List Numbered} → IsMore p old new → Each (λ (q : Numbered). q.0 < p.0) old → in_order new ≡ in_order old ++ p ∷ []
in-order-more {p} {old} {new} m h =
    let P : List Numbered → Type 0 = Each (λ (q : Numbered). q.0 < p.0) in
    ap in_order m.new_is ∙ between p m.before m.after (subst P m.old_is h) ∙ ap (λ l. in_order l ++ p ∷ []) (sym m.old_is)

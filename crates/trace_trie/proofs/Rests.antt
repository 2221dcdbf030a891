-- What is left of the traces that pass a node, by its children.
use Rattle.std.proofs.Common.{◌≡◌, ◌≢◌, ℕ, ◌<◌, Bool, true, false, not, cond, eqb, List, [], ◌∷◌, ◌++◌, length, append_assoc, append-nil, map, refl, sym, ap, ◌∙◌, subst, inl, inr, arith}
use Rattle.std.proofs.lemmas.Bool.{cases_Bool}
use Rattle.std.proofs.lemmas.List.{map-append}
use Rattle.std.proofs.lemmas.List.Elements.{filter-append}
use Rattle.std.specs.List.{filter, Contains}
use Rattle.hy_base.proofs.Members.{contains-here, contains-later}
use Rattle.hy_bits.specs.Letter.{Letter}
use Rattle.hy_formula.specs.Quantifiers.{Each}
use Rattle.hy_formula.proofs.Each.{each-append, each-left, each-right, each-map, each-unmap, each-like}
use Rattle.trace_trie.specs.Numbered.{Numbered, same_letter, begins, tail, under, led_by, ended, without_number}
use Rattle.trace_trie.specs.Kids.{Kid, AreKids, IsSwapped, IsMore, behind, kid_of, kid_letters, spread}
use Rattle.trace_trie.specs.Forests.{passing}
use Rattle.trace_trie.specs.Cursors.{AreDistinct, GoesOn}
use Rattle.trace_trie.proofs.Numbering.{without-other, without-append}
use Rattle.trace_trie.proofs.Lettering.{equal-letter, letter-itself}
use Rattle.trace_trie.proofs.Kids.{behind-none}

pub spread-append : (xs ys : List Kid) → spread (xs ++ ys) ≡ spread xs ++ spread ys
spread-append [] ys = refl
spread-append (k ∷ ks) ys = ap (λ l. led_by k.0 k.1 ++ l) (spread-append ks ys) ∙ sym (append_assoc (led_by k.0 k.1) (spread ks) (spread ys))

spread-kid : (a : Letter) (held : List Numbered) → spread (kid_of a held) ≡ led_by a held
spread-kid a [] = refl
spread-kid a (p ∷ ps) = append-nil (led_by a (p ∷ ps))

spread-three : (a : Letter) (held : List Numbered) (before after : List Kid) → spread (before ++ kid_of a held ++ after) ≡ spread before ++ led_by a held ++ spread after
spread-three a held before after =
    spread-append (before ++ kid_of a held) after
    ∙ ap (λ l. l ++ spread after) (spread-append before (kid_of a held) ∙ ap (λ l. spread before ++ l) (spread-kid a held))

-- ---- one more

pub more-led : (a : Letter) (n : ℕ) (t : List Letter) (old new : List Numbered) → IsMore (n, t) old new → IsMore (n, a ∷ t) (led_by a old) (led_by a new)
more-led a n t old new m = record {
  before = led_by a m.before;
  after = led_by a m.after;
  old_is = ap (led_by a) m.old_is ∙ map-append (λ (p : Numbered). (p.0, a ∷ p.1)) m.before m.after;
  new_is = ap (led_by a) m.new_is ∙ map-append (λ (p : Numbered). (p.0, a ∷ p.1)) m.before ((n, t) ∷ m.after);
}

pub more-within : (p : Numbered) (xs ys old new : List Numbered) → IsMore p old new → IsMore p (xs ++ old ++ ys) (xs ++ new ++ ys)
more-within p xs ys old new m = record {
  before = xs ++ m.before;
  after = m.after ++ ys;
  old_is = ap (λ l. xs ++ l ++ ys) m.old_is ∙ whole m.after;
  new_is = ap (λ l. xs ++ l ++ ys) m.new_is ∙ whole (p ∷ m.after);
}
  where
    whole : (l : List Numbered) → xs ++ (m.before ++ l) ++ ys ≡ xs ++ m.before ++ (l ++ ys)
    whole l = ap (λ q. q ++ ys) (sym (append_assoc xs m.before l)) ∙ append_assoc (xs ++ m.before) l ys

pub more-spread : {a : Letter} {n : ℕ} {t : List Letter} {held : List Numbered} {old new : List Kid} (ends : List Numbered) → IsSwapped a held old new → IsMore (n, t) (behind a old) held
    → IsMore (n, a ∷ t) (passing ends old) (passing ends new)
more-spread {a} {n} {t} {held} {old} {new} ends s m =
    let P : List Numbered → Type 0 = λ (q : List Numbered). IsMore (n, a ∷ t) q (passing ends new) in
    let Q : List Numbered → Type 0 = λ (q : List Numbered). IsMore (n, a ∷ t) (ended ends ++ spread s.before ++ led_by a (behind a old) ++ spread s.after) q in
    let e : passing ends old ≡ ended ends ++ spread s.before ++ led_by a (behind a old) ++ spread s.after =
    ap (λ l. ended ends ++ spread l) s.old_is ∙ whole (behind a old) in
    let f : passing ends new ≡ ended ends ++ spread s.before ++ led_by a held ++ spread s.after =
    ap (λ l. ended ends ++ spread l) s.new_is ∙ whole held in
    subst P (sym e) (subst Q (sym f) (more-within (n, a ∷ t) (ended ends ++ spread s.before) (spread s.after) (led_by a (behind a old)) (led_by a held) (more-led a n t (behind a old) held m)))
  where
    whole : (l : List Numbered) → ended ends ++ spread (s.before ++ kid_of a l ++ s.after) ≡ ended ends ++ spread s.before ++ led_by a l ++ spread s.after
    whole l =
        ap (λ q. ended ends ++ q) (spread-three a l s.before s.after)
        ∙ sym (append_assoc (ended ends) (spread s.before ++ led_by a l) (spread s.after))
        ∙ ap (λ q. q ++ spread s.after) (sym (append_assoc (ended ends) (spread s.before) (led_by a l)))

pub more-none : (p : Numbered) → IsMore p [] (p ∷ [])
more-none p = record { before = []; after = []; old_is = refl; new_is = refl }

-- ---- what holds behind a letter

pub each-behind : (P : Numbered → Type 0) (a : Letter) (kids : List Kid) → Each P (spread kids) → Each (λ (p : Numbered). P (p.0, a ∷ p.1)) (behind a kids)
each-behind P a [] h = tt
each-behind P a (k ∷ ks) h = step (same_letter a k.0) refl (each-behind P a ks (each-right P (led_by k.0 k.1) (spread ks) h))
  where
    step : (b : Bool) → same_letter a k.0 ≡ b → Each (λ (p : Numbered). P (p.0, a ∷ p.1)) (behind a ks) → Each (λ (p : Numbered). P (p.0, a ∷ p.1)) (cond b k.1 (behind a ks))
    step true e m =
        let Q : Letter → Type 0 = λ (q : Letter). Each (λ (p : Numbered). P (p.0, q ∷ p.1)) k.1 in
        subst Q (sym (equal-letter a k.0 e)) (each-unmap P (λ (p : Numbered). (p.0, k.0 ∷ p.1)) k.1 (each-left P (led_by k.0 k.1) (spread ks) h))
    step false e m = m

-- ---- one less

filter-ended : (n : ℕ) (ps : List Numbered) → without_number n (ended ps) ≡ ended (without_number n ps)
filter-ended n [] = refl
filter-ended n (p ∷ ps) = step (not (eqb p.0 n)) (filter-ended n ps)
  where
    step : (b : Bool) → without_number n (ended ps) ≡ ended (without_number n ps)
        → cond b ((p.0, []) ∷ without_number n (ended ps)) (without_number n (ended ps)) ≡ ended (cond b (p ∷ without_number n ps) (without_number n ps))
    step true h = ap (λ (l : List Numbered). (p.0, []) ∷ l) h
    step false h = h

filter-led : (n : ℕ) (a : Letter) (ps : List Numbered) → without_number n (led_by a ps) ≡ led_by a (without_number n ps)
filter-led n a [] = refl
filter-led n a (p ∷ ps) = step (not (eqb p.0 n)) (filter-led n a ps)
  where
    step : (b : Bool) → without_number n (led_by a ps) ≡ led_by a (without_number n ps)
        → cond b ((p.0, a ∷ p.1) ∷ without_number n (led_by a ps)) (without_number n (led_by a ps)) ≡ led_by a (cond b (p ∷ without_number n ps) (without_number n ps))
    step true h = ap (λ (l : List Numbered). (p.0, a ∷ p.1) ∷ l) h
    step false h = h

-- all rests begin with the letter of a child
pub spread-each : (P : Numbered → Type 0) → (Q : Letter → Type 0) → ((n : ℕ) (b : Letter) (t : List Letter) → Q b → P (n, b ∷ t)) → (kids : List Kid) → Each (λ (k : Kid). Q k.0) kids
    → Each P (spread kids)
spread-each P Q f [] h = tt
spread-each P Q f (k ∷ ks) h =
    each-append P (led_by k.0 k.1) (spread ks) (each-map P (λ (p : Numbered). (p.0, k.0 ∷ p.1)) k.1 (all k.1)) (spread-each P Q f ks h.1)
  where
    all : (ps : List Numbered) → Each (λ (p : Numbered). P (p.0, k.0 ∷ p.1)) ps
    all [] = tt
    all (p ∷ ps) = (f p.0 k.0 p.1 h.0, all ps)

each-any : (kids : List Kid) → Each (λ (k : Kid). Unit {0}) kids
each-any [] = tt
each-any (k ∷ ks) = (tt, each-any ks)

each-both : (P Q R : Numbered → Type 0) → ((p : Numbered) → P p → Q p → R p) → (ps : List Numbered) → Each P ps → Each Q ps → Each R ps
each-both P Q R f [] h k = tt
each-both P Q R f (p ∷ ps) h k = (f p h.0 k.0, each-both P Q R f ps h.1 k.1)

pub spread-some : (kids : List Kid) → Each (λ (p : Numbered). 0 < length p.1) (spread kids)
spread-some kids = spread-each (λ (p : Numbered). 0 < length p.1) (λ b. Unit {0}) (λ n b t u. omega arith) kids (each-any kids)

pub without-ended : (n : ℕ) (ends : List Numbered) (kids : List Kid) → Each (λ (p : Numbered). p.0 ≡ n → p.1 ≡ []) (passing ends kids)
    → passing (without_number n ends) kids ≡ without_number n (passing ends kids)
without-ended n ends kids h =
    let others : Each (λ (p : Numbered). p.0 ≡ n → ⊥) (spread kids) =
    each-both (λ (p : Numbered). p.0 ≡ n → p.1 ≡ []) (λ (p : Numbered). 0 < length p.1) (λ (p : Numbered). p.0 ≡ n → ⊥)
    (λ p f lt e. absurd (omega (arith, ap length (f e)))) (spread kids) (each-right (λ (p : Numbered). p.0 ≡ n → p.1 ≡ []) (ended ends) (spread kids) h) (spread-some kids) in
    sym (without-append n (ended ends) (spread kids) ∙ ap (λ l. l ++ without_number n (spread kids)) (filter-ended n ends) ∙ ap (λ l. ended (without_number n ends) ++ l) (without-other n (spread kids) others))

-- no child but that of the letter has the number
apart-number : (n : ℕ) (a : Letter) (t : List Letter) (kids : List Kid) → Each (λ (k : Kid). k.0 ≢ a) kids → Each (λ (p : Numbered). p.0 ≡ n → p.1 ≡ a ∷ t) (spread kids)
    → Each (λ (p : Numbered). p.0 ≡ n → ⊥) (spread kids)
apart-number n a t kids apart h =
    each-both (λ (p : Numbered). p.0 ≡ n → p.1 ≡ a ∷ t) (λ (p : Numbered). p.1 ≡ a ∷ t → ⊥) (λ (p : Numbered). p.0 ≡ n → ⊥) (λ p f g e. g (f e)) (spread kids) h
    (spread-each (λ (p : Numbered). p.1 ≡ a ∷ t → ⊥) (λ (b : Letter). b ≢ a) (λ k b u f e. f (head-is b a u t e)) kids apart)
  where
    head-is : (b a : Letter) (u t : List Letter) → b ∷ u ≡ a ∷ t → b ≡ a
    head-is b a u t e = cc

pub without-spread : (n : ℕ) {a : Letter} (t : List Letter) {held : List Numbered} {old new : List Kid} (ends : List Numbered) → IsSwapped a held old new
    → held ≡ without_number n (behind a old) → Each (λ (p : Numbered). p.0 ≡ n → p.1 ≡ a ∷ t) (passing ends old)
    → passing ends new ≡ without_number n (passing ends old)
without-spread n {a} t {held} {old} {new} ends s e h =
    let P : Numbered → Type 0 = λ (p : Numbered). p.0 ≡ n → p.1 ≡ a ∷ t in
    let Q : List Numbered → Type 0 = Each P in
    let three : spread old ≡ spread s.before ++ led_by a (behind a old) ++ spread s.after = ap spread s.old_is ∙ spread-three a (behind a old) s.before s.after in
    let parts : Q (spread s.before ++ led_by a (behind a old) ++ spread s.after) = subst Q three (each-right P (ended ends) (spread old) h) in
    let front : Q (spread s.before ++ led_by a (behind a old)) = each-left P (spread s.before ++ led_by a (behind a old)) (spread s.after) parts in
    let before : without_number n (spread s.before) ≡ spread s.before =
    without-other n (spread s.before) (apart-number n a t s.before s.apart_before (each-left P (spread s.before) (led_by a (behind a old)) front)) in
    let after : without_number n (spread s.after) ≡ spread s.after =
    without-other n (spread s.after) (apart-number n a t s.after s.apart_after (each-right P (spread s.before ++ led_by a (behind a old)) (spread s.after) parts)) in
    let ends-same : without_number n (ended ends) ≡ ended ends =
    without-other n (ended ends) (each-map (λ (p : Numbered). p.0 ≡ n → ⊥) (λ (p : Numbered). (p.0, [])) ends
    (each-like (λ (p : Numbered). P (p.0, [])) (λ (p : Numbered). p.0 ≡ n → ⊥) (λ p f k. none (f k)) ends (each-unmap P (λ (p : Numbered). (p.0, [])) ends (each-left P (ended ends) (spread old) h)))) in
    let kept : without_number n (spread old) ≡ spread new =
    ap (without_number n) three ∙ without-append n (spread s.before ++ led_by a (behind a old)) (spread s.after)
    ∙ ap (λ l. l ++ without_number n (spread s.after)) (without-append n (spread s.before) (led_by a (behind a old)))
    ∙ ap (λ l. l ++ without_number n (led_by a (behind a old)) ++ without_number n (spread s.after)) before
    ∙ ap (λ l. spread s.before ++ l ++ without_number n (spread s.after)) (filter-led n a (behind a old) ∙ ap (led_by a) (sym e))
    ∙ ap (λ l. spread s.before ++ led_by a held ++ l) after
    ∙ sym (ap spread s.new_is ∙ spread-three a held s.before s.after) in
    sym (without-append n (ended ends) (spread old) ∙ ap (λ l. l ++ without_number n (spread old)) ends-same ∙ ap (λ l. ended ends ++ l) kept)
  where
    none : [] ≡ a ∷ t → ⊥
    none e = absurd (cc)

-- ---- what is left behind a letter

pub under-append : (a : Letter) (xs ys : List Numbered) → under a (xs ++ ys) ≡ under a xs ++ under a ys
under-append a xs ys =
    ap (map (λ (p : Numbered). (p.0, tail p.1))) (filter-append (λ (p : Numbered). begins a p.1) xs ys)
    ∙ map-append (λ (p : Numbered). (p.0, tail p.1)) (filter (λ (p : Numbered). begins a p.1) xs) (filter (λ (p : Numbered). begins a p.1) ys)

under-ended : (a : Letter) (ps : List Numbered) → under a (ended ps) ≡ []
under-ended a [] = refl
under-ended a (p ∷ ps) = under-ended a ps

under-led : (a b : Letter) (ps : List Numbered) → under a (led_by b ps) ≡ cond (same_letter a b) ps []
under-led a b ps = elim (cases_Bool (same_letter a b)) [
  | inl e ↦ all ps e ∙ sym (ap (λ c. cond c ps []) e)
  | inr e ↦ none ps e ∙ sym (ap (λ c. cond c ps []) e)
]
  where
    all : (ps : List Numbered) → same_letter a b ≡ true → under a (led_by b ps) ≡ ps
    all [] e = refl
    all (p ∷ ps) e =
        ap (λ c. map (λ (q : Numbered). (q.0, tail q.1)) (cond c ((p.0, b ∷ p.1) ∷ filter (λ (q : Numbered). begins a q.1) (led_by b ps)) (filter (λ (q : Numbered). begins a q.1) (led_by b ps)))) e
        ∙ ap (λ l. p ∷ l) (all ps e)

    none : (ps : List Numbered) → same_letter a b ≡ false → under a (led_by b ps) ≡ []
    none [] e = refl
    none (p ∷ ps) e =
        ap (λ c. map (λ (q : Numbered). (q.0, tail q.1)) (cond c ((p.0, b ∷ p.1) ∷ filter (λ (q : Numbered). begins a q.1) (led_by b ps)) (filter (λ (q : Numbered). begins a q.1) (led_by b ps)))) e
        ∙ none ps e

under-spread : (a : Letter) (kids : List Kid) → AreKids kids → under a (spread kids) ≡ behind a kids
under-spread a [] h = refl
under-spread a (k ∷ ks) h =
    under-append a (led_by k.0 k.1) (spread ks) ∙ ap (λ l. l ++ under a (spread ks)) (under-led a k.0 k.1) ∙ ap (λ l. cond (same_letter a k.0) k.1 [] ++ l) (under-spread a ks h.2)
    ∙ step (same_letter a k.0) refl
  where
    step : (b : Bool) → same_letter a k.0 ≡ b → cond b k.1 [] ++ behind a ks ≡ cond b k.1 (behind a ks)
    step true e =
        let same : a ≡ k.0 = equal-letter a k.0 e in
        let P : Letter → Type 0 = λ (q : Letter). Each (λ (o : Kid). o.0 ≢ q) ks in
        ap (λ l. k.1 ++ l) (behind-none a ks (subst P (sym same) h.1)) ∙ append-nil k.1
    step false e = refl

pub under-passing : (a : Letter) (ends : List Numbered) (kids : List Kid) → AreKids kids → under a (passing ends kids) ≡ behind a kids
under-passing a ends kids h = under-append a (ended ends) (spread kids) ∙ ap (λ l. l ++ under a (spread kids)) (under-ended a ends) ∙ under-spread a kids h

-- ---- the letters

pub letters-distinct : (kids : List Kid) → AreKids kids → AreDistinct (kid_letters kids)
letters-distinct [] h = tt
letters-distinct (k ∷ ks) h = (each-map (λ (b : Letter). b ≢ k.0) (λ (o : Kid). o.0) ks h.1, letters-distinct ks h.2)

pub letters-some : (kids : List Kid) → AreKids kids → Each (λ (a : Letter). 0 < length (behind a kids)) (kid_letters kids)
letters-some [] h = tt
letters-some (k ∷ ks) h =
    (here (same_letter k.0 k.0) (letter-itself k.0), each-like (λ (a : Letter). 0 < length (behind a ks)) (λ (a : Letter). 0 < length (behind a (k ∷ ks))) (λ a lt. later a (same_letter a k.0) lt) (kid_letters ks) (letters-some ks h.2))
  where
    here : (b : Bool) → b ≡ true → 0 < length (cond b k.1 (behind k.0 ks))
    here true e = h.0
    here false e = absurd (cc)

    later : (a : Letter) (b : Bool) → 0 < length (behind a ks) → 0 < length (cond b k.1 (behind a ks))
    later a true lt = h.0
    later a false lt = lt

pub letters-whole : (ends : List Numbered) (kids : List Kid) → Each (λ (p : Numbered). GoesOn (kid_letters kids) p.1) (passing ends kids)
letters-whole ends kids =
    each-append (λ (p : Numbered). GoesOn (kid_letters kids) p.1) (ended ends) (spread kids) (over ends)
    (spread-each (λ (p : Numbered). GoesOn (kid_letters kids) p.1) (Contains (kid_letters kids)) (λ n b t c. c) kids (inside kids (kid_letters kids) (λ a c. c)))
  where
    over : (ps : List Numbered) → Each (λ (p : Numbered). GoesOn (kid_letters kids) p.1) (ended ps)
    over [] = tt
    over (p ∷ ps) = (tt, over ps)

    inside : (ks : List Kid) (letters : List Letter) → ((a : Letter) → Contains (kid_letters ks) a → Contains letters a) → Each (λ (k : Kid). Contains letters k.0) ks
    inside [] letters f = tt
    inside (k ∷ ks) letters f = (f k.0 (contains-here k.0 (kid_letters ks)), inside ks letters (λ a c. f a (contains-later k.0 a (kid_letters ks) c)))

-- Lists of open sessions, and what a letter and an end make of them.
use Rattle.std.proofs.Common.{◌≡◌, ℕ, suc, ◌<◌, Bool, true, false, cond, nat_eq, List, [], ◌∷◌, ◌++◌, length, Option, Some, None, Result, Ok, Err, OnOk, OnErr, inl, inr, refl, sym, ap, ◌∙◌, subst, arith}
use Rattle.std.specs.Map.{set_value}
use Rattle.std.proofs.lemmas.Map.Steps.{set_value_same}
use Rattle.rv_core.specs.declared.rv_error.RvError.{RvError}
use Rattle.std.proofs.lemmas.Bool.{cases_eq, eq-eqb, ne_eqb}
use Rattle.hy_base.proofs.Truths.{turned-test}
use Rattle.hy_bits.specs.Letter.{Letter}
use Rattle.hy_formula.specs.Quantifiers.{Each}
use Rattle.rv_core.specs.Histories.{Session, letters_of, extended, closed}
use Rattle.rv_core.specs.Held.{AreApart, AreSessions}
use Rattle.rv_core.specs.Opened.{Open, letters_in, Puts, Extends, longer, opened, Closes}

-- ---- letters of sessions after a letter and after an end

abbrev pub word_of : Option (List Letter) → List Letter
word_of None = []
word_of (Some word) = word

-- A change of session n leaves session k as it is: who looks for m finds that, or what comes of the change.
elsewhere : (n m k : ℕ) → ¬ (n ≡ k) → (own changed rest old : Option (List Letter))
    → rest ≡ cond (nat_eq n m) changed old
    → cond (nat_eq m k) own rest ≡ cond (nat_eq n m) changed (cond (nat_eq m k) own old)
elsewhere n m k differ own changed rest old e =
    elim (cases_eq m k) [
      | inl f ↦
          let at : nat_eq m k ≡ true = eq-eqb m k f in
          let off : nat_eq n m ≡ false = ne_eqb n m (λ g. differ (g ∙ f)) in
          rw (at, off) refl
      | inr off ↦
          let past : nat_eq m k ≡ false = ne_eqb m k off in
          rw past e
    ]

pub letters-extended : (n : ℕ) (a : Letter) (ss : List Session) (m : ℕ)
    → letters_of m (extended n a ss) ≡ cond (nat_eq n m)
    (Some (word_of (letters_of n ss) ++ a ∷ [])) (letters_of m ss)
letters-extended n a [] m = rw (turned-test m n) refl
letters-extended n a (s ∷ ss) m =
    elim (cases_eq n s.number) [
      | inl e ↦
          let here : nat_eq n s.number ≡ true = eq-eqb n s.number e in
          let same : nat_eq m s.number ≡ nat_eq n m = ap (λ k. nat_eq m k) (sym e) ∙ turned-test m n in
          rw (here, same) (by-cases (nat_eq n m))
      | inr differ ↦
          let there : nat_eq n s.number ≡ false = ne_eqb n s.number differ in
          rw there (elsewhere n m s.number differ _ _ _ _ (letters-extended n a ss m))
    ]
  where
    by-cases : (b : Bool) → cond b (Some (s.letters ++ a ∷ [])) (letters_of m ss)
        ≡ cond b (Some (s.letters ++ a ∷ [])) (cond b (Some s.letters) (letters_of m ss))
    by-cases true = refl
    by-cases false = refl

none-either : (b : Bool) → let none : Option (List Letter) = None in none ≡ cond b none none
none-either true = refl
none-either false = refl

pub letters-closed : (n : ℕ) (ss : List Session) (m : ℕ)
    → letters_of m (closed n ss) ≡ cond (nat_eq n m) None (letters_of m ss)
letters-closed n [] m = none-either (nat_eq n m)
letters-closed n (s ∷ ss) m =
    elim (cases_eq n s.number) [
      | inl e ↦
          let here : nat_eq n s.number ≡ true = eq-eqb n s.number e in
          let same : nat_eq m s.number ≡ nat_eq n m = ap (λ k. nat_eq m k) (sym e) ∙ turned-test m n in
          rw (here, same, letters-closed n ss m) (by-cases (nat_eq n m))
      | inr differ ↦
          let there : nat_eq n s.number ≡ false = ne_eqb n s.number differ in
          rw there (elsewhere n m s.number differ _ _ _ _ (letters-closed n ss m))
    ]
  where
    by-cases : (b : Bool)
        → cond b None (letters_of m ss) ≡ cond b None (cond b (Some s.letters) (letters_of m ss))
    by-cases true = refl
    by-cases false = refl

-- ---- how many sessions there are, and that they have different numbers

pub length-longer : (n : ℕ) (a : Letter) (word : List Letter) (ss : List Session)
    → letters_of n ss ≡ Some word
    → length (extended n a ss) ≡ length ss
length-longer n a word [] e = absurd (cc)
length-longer n a word (s ∷ ss) e = by-cases (nat_eq n s.number) e (length-longer n a word ss)
  where
    by-cases : (b : Bool) → cond b (Some s.letters) (letters_of n ss) ≡ Some word
        → (letters_of n ss ≡ Some word → length (extended n a ss) ≡ length ss)
        → length (cond b (record { number = s.number; letters = s.letters ++ a ∷ [] } ∷ ss)
        (s ∷ extended n a ss)) ≡ suc (length ss)
    by-cases true e later = refl
    by-cases false e later = ap suc (later e)

pub length-opened : (n : ℕ) (a : Letter) (ss : List Session) → letters_of n ss ≡ None
    → length (extended n a ss) ≡ suc (length ss)
length-opened n a [] e = refl
length-opened n a (s ∷ ss) e = by-cases (nat_eq n s.number) e (length-opened n a ss)
  where
    by-cases : (b : Bool) → cond b (Some s.letters) (letters_of n ss) ≡ None
        → (letters_of n ss ≡ None → length (extended n a ss) ≡ suc (length ss))
        → length (cond b (record { number = s.number; letters = s.letters ++ a ∷ [] } ∷ ss)
        (s ∷ extended n a ss)) ≡ suc (suc (length ss))
    by-cases true e later = absurd (cc)
    by-cases false e later = ap suc (later e)

abbrev Others : ℕ → List Session → Type 0
Others k ss = Each (λ (t : Session). ¬ (k ≡ t.number)) ss

length-others : (n : ℕ) (ss : List Session) → Others n ss → length (closed n ss) ≡ length ss
length-others n [] o = refl
length-others n (s ∷ ss) (differ, o) =
    let there : nat_eq n s.number ≡ false = ne_eqb n s.number differ in
    rw there (ap suc (length-others n ss o))

pub length-closed : (n : ℕ) (word : List Letter) (ss : List Session) → AreApart ss
    → letters_of n ss ≡ Some word
    → suc (length (closed n ss)) ≡ length ss
length-closed n word [] apart e = absurd (cc)
length-closed n word (s ∷ ss) (o, apart) e =
    elim (cases_eq n s.number) [
      | inl f ↦
          let here : nat_eq n s.number ≡ true = eq-eqb n s.number f in
          let P : ℕ → Type 0 = λ k. Others k ss in
          rw here (ap suc (length-others n ss (subst P (sym f) o)))
      | inr differ ↦
          let there : nat_eq n s.number ≡ false = ne_eqb n s.number differ in
          rw there (ap suc (length-closed n word ss apart (rw there at e)))
    ]

others-extended : (k n : ℕ) (a : Letter) (ss : List Session) → ¬ (k ≡ n) → Others k ss
    → Others k (extended n a ss)
others-extended k n a [] differ o = (differ, tt)
others-extended k n a (s ∷ ss) differ (off, o) =
    by-cases (nat_eq n s.number) (others-extended k n a ss differ o)
  where
    by-cases : (b : Bool) → Others k (extended n a ss)
        → Others k
        (cond b (record { number = s.number; letters = s.letters ++ a ∷ [] } ∷ ss)
        (s ∷ extended n a ss))
    by-cases true later = (off, o)
    by-cases false later = (off, later)

pub apart-extended : (n : ℕ) (a : Letter) (ss : List Session) → AreApart ss
    → AreApart (extended n a ss)
apart-extended n a [] apart = (tt, tt)
apart-extended n a (s ∷ ss) (o, apart) =
    elim (cases_eq n s.number) [
      | inl f ↦
          let here : nat_eq n s.number ≡ true = eq-eqb n s.number f in
          rw here (o, apart)
      | inr differ ↦
          let there : nat_eq n s.number ≡ false = ne_eqb n s.number differ in
          rw there (
            others-extended s.number n a ss (λ e. differ (sym e)) o,
            apart-extended n a ss apart,
          )
    ]

others-closed : (k n : ℕ) (ss : List Session) → Others k ss → Others k (closed n ss)
others-closed k n [] o = tt
others-closed k n (s ∷ ss) (off, o) = by-cases (nat_eq n s.number) (others-closed k n ss o)
  where
    by-cases : (b : Bool) → Others k (closed n ss)
        → Others k (cond b (closed n ss) (s ∷ closed n ss))
    by-cases true later = later
    by-cases false later = (off, later)

pub apart-closed : (n : ℕ) (ss : List Session) → AreApart ss → AreApart (closed n ss)
apart-closed n [] apart = tt
apart-closed n (s ∷ ss) (o, apart) = by-cases (nat_eq n s.number) (apart-closed n ss apart)
  where
    by-cases : (b : Bool) → AreApart (closed n ss)
        → AreApart (cond b (closed n ss) (s ∷ closed n ss))
    by-cases true later = later
    by-cases false later = (others-closed s.number n ss o, later)

-- ---- the open sessions of a monitor are those of the history

pub sessions-extended : (n : ℕ) (a : Letter) (old new : Open) (ss : List Session)
    → AreSessions old ss → Extends n a old new
    → AreSessions new (extended n a ss)
sessions-extended n a old new ss s (longer word known short puts same) =
    let is : Some word ≡ letters_of n ss = sym known ∙ s.letters n in
    record {
      letters = λ m. puts m
          ∙ (λ i. cond (nat_eq n m) (Some (word_of (is i) ++ a ∷ [])) (s.letters m i))
          ∙ sym (letters-extended n a ss m);
      count = same ∙ s.count ∙ sym (length-longer n a word ss (sym is));
      apart = apart-extended n a ss s.apart;
    }
sessions-extended n a old new ss s (opened known few puts more) =
    let is : None ≡ letters_of n ss = sym known ∙ s.letters n in
    record {
      letters = λ m. puts m
          ∙ (λ i. cond (nat_eq n m) (Some (word_of (is i) ++ a ∷ [])) (s.letters m i))
          ∙ sym (letters-extended n a ss m);
      count = let added = length-opened n a ss (sym is) in omega (arith, s.count);
      apart = apart-extended n a ss s.apart;
    }

pub longer-ok : (n : ℕ) (a : Letter) (old new : Open) (word w : List Letter)
    (r : Result (Unit {0}) RvError)
    → letters_in n old ≡ Some word → OnOk r (length word < 1024) → OnOk r (w ≡ word ++ a ∷ [])
    → Puts n (Some w) old new → length new ≡ length old → OnOk r (Extends n a old new)
longer-ok n a old new word w (Ok u) known short added puts same =
    longer word known short
    (λ m. puts m ∙ ap (λ v. cond (nat_eq n m) (Some v) (letters_in m old)) added) same
longer-ok n a old new word w (Err e) known short added puts same = tt

pub unchanged-err : (n : ℕ) (es : Open) (word w : List Letter) (r : Result (Unit {0}) RvError)
    → letters_in n es ≡ Some word → OnErr r (w ≡ word) → OnErr r (set_value (nat_eq n) es w ≡ es)
unchanged-err n es word w (Ok u) known same = tt
unchanged-err n es word w (Err e) known same = ap (set_value (nat_eq n) es) same
    ∙ set_value_same (nat_eq n) es word known

pub sessions-closed : (n : ℕ) (word : List Letter) (old new : Open) (ss : List Session)
    → AreSessions old ss
    → letters_in n old ≡ Some word → Closes n old new → AreSessions new (closed n ss)
sessions-closed n word old new ss s known c =
    let is : letters_of n ss ≡ Some word = sym (s.letters n) ∙ known in
    record {
      letters = λ m. c.gone m ∙ ap (cond (nat_eq n m) None) (s.letters m)
          ∙ sym (letters-closed n ss m);
      count = let fewer = length-closed n word ss s.apart is in omega (arith, s.count, c.fewer);
      apart = apart-closed n ss s.apart;
    }

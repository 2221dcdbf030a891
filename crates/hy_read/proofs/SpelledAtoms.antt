-- Bytes of words, and words that end in an underscore and a variable.
use Rattle.std.proofs.Common.{◌≡◌, ℕ, ◌+◌, ◌-◌, Bool, true, false, not, ◌||◌, List, [], ◌∷◌, ◌++◌, reverse, length, drop, All, refl, sym, ap, subst, ◌∙◌, append_assoc, length-append, take_at, drop_at, zero-add, arith}
use Rattle.std.specs.List.{list_all, list_any, prefix_len, suffix_len, before_last, after_last}
use Rattle.std.proofs.lemmas.Bool.{cond-true, cond-false, and_parts, and_from, not_from_true, not_from_false}
use Rattle.std.proofs.lemmas.Bool.Decides.{nat_tests}
use Rattle.std.proofs.lemmas.Grind.{common_steps}
use Rattle.std.proofs.lemmas.List.{length_push, length-reverse, reverse-append}
use Rattle.std.proofs.lemmas.List.Elements.{All-nil, All-cons, All-head, All-tail, All-append}
use Rattle.hy_text.specs.Bytes.{is_letter, is_letter_or_digit, is_quotable, is_underscore, is_word_byte}

-- ---- classes of bytes

pub word_quotable : (b : ℕ) → is_word_byte b ≡ true → is_quotable b ≡ true
word_quotable b e = grind (arith, nat_tests, common_steps)

pub letter_no_underscore : (b : ℕ) → is_letter b ≡ true → is_underscore b ≡ false
letter_no_underscore b e = grind (arith, nat_tests, common_steps)

pub plain_no_underscore : (b : ℕ) → is_letter_or_digit b ≡ true → not (is_underscore b) ≡ true
plain_no_underscore b e = grind (arith, nat_tests, common_steps)

module _ (p q : ℕ → Bool) (each : (b : ℕ) → p b ≡ true → q b ≡ true) where
  pub all_too : (xs : List ℕ) → list_all p xs ≡ true → list_all q xs ≡ true
  all_too [] h = refl
  all_too (x ∷ xs) h =
      let parts = and_parts (p x) (list_all p xs) h in
      and_from (q x) (list_all q xs) (each x parts.0) (all_too xs parts.1)

-- ---- the last of a kind

module _ (p : ℕ → Bool) where
  all-reverse : (xs : List ℕ) → All (λ x. p x ≡ true) xs → All (λ x. p x ≡ true) (reverse xs)
  all-reverse [] h = h
  all-reverse (x ∷ xs) h =
      let P : ℕ → Type 0 = λ y. p y ≡ true in
      subst (All P) (sym (reverse-append (x ∷ []) xs)) (All-append P (reverse xs) (x ∷ []) (all-reverse xs (All-tail P x xs h)) (All-cons P x [] (All-head P x xs h) (All-nil P)))

  prefix-append : (xs ys : List ℕ) → All (λ x. p x ≡ true) xs → prefix_len p (xs ++ ys) ≡ length xs + prefix_len p ys
  prefix-append [] ys h = sym (zero-add _)
  prefix-append (x ∷ xs) ys h =
      let more = prefix-append xs ys (All-tail (λ y. p y ≡ true) x xs h) in
      cond-true (p x) _ 0 (All-head (λ y. p y ≡ true) x xs h) ∙ omega arith

  suffix-at : (xs : List ℕ) (y : ℕ) (ys : List ℕ) → p y ≡ false → All (λ x. p x ≡ true) ys → suffix_len p (xs ++ y ∷ ys) ≡ length ys
  suffix-at xs y ys stop h =
      let turned : reverse (xs ++ y ∷ ys) ≡ reverse ys ++ (y ∷ reverse xs) =
      reverse-append xs (y ∷ ys) ∙ ap (λ zs. zs ++ reverse xs) (reverse-append (y ∷ []) ys) ∙ append_assoc (reverse ys) (y ∷ []) (reverse xs) in
      let none : prefix_len p (y ∷ reverse xs) ≡ 0 = cond-false (p y) _ 0 stop in
      ap (prefix_len p) turned ∙ prefix-append (reverse ys) _ (all-reverse ys h) ∙ omega (arith, length-reverse ys)

module _ (p : ℕ → Bool) (xs : List ℕ) (y : ℕ) (ys : List ℕ) (here : p y ≡ true) (none : All (λ x. not (p x) ≡ true) ys) where
  at-last : suffix_len (λ x. not (p x)) (xs ++ y ∷ ys) ≡ length ys
  at-last = suffix-at (λ x. not (p x)) xs y ys (not_from_true _ here) none

  pub before-last-at : before_last p (xs ++ y ∷ ys) ≡ xs
  before-last-at = take_at xs (y ∷ ys) _ (omega (arith, at-last, length-append xs (y ∷ ys)))

  pub after-last-at : after_last p (xs ++ y ∷ ys) ≡ ys
  after-last-at =
      let n = length (xs ++ y ∷ ys) - suffix_len (λ x. not (p x)) (xs ++ y ∷ ys) in
      ap (drop n) (sym (append_assoc xs (y ∷ []) ys)) ∙ drop_at (xs ++ y ∷ []) ys n (omega (arith, at-last, length-append xs (y ∷ ys), length_push xs y))

-- a list split at the last element that passes
pub record SplitLast (p : ℕ → Bool) (xs : List ℕ) : Type 0 where
  pub front : List ℕ
  pub last : ℕ
  pub back : List ℕ
  pub is : xs ≡ front ++ last ∷ back
  pub here : p last ≡ true
  pub none : All (λ x. not (p x) ≡ true) back

none-one : (p : ℕ → Bool) (x : ℕ) (xs : List ℕ) (b : Bool) → p x ≡ b → (b || list_any p xs) ≡ false → (list_any p xs ≡ false → All (λ x. not (p x) ≡ true) xs) → All (λ x. not (p x) ≡ true) (x ∷ xs)
none-one p x xs true is e later = absurd cc
none-one p x xs false is e later = All-cons (λ x. not (p x) ≡ true) x xs (not_from_false (p x) is) (later e)

none-there : (p : ℕ → Bool) (xs : List ℕ) → list_any p xs ≡ false → All (λ x. not (p x) ≡ true) xs
none-there p [] e = All-nil (λ x. not (p x) ≡ true)
none-there p (x ∷ xs) e = none-one p x xs (p x) refl e (none-there p xs)

split-one : (p : ℕ → Bool) (x : ℕ) (xs : List ℕ) (c b : Bool) → list_any p xs ≡ c → p x ≡ b → (b || c) ≡ true → (c ≡ true → SplitLast p xs) → SplitLast p (x ∷ xs)
split-one p x xs true b later is e split =
    let s = split refl in
    record { front = x ∷ s.front; last = s.last; back = s.back; is = ap (λ l. x ∷ l) s.is; here = s.here; none = s.none }
split-one p x xs false true later is e split = record { front = []; last = x; back = xs; is = refl; here = is; none = none-there p xs later }
split-one p x xs false false later is e split = absurd cc

pub split-last : (p : ℕ → Bool) (xs : List ℕ) → list_any p xs ≡ true → SplitLast p xs
split-last p [] e = absurd cc
split-last p (x ∷ xs) e = split-one p x xs (list_any p xs) (p x) refl refl e (split-last p xs)

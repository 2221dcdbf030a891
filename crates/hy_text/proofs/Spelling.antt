-- A name that was printed is read.
use Rattle.std.proofs.Common.{◌≡◌, ℕ, ◌<◌, Bool, true, false, cond, nat_lt, nat_eq, if◌then◌else◌, List, [], ◌∷◌, ◌++◌, length, Some, codes, refl, ap, ◌∙◌, arith, append_assoc}
use Rattle.std.specs.List.{take_while, starts_with, list_all}
use Rattle.std.proofs.Math.Seq.{drop-append_seam}
use Rattle.std.proofs.lemmas.Bool.{and_parts}
use Rattle.std.proofs.lemmas.Bool.Decides.{nat_tests}
use Rattle.std.proofs.lemmas.Grind.{common_steps}
use Rattle.std.proofs.lemmas.List.Sums.{take_while-cons}
use Rattle.hy_text.specs.Bytes.{is_letter, is_word_byte, is_quotable, is_plain}
use Rattle.hy_text.specs.Names.{name_at, plain_name_at, quoted_name_at, spelled, IsName}

-- A run of one class ends before what is not of the class.
pub run_before : (p : ℕ → Bool) (xs ys : List ℕ) → list_all p xs ≡ true → take_while p ys ≡ [] → take_while p (xs ++ ys) ≡ xs
run_before p [] ys all stop = stop
run_before p (x ∷ xs) ys all stop =
    let parts = and_parts (p x) (list_all p xs) all in
    take_while-cons p x (xs ++ ys) ∙ ap (λ b. cond b (x ∷ take_while p (xs ++ ys)) []) parts.0 ∙ ap (λ l. x ∷ l) (run_before p xs ys parts.1 stop)

letter_is_word : (b : ℕ) → is_letter b ≡ true → is_word_byte b ≡ true
letter_is_word b e = rw e refl

letter_no_quote : (b : ℕ) → is_letter b ≡ true → nat_eq 34 b ≡ false
letter_no_quote b e = grind (arith, nat_tests, common_steps)

pub plain_read : (name rest : List ℕ) → is_plain name ≡ true → take_while is_word_byte rest ≡ [] → name_at (name ++ rest) ≡ Some (name, rest)
plain_read [] rest plain stop = absurd cc
plain_read (b ∷ bs) rest plain stop =
    let parts = and_parts (is_letter b) (list_all is_word_byte bs) plain in
    let all : list_all is_word_byte (b ∷ bs) ≡ true = rw (letter_is_word b parts.0) parts.1 in
    let run = run_before is_word_byte (b ∷ bs) rest all stop in
    let left = drop-append_seam (b ∷ bs) rest in
    let unquoted : starts_with nat_eq (b ∷ (bs ++ rest)) (codes "\"") ≡ false = rw (letter_no_quote b parts.0) refl in
    let plainly : plain_name_at (b ∷ (bs ++ rest)) ≡ Some (b ∷ bs, rest) = rw (run, parts.0, left) refl in
    ap (λ t. if t then quoted_name_at (b ∷ (bs ++ rest)) else plain_name_at (b ∷ (bs ++ rest))) unquoted ∙ plainly

pub quoted_read : (name rest : List ℕ) → 0 < length name → list_all is_quotable name ≡ true → name_at (34 ∷ (name ++ 34 ∷ []) ++ rest) ≡ Some (name, rest)
quoted_read name rest some quotable =
    let whole : (name ++ 34 ∷ []) ++ rest ≡ name ++ 34 ∷ rest = append_assoc name (34 ∷ []) rest in
    let stop : take_while is_quotable (34 ∷ rest) ≡ [] = take_while-cons is_quotable 34 rest in
    let run = run_before is_quotable name (34 ∷ rest) quotable stop in
    let left = drop-append_seam name (34 ∷ rest) in
    let test : nat_lt 0 (length name) ≡ true = grind (arith, nat_tests) in
    rw (whole, run, left, test) refl

-- whether quotes are printed or not
pub spelled_read : (name rest : List ℕ) → IsName name → take_while is_word_byte rest ≡ [] → name_at (spelled name ++ rest) ≡ Some (name, rest)
spelled_read name rest is stop = through (is_plain name) refl
  where
    through : (b : Bool) → is_plain name ≡ b → name_at ((if b then name else 34 ∷ name ++ 34 ∷ []) ++ rest) ≡ Some (name, rest)
    through true e = plain_read name rest e stop
    through false e = quoted_read name rest is.some is.quotable

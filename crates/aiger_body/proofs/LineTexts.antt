-- A line says a row of numbers exactly where it is these numbers spelled, with or without a carriage return.
use Rattle.std.proofs.Common.{◌≡◌, ℕ, suc, ◌<◌, ◌⊎◌, Bool, true, false, cond, nat_eq, List, [], ◌∷◌, ◌++◌, refl, sym, ◌∙◌, ap, subst, inl, inr, map, length, get_or, arith, append_assoc, Option, Some, None}
use Rattle.std.specs.Prelude.{decimal, flat_map}
use Rattle.std.specs.List.{All, slice_split, join_with_byte}
use Rattle.std.proofs.lemmas.List.Splits.{join_with_byte-slice_split}
use Rattle.std.proofs.lemmas.Bool.{eqb-true, cases_Bool}
use Rattle.hy_text.specs.Numbers.{number_of}
use Rattle.hy_text.proofs.Digits.{says_number}
use Rattle.aiger_body.specs.Texts.{is_feed, is_return, is_space, is_ended, pieces, without_end, line_text, with_number, all_numbers, or_empty, numbers_of}
use Rattle.aiger_body.specs.Spelled.{AreShort, spelled, line_of, end_of}
use Rattle.aiger_body.proofs.Pieces.{Free, pieces-cons}
use Rattle.aiger_body.proofs.Spelling.{numbers-spelled, no-digit}

without-last : (ends : ℕ → Bool) (text : List ℕ) (e : ℕ) → ends e ≡ true → without_end ends (text ++ e ∷ []) ≡ text
without-last ends [] e end = let P : Bool → Type 0 = λ b. cond b [] (e ∷ []) ≡ [] in subst P (sym end) refl
without-last ends (b ∷ []) e end = ap (λ l. b ∷ l) (without-last ends [] e end)
without-last ends (b ∷ c ∷ text) e end = ap (λ l. b ∷ l) (without-last ends (c ∷ text) e end)

pub without-none : (ends : ℕ → Bool) (text : List ℕ) → is_ended ends text ≡ false → without_end ends text ≡ text
without-none ends [] e = refl
without-none ends (b ∷ []) e = let P : Bool → Type 0 = λ x. cond x [] (b ∷ []) ≡ b ∷ [] in subst P (sym e) refl
without-none ends (b ∷ c ∷ text) e = ap (λ l. b ∷ l) (without-none ends (c ∷ text) e)

last-of : (ends : ℕ → Bool) (text : List ℕ) → is_ended ends text ≡ true → (e : ℕ) × (ends e ≡ true) × (text ≡ without_end ends text ++ e ∷ [])
last-of ends [] e = absurd (cc)
last-of ends (b ∷ []) e = let P : Bool → Type 0 = λ x. b ∷ [] ≡ cond x [] (b ∷ []) ++ b ∷ [] in (b, e, subst P (sym e) refl)
last-of ends (b ∷ c ∷ text) e = let (x, end, is) = last-of ends (c ∷ text) e in (x, end, ap (λ l. b ∷ l) is)

-- ---- what is free of a byte

pub all-free : (c : ℕ) (bytes : List ℕ) → All (λ x. nat_eq x c ≡ false) bytes → Free (λ x. nat_eq x c) bytes
all-free c [] all = tt
all-free c (b ∷ bytes) all = (all 0 0 (omega arith), all-free c bytes (λ k d lt. all (suc k) d (omega arith)))

pub free-append : (ends : ℕ → Bool) (xs ys : List ℕ) → Free ends xs → Free ends ys → Free ends (xs ++ ys)
free-append ends [] ys free more = more
free-append ends (x ∷ xs) ys (here, free) more = (here, free-append ends xs ys free more)

pub spelled-free : (c : ℕ) → c < 32 → (row : List ℕ) → AreShort row → Free (λ x. nat_eq x c) (spelled row)
spelled-free c low [] short = tt
spelled-free c low (n ∷ []) (lt, short) = all-free c (decimal n) (no-digit n lt c (omega arith))
spelled-free c low (n ∷ m ∷ row) (lt, short) =
    free-append (λ x. nat_eq x c) (decimal n) (32 ∷ spelled (m ∷ row)) (all-free c (decimal n) (no-digit n lt c (omega arith))) (space (cases_Bool (nat_eq 32 c)), spelled-free c low (m ∷ row) short)
  where
    space : (nat_eq 32 c ≡ true) ⊎ (nat_eq 32 c ≡ false) → nat_eq 32 c ≡ false
    space (inl same) = absurd (omega (arith, eqb-true 32 c same))
    space (inr other) = other

pub free-end : (ends : ℕ → Bool) (text : List ℕ) → Free ends text → is_ended ends text ≡ false
free-end ends [] free = refl
free-end ends (b ∷ []) (here, free) = here
free-end ends (b ∷ c ∷ text) (here, free) = free-end ends (c ∷ text) free

-- ---- a spelled line says its numbers

pub text-spelled : (carriage : Bool) (text : List ℕ) → is_ended is_return text ≡ false → line_text (text ++ end_of carriage) ≡ text
text-spelled false text free = ap (without_end is_return) (without-last is_feed text 10 refl) ∙ without-none is_return text free
text-spelled true text free =
    ap line_text (sym (append_assoc text (13 ∷ []) (10 ∷ []))) ∙ ap (without_end is_return) (without-last is_feed (text ++ 13 ∷ []) 10 refl) ∙ without-last is_return text 13 refl

pub line-read : (carriage : Bool) (n : ℕ) (row : List ℕ) → AreShort (n ∷ row) → numbers_of (line_text (spelled (n ∷ row) ++ end_of carriage)) ≡ n ∷ row
line-read carriage n row short =
    ap numbers_of (text-spelled carriage (spelled (n ∷ row)) (free-end is_return (spelled (n ∷ row)) (spelled-free 13 (omega arith) (n ∷ row) short))) ∙ numbers-spelled n row short

-- ---- and what says them is spelled so

number-word : (word : List ℕ) (n : ℕ) → number_of word ≡ Some n → decimal n ≡ word
number-word word n e = let says = says_number word n e in sym says.spelled

all-words : (words : List (List ℕ)) (row : List ℕ) → all_numbers words ≡ Some row → words ≡ map decimal row
all-words [] [] e = refl
all-words [] (n ∷ row) e = absurd (cc)
all-words (word ∷ words) row e = step (λ ns are. all-words words ns are) (number_of word) (all_numbers words) refl refl e
  where
    step : ((ns : List ℕ) → all_numbers words ≡ Some ns → words ≡ map decimal ns) → (o : Option ℕ) (p : Option (List ℕ)) → number_of word ≡ o → all_numbers words ≡ p → with_number o p ≡ Some row → word ∷ words ≡ map decimal row
    step more (Some n) (Some ns) is are e =
        let q : n ∷ ns ≡ row = cc in
        let P : List ℕ → Type 0 = λ r. word ∷ words ≡ map decimal r in
        subst P q (ap (λ w. w ∷ words) (sym (number-word word n is)) ∙ ap (λ l. decimal n ∷ l) (more ns are))
    step more (Some n) None is are e = absurd (cc)
    step more None p is are e = absurd (cc)

some-numbers : (o : Option (List ℕ)) (n : ℕ) (row : List ℕ) → or_empty o ≡ n ∷ row → o ≡ Some (n ∷ row)
some-numbers (Some ns) n row e = ap Some e
some-numbers None n row e = absurd (cc)

text-of : (text : List ℕ) (n : ℕ) (row : List ℕ) → numbers_of text ≡ n ∷ row → text ≡ spelled (n ∷ row)
text-of text n row e =
    sym (join_with_byte-slice_split 32 text) ∙ ap (join_with_byte 32) (all-words (slice_split is_space text) (n ∷ row) (some-numbers _ n row e))

pub line-spelled : (line : List ℕ) (n : ℕ) (row : List ℕ) → is_ended is_feed line ≡ true → numbers_of (line_text line) ≡ n ∷ row → (carriage : Bool) × (line ≡ spelled (n ∷ row) ++ end_of carriage)
line-spelled line n row end e =
    let (x, feed, is) = last-of is_feed line end in
    let ten : x ≡ 10 = eqb-true x 10 feed in
    let inner = without_end is_feed line in
    let cut : line ≡ inner ++ 10 ∷ [] = is ∙ ap (λ b. inner ++ b ∷ []) ten in
    let said : without_end is_return inner ≡ spelled (n ∷ row) = text-of _ n row e in
    elim (cases_Bool (is_ended is_return inner)) [
      | inl back ↦
          let (y, return, was) = last-of is_return inner back in
          let thirteen : y ≡ 13 = eqb-true y 13 return in
          (true, cut ∙ ap (λ l. l ++ 10 ∷ []) (was ∙ ap (λ b. without_end is_return inner ++ b ∷ []) thirteen ∙ ap (λ l. l ++ 13 ∷ []) said) ∙ append_assoc (spelled (n ∷ row)) (13 ∷ []) (10 ∷ []))
      | inr plain ↦ (false, cut ∙ ap (λ l. l ++ 10 ∷ []) (sym (without-none is_return inner plain) ∙ said))
    ]

-- ---- lines one after the other

pub rows-pieces : (rows : List (List ℕ)) (rest : List ℕ) → ((k : ℕ) → k < length rows → AreShort (get_or rows k [])) → pieces is_feed (flat_map line_of rows ++ rest) ≡ map line_of rows ++ pieces is_feed rest
rows-pieces [] rest short = refl
rows-pieces (row ∷ rows) rest short =
    ap (pieces is_feed) (append_assoc (line_of row) (flat_map line_of rows) rest ∙ append_assoc (spelled row) (10 ∷ []) (flat_map line_of rows ++ rest))
    ∙ pieces-cons is_feed (spelled row) 10 (flat_map line_of rows ++ rest) (spelled-free 10 (omega arith) row (short 0 (omega arith))) refl
    ∙ ap (λ l. line_of row ∷ l) (rows-pieces rows rest (λ k lt. short (suc k) (omega arith)))

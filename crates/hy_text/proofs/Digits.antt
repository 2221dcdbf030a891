-- Which words are numbers, and how large these are.
use Rattle.std.proofs.Common.{◌≡◌, ℕ, ◌+◌, ◌*◌, ◌^◌, ◌<◌, ◌≤◌, ◌⊎◌, Bool, true, false, cond, ◌&&◌, List, [], ◌∷◌, length, get_or, take, refl, sym, ◌∙◌, ap, subst, arith, Option, Some, None, MatchOption, inl, inr}
use Rattle.std.specs.Prelude.{decimal, bytes_eq, nat_le, IfNone, IfSome}
use Rattle.std.specs.Char.{digit_value}
use Rattle.std.specs.Str.Parse.{AllDigits, digits_value, digits_value_after}
use Rattle.std.proofs.Math.Nat.{pow-succ', pow-le-pow_right, mul-le-mul_right, mul_assoc}
use Rattle.std.proofs.lemmas.Bool.{le-leb, leb-true, cases_lt, and_parts, and_from, cases_Bool}
use Rattle.std.proofs.lemmas.List.{length-take-le}
use Rattle.std.proofs.lemmas.Fmt.{decimal_is_IsNumeral, decimal-digits_value, length-decimal-le}
use Rattle.std.proofs.lemmas.Str.Parse.{IsNumeralModel}
use Rattle.std.proofs.lemmas.Int.Digits.{digits_value-lt}
use Rattle.hy_base.proofs.Truths.{same-bytes, bytes-themselves}
use Rattle.hy_text.specs.Numbers.{SaysNumber, number_of}

own : IsNumeralModel (AllDigits 10) (digits_value 10)
own = record { to = λ ds h. h; from = λ ds h. h; same = λ ds h. refl }

digit-small : (c : ℕ) → digit_value c ≤ 36
digit-small c = grind arith

value-small : (cs : List ℕ) (n : ℕ) → digits_value_after 10 n cs + 4 ≤ (n + 4) * 10 ^ length cs
value-small [] n = omega arith
value-small (c ∷ cs) n =
    let more = value-small cs (n * 10 + digit_value c) in
    let step : n * 10 + digit_value c + 4 ≤ (n + 4) * 10 = omega (arith, digit-small c) in
    let right : (n + 4) * 10 * 10 ^ length cs ≡ (n + 4) * 10 ^ length (c ∷ cs) = mul_assoc (n + 4) 10 (10 ^ length cs) ∙ ap (λ p. (n + 4) * p) (sym (pow-succ' 10 (length cs))) in
    let left : (n * 10 + digit_value c + 4) * 10 ^ length cs ≤ (n + 4) * 10 * 10 ^ length cs = mul-le-mul_right (10 ^ length cs) step in
    omega (arith, more, left, right)

pub word_short : (word : List ℕ) → length word ≤ 10 → digits_value 10 word < 2 ^ 64
word_short word le = omega (arith, value-small word 0, pow-le-pow_right {n = 10} (omega arith) le)

pub number_digits : (word : List ℕ) → length word ≤ 10 → 0 < length word → AllDigits 10 word → (get_or word 0 0 ≡ 48 → length word ≡ 1) → number_of word ≡ Some (digits_value 10 word)
number_digits word le some all lead =
    let same : decimal (digits_value 10 word) ≡ word = decimal-digits_value own word all some lead (word_short word le) in
    let eq : bytes_eq (decimal (digits_value 10 word)) word ≡ true = ap (λ d. bytes_eq d word) same ∙ bytes-themselves word in
    ap (λ b. cond b (Some (digits_value 10 word)) None) (and_from (nat_le (length word) 10) _ (le-leb _ _ le) eq)

-- a word that is a number
pub record IsNumber (word : List ℕ) : Type 0 where
  pub short : length word ≤ 10
  pub some : 0 < length word
  pub digits : AllDigits 10 word
  pub lead : 1 < length word → get_or word 0 0 ≡ 48 → ⊥

lead-free : (word : List ℕ) → decimal (digits_value 10 word) ≡ word → AllDigits 10 word → length word ≤ 10 → 1 < length word → get_or word 0 0 ≡ 48 → ⊥
lead-free [] same all short long zero_first = omega arith
lead-free (c ∷ cs) same all short long zero_first =
    let value : digits_value 10 (c ∷ cs) ≡ digits_value 10 cs = ap (λ x. digits_value 10 (x ∷ cs)) zero_first in
    let low : digits_value 10 cs < 10 ^ length cs = digits_value-lt 10 cs all.1 in
    let fits : digits_value 10 cs < 2 ^ 64 = word_short cs (omega arith) in
    let less : length (decimal (digits_value 10 cs)) ≤ length cs = length-decimal-le (length cs) (digits_value 10 cs) (omega arith) low fits in
    omega (arith, less, ap length (ap decimal (sym value) ∙ same))

test-is : (word : List ℕ) (b : Bool) → (nat_le (length word) 10 && bytes_eq (decimal (digits_value 10 word)) word) ≡ b → (b ≡ true) ⊎ (b ≡ false) → (n : ℕ) → cond b (Some (digits_value 10 word)) None ≡ Some n → IsNumber word
test-is word b is (inr no_number) n e = absurd (cc)
test-is word b is (inl number) n e =
    let (le, eq) = and_parts (nat_le (length word) 10) _ (is ∙ number) in
    let short : length word ≤ 10 = leb-true (length word) 10 le in
    let same : decimal (digits_value 10 word) ≡ word = same-bytes _ _ eq in
    let numeral = (decimal_is_IsNumeral (digits_value 10 word) (word_short word short)).0 in
    let all : AllDigits 10 word = subst (AllDigits 10) same numeral.1 in
    record { short = short; some = omega (arith, numeral.0, ap length same); digits = all; lead = lead-free word same all short }

pub number_is : (word : List ℕ) (n : ℕ) → number_of word ≡ Some n → IsNumber word
number_is word n e = test-is word _ refl (cases_Bool _) n e

none-or : (word : List ℕ) (o : Option ℕ) → number_of word ≡ o → (IsNumber word → ⊥) → o ≡ None
none-or word None is not_number = refl
none-or word (Some n) is not_number = absurd (not_number (number_is word n is))

pub no_number : (word : List ℕ) → (IsNumber word → ⊥) → None ≡ number_of word
no_number word not_number = sym (none-or word (number_of word) refl not_number)

pub number_small : (word : List ℕ) (n : ℕ) → number_of word ≡ Some n → n < 10 ^ 10
number_small word n e =
    let is = number_is word n e in
    let lead : get_or word 0 0 ≡ 48 → length word ≡ 1 = λ zero_first. elim (cases_lt 1 (length word)) [ inl long ↦ absurd (is.lead long zero_first) | inr le ↦ omega (arith, is.some) ] in
    let value : Some (digits_value 10 word) ≡ Some n = sym (number_digits word is.short is.some is.digits lead) ∙ e in
    let same : digits_value 10 word ≡ n = cc in
    omega (arith, digits_value-lt 10 word is.digits, pow-le-pow_right {n = 10} (omega arith) is.short)

-- the front of a word of digits
pub front_small : (word : List ℕ) (i : ℕ) → i < length word → length word ≤ 10 → AllDigits 10 (take i word) → digits_value 10 (take i word) < 10 ^ 9
front_small word i lt le all =
    omega (arith, digits_value-lt 10 (take i word) all, pow-le-pow_right {n = 10} (omega arith) (front-short word i lt le))
  where
    front-short : (word : List ℕ) (i : ℕ) → i < length word → length word ≤ 10 → length (take i word) ≤ 9
    front-short word i lt le = omega (arith, length-take-le i word (omega arith))

-- what a word of one to ten bytes without a needless zero is
pub digits_said : (word : List ℕ) (o : Option ℕ) → length word ≤ 10 → 0 < length word → ((1 < length word) × (get_or word 0 0 ≡ 48) → ⊥) → IfNone o (¬ AllDigits 10 word) → IfSome o (λ n. AllDigits 10 word × (n ≡ digits_value 10 word)) → o ≡ number_of word
digits_said word None le some lead none is = no_number word (λ number. none number.digits)
digits_said word (Some n) le some lead none is =
    let short : get_or word 0 0 ≡ 48 → length word ≡ 1 = λ zero_first. elim (cases_lt 1 (length word)) [ inl long ↦ absurd (lead (long, zero_first)) | inr few ↦ omega arith ] in
    ap Some is.1 ∙ sym (number_digits word le some is.0 short)

pub said_small : (word : List ℕ) (o : Option ℕ) → o ≡ number_of word → IfSome o (λ n. n < 10 ^ 10)
said_small word None e = tt
said_small word (Some n) e = number_small word n (sym e)

-- ---- the number that a word says

small : (n : ℕ) → n < 10 ^ 10 → n < 2 ^ 64
small n short = omega arith

spelled-as : (word : List ℕ) (b : Bool) (n : ℕ)
    → (nat_le (length word) 10 && bytes_eq (decimal (digits_value 10 word)) word) ≡ b
    → cond b (Some (digits_value 10 word)) None ≡ Some n → word ≡ decimal n
spelled-as word false n is e = absurd (cc)
spelled-as word true n is e =
    let (le, eq) = and_parts (nat_le (length word) 10) _ is in
    let value : digits_value 10 word ≡ n = cc in
    sym (same-bytes _ _ eq) ∙ ap decimal value

pub says_number : (word : List ℕ) (n : ℕ) → number_of word ≡ Some n → SaysNumber word n
says_number word n e = record {
  spelled = spelled-as word _ n refl e;
  short = number_small word n e;
}

number-of : (word : List ℕ) (n : ℕ) → length word ≤ 10 → decimal n ≡ word
    → digits_value 10 word ≡ n → number_of word ≡ Some n
number-of word n le same value =
    let back : decimal (digits_value 10 word) ≡ word = ap decimal value ∙ same in
    let eq : bytes_eq (decimal (digits_value 10 word)) word ≡ true =
    ap (λ d. bytes_eq d word) back ∙ bytes-themselves word in
    ap (λ b. cond b (Some (digits_value 10 word)) None)
    (and_from (nat_le (length word) 10) _ (le-leb _ _ le) eq)
    ∙ ap Some value

pub number_said : (word : List ℕ) (n : ℕ) → SaysNumber word n → number_of word ≡ Some n
number_said word n says =
    let long : length (decimal n) ≤ 10 =
    length-decimal-le 10 n (omega arith) says.short (small n says.short) in
    let value = (decimal_is_IsNumeral n (small n says.short)).1 in
    let P : List ℕ → Type 0 = λ w. number_of w ≡ Some n in
    subst P (sym says.spelled) (number-of (decimal n) n long refl value)

pub number_answer : (word : List ℕ) (o : Option ℕ) → o ≡ number_of word
    → MatchOption o ((n : ℕ) → ¬ SaysNumber word n) (λ n. SaysNumber word n)
number_answer word None e = λ n says. let clash : None ≡ Some n = e ∙ number_said word n says in cc
number_answer word (Some n) e = says_number word n (sym e)

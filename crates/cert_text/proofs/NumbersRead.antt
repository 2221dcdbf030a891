-- What words say of numbers, each word one number at most.
use Rattle.std.proofs.Common.{◌≡◌, ◌≢◌, ℕ, zero, suc, ◌+◌, ◌^◌, ◌<◌, ◌≤◌, ◌↔◌, Bool, true, false, not, nat_eq, List, [], ◌∷◌, length, get_or, refl, sym, ◌∙◌, ap, subst, arith}
use Rattle.std.specs.Prelude.{decimal, ℤ, pos, negsuc, IsTrue, codes}
use Rattle.std.specs.List.Sorted.{IsStrictlyIncreasing}
use Rattle.std.specs.Str.Parse.{AllDigits}
use Rattle.std.proofs.lemmas.Bool.{ne_eqb}
use Rattle.std.proofs.lemmas.Fmt.{decimal_digit, decimal_injective, decimal_is_IsNumeral}
use Rattle.std.proofs.lemmas.Str.Parse.{digit_at}
use Rattle.hy_text.specs.Cuts.{cut_at}
use Rattle.cert_text.specs.Lines.{Speaks, Say}
use Rattle.cert_text.specs.LineParts.{SaysAscending}
use Rattle.hy_text.specs.Numbers.{SaysNumber}
use Rattle.cert_text.specs.Numbers.{SaysCount, SaysLiteral, SaysMembers}
use Rattle.cert_text.proofs.Cutting.{pieces_some}

small : (n : ℕ) → n < 10 ^ 10 → n < 2 ^ 64
small n short = omega arith

pub same_number : (word : List ℕ) (m n : ℕ) → SaysNumber word m → SaysNumber word n → m ≡ n
same_number word m n says also =
    decimal_injective m n (small m says.short) (small n also.short)
    (sym says.spelled ∙ also.spelled)

-- ---- numbers from 1 on

pub count_answer : (word : List ℕ) (n : ℕ) → SaysNumber word n
    → IsTrue (not (nat_eq n 0)) ↔ Speaks SaysCount word
count_answer word zero says = (
  λ (yes : false ≡ true). absurd (cc),
  λ (n, also). absurd (omega (arith, same_number word 0 n says also.number, also.some)),
)
count_answer word (suc n) says =
    let some : suc n ≢ 0 = λ e. absurd (omega (arith, e)) in (
      λ _. (
        suc n,
        record {
          number = says;
          some =
              omega arith;
        },
      ),
      λ _. ap not (ne_eqb (suc n) 0 some),
    )

-- ---- literals

-- two tests that follow one another
pub through : {A B C : Type 0} → A ↔ B → B ↔ C → A ↔ C
through one two = (λ a. two.0 (one.0 a), λ c. one.1 (two.1 c))

count-literal : (word : List ℕ) (n : ℕ) → SaysCount word n → Speaks SaysLiteral (45 ∷ word)
count-literal word zero says = absurd (omega (arith, says.some))
count-literal word (suc n) says = (
  negsuc n,
  record {
    spelled = ap (λ w. 45 ∷ w) says.number.spelled;
    some = omega arith;
    short = says.number.short;
  },
)

pub minus_apart : (word : List ℕ) (n : ℕ) → n < 10 ^ 10 → 45 ∷ word ≢ decimal n
minus_apart word n short e =
    let digits = subst (AllDigits 10) (sym e) (decimal_is_IsNumeral n (small n short)).0.1 in
    absurd (omega (arith, digit_at (45 ∷ word) 0 digits (omega arith)))

literal-count : (word : List ℕ) (l : ℤ) → SaysLiteral (45 ∷ word) l → Speaks SaysCount word
literal-count word (pos n) says = absurd (minus_apart word n says.short says.spelled)
literal-count word (negsuc n) says =
    let spelled : word ≡ decimal (suc n) = cc (says.spelled) in (
      suc n,
      record {
        number = record { spelled = spelled; short = says.short };
        some =
            omega arith;
      },
    )

-- a minus and a number
pub minus_literal : (word : List ℕ) → Speaks SaysCount word ↔ Speaks SaysLiteral (45 ∷ word)
minus_literal word =
    (λ (n, says). count-literal word n says, λ (l, says). literal-count word l says)

plain-count : (word : List ℕ) (l : ℤ) → ((rest : List ℕ) → word ≢ 45 ∷ rest)
    → SaysLiteral word l → Speaks SaysCount word
plain-count word (pos n) plain says =
    (n, record { number = record { spelled = says.spelled; short = says.short }; some = says.some })
plain-count word (negsuc n) plain says = absurd (plain (decimal (suc n)) says.spelled)

-- no minus
pub plain_literal : (word : List ℕ) → ((rest : List ℕ) → word ≢ 45 ∷ rest)
    → Speaks SaysCount word ↔ Speaks SaysLiteral word
plain_literal word plain = (
  λ (n, says). (
    pos n,
    record { spelled = says.number.spelled; some = says.some; short = says.number.short },
  ),
  λ (l, says). plain-count word l plain says,
)

pub literal_minus : (word variable : List ℕ) → word ≡ 45 ∷ variable
    → Speaks SaysCount variable ↔ Speaks SaysLiteral word
literal_minus word variable e =
    let P : List ℕ → Type 0 = λ w. Speaks SaysCount variable ↔ Speaks SaysLiteral w in
    subst P (sym e) (minus_literal variable)

-- 0 is no number from 1 on, and no literal.
pub zero_no_count : ¬ Speaks SaysCount (codes "0")
zero_no_count (n, says) =
    let zero_said : SaysNumber (codes "0") 0 = record {
      spelled = sym (decimal_digit 0 (omega arith));
      short = omega arith;
    } in
    absurd (omega (arith, same_number (codes "0") 0 n zero_said says.number, says.some))

pub zero_no_literal : ¬ Speaks SaysLiteral (codes "0")
zero_no_literal says =
    zero_no_count ((plain_literal (codes "0") apart).1 says)
  where
    apart : (rest : List ℕ) → codes "0" ≢ 45 ∷ rest
    apart rest e = absurd (omega (arith, ap (λ w. get_or w 0 0) e))

-- ---- ascending numbers

rising_more : (x : ℕ) (ks : List ℕ) → IsStrictlyIncreasing ks
    → (0 < length ks → x < get_or ks 0 0) → IsStrictlyIncreasing (x ∷ ks)
rising_more x ks rising low zero lt = low (omega arith)
rising_more x ks rising low (suc k) lt =
    let next : suc k + 1 ≡ suc (k + 1) = omega arith in
    let P : ℕ → Type 0 = λ m. get_or ks k 0 < get_or (x ∷ ks) m 0 in
    subst P (sym next) (rising k (omega arith))

rising_rest : (x : ℕ) (ks : List ℕ) → IsStrictlyIncreasing (x ∷ ks) → IsStrictlyIncreasing ks
rising_rest x ks rising k lt =
    let next : suc k + 1 ≡ suc (k + 1) = omega arith in
    let P : ℕ → Type 0 = λ m. get_or ks k 0 < get_or (x ∷ ks) m 0 in
    subst P next (rising (suc k) (omega arith))

-- The words are ascending numbers, the first of them at least so large.
abbrev pub AscendFrom : ℕ → List (List ℕ) → Type 0
AscendFrom least [] = Unit {0}
AscendFrom least (word ∷ words) =
    (n : ℕ) × SaysNumber word n × (least ≤ n) × AscendFrom (suc n) words

pub record AreAscending (least : ℕ) (words : List (List ℕ)) : Type 0 where
  pub values : List ℕ
  pub said : Say SaysNumber words values
  pub rising : IsStrictlyIncreasing values
  pub low : 0 < length values → least ≤ get_or values 0 0

pub ascending_said : (least : ℕ) (words : List (List ℕ)) → AscendFrom least words
    → AreAscending least words
ascending_said least [] ascend = record {
  values = [];
  said = tt;
  rising = λ k lt. absurd (omega arith);
  low = λ some. absurd (omega arith);
}
ascending_said least (word ∷ words) (n, says, le, ascend) =
    let more = ascending_said (suc n) words ascend in
    record {
      values = n ∷ more.values;
      said = (says, more.said);
      rising = rising_more n more.values more.rising more.low;
      low = λ _. le;
    }

pub said_ascending : (least : ℕ) (words : List (List ℕ)) (values : List ℕ)
    → Say SaysNumber words values → IsStrictlyIncreasing values
    → (0 < length values → least ≤ get_or values 0 0) → AscendFrom least words
said_ascending least [] values said rising low = tt
said_ascending least (word ∷ words) [] said rising low = absurd said
said_ascending least (word ∷ words) (n ∷ values) (says, said) rising low = (
  n,
  says,
  low (omega arith),
  said_ascending (suc n) words values said (rising_rest n values rising)
      (λ some. rising 0 (omega arith)),
)

-- one number more
pub ascend_step : (least n : ℕ) (word : List ℕ) (words : List (List ℕ)) → SaysNumber word n
    → least ≤ n → AscendFrom least (word ∷ words) ↔ AscendFrom (n + 1) words
ascend_step least n word words says le =
    let P : ℕ → Type 0 = λ m. AscendFrom m words in (
      λ (m, also, low, ascend).
          let next : suc m ≡ n + 1 = omega (arith, same_number word m n also says) in
          subst P next ascend,
      λ ascend. let next : n + 1 ≡ suc n = omega arith in (n, says, le, subst P next ascend),
    )

-- a word that is no number, or one that is too small
pub ascend_below : (least : ℕ) (word : List ℕ) (words : List (List ℕ))
    → ((n : ℕ) → SaysNumber word n → n < least) → ¬ AscendFrom least (word ∷ words)
ascend_below least word words below (n, says, low, ascend) =
    absurd (omega (arith, below n says))

-- ---- the answers of the reader of ascending numbers

-- all words, and those that are left
abbrev pub AscendLeft : List (List ℕ) → ℕ → List (List ℕ) → Type 0
AscendLeft words least left = AscendFrom 0 words ↔ AscendFrom least left

pub ascend_more : (words left rest : List (List ℕ)) (word : List ℕ) (least n : ℕ)
    → AscendLeft words least left → left ≡ word ∷ rest → SaysNumber word n → least ≤ n
    → AscendLeft words (n + 1) rest
ascend_more words left rest word least n ascend cut says le =
    through (subst (AscendLeft words least) cut ascend) (ascend_step least n word rest says le)

pub ascend_all : (text : List ℕ) (left : List (List ℕ)) (word : List ℕ) (least n : ℕ)
    → AscendLeft (cut_at 44 text) least left → left ≡ word ∷ [] → SaysNumber word n → least ≤ n
    → Speaks SaysAscending text
ascend_all text left word least n ascend cut says le =
    let last : AscendFrom least (word ∷ []) = (n, says, le, tt) in
    let whole = (subst (AscendLeft (cut_at 44 text) least) cut ascend).1 last in
    let are = ascending_said 0 (cut_at 44 text) whole in
    (are.values, (are.said, are.rising))

-- What begins so is no ascending list.
pub ascend_bad : (text : List ℕ) (left rest : List (List ℕ)) (word : List ℕ) (least : ℕ)
    → AscendLeft (cut_at 44 text) least left → left ≡ word ∷ rest
    → ¬ AscendFrom least (word ∷ rest) → ¬ Speaks SaysAscending text
ascend_bad text left rest word least ascend cut bad (values, (said, rising)) =
    let whole = said_ascending 0 (cut_at 44 text) values said rising (λ _. omega arith) in
    bad ((subst (AscendLeft (cut_at 44 text) least) cut ascend).0 whole)

-- Members that are no dash are an ascending list.
pub members_said : (word : List ℕ) (ascending : Bool) → word ≢ codes "-"
    → IsTrue ascending ↔ Speaks SaysAscending word → IsTrue ascending ↔ Speaks SaysMembers word
members_said word ascending no_dash some = (
  λ yes. members (some.0 yes),
  λ (ks, says). some.1 (listed ks says),
)
  where
    said-none : (ps : List (List ℕ)) → cut_at 44 word ≡ ps → ¬ Say SaysNumber ps []
    said-none [] e said = pieces_some 44 word e
    said-none (p ∷ ps) e said = said

    members : Speaks SaysAscending word → Speaks SaysMembers word
    members ([], (said, rising)) = absurd (said-none (cut_at 44 word) refl said)
    members (k ∷ ks, (said, rising)) = (k ∷ ks, (said, rising))

    listed : (ks : List ℕ) → SaysMembers word ks → Speaks SaysAscending word
    listed [] says = absurd (no_dash says)
    listed (k ∷ ks) (said, rising) = (k ∷ ks, (said, rising))

-- What readers of learned clauses keep: the values of the words so far, made short.
use Rattle.std.proofs.Common.{◌≡◌, ℕ, zero, suc, ◌↔◌, Bool, true, false, List, [], ◌∷◌, ◌++◌, map, refl, sym, ◌∙◌, ap, arith, append_assoc}
use Rattle.std.specs.Prelude.{codes, ℤ, pos, neg_ℤ, IsTrue}
use Rattle.std.proofs.lemmas.List.{map-append}
use Rattle.chain_check.specs.Clauses.{Clause}
use Rattle.hy_text.specs.Numbers.{SaysNumber}
use Rattle.cert_text.specs.Lines.{Line, words_of, Say}
use Rattle.cert_text.specs.LineParts.{IsChain}
use Rattle.cert_text.specs.Numbers.{SaysCount, SaysLiteral, SayEnded}
use Rattle.cert_text.specs.Shortened.{short_literal, short_number, IsChainRead, IsLearnedRead}
use Rattle.cert_text.proofs.Learned.{learned_said}
use Rattle.cert_text.proofs.NumbersRead.{same_number}
use Rattle.cert_text.proofs.WordsRead.{EndedLeft, ended_last}

-- ---- literals

-- a minus and a number
pub opposite_said : (word variable : List ℕ) (n : ℕ) → word ≡ 45 ∷ variable → SaysCount variable n
    → SaysLiteral word (neg_ℤ (pos n))
opposite_said word variable zero e says = absurd (omega (arith, says.some))
opposite_said word variable (suc n) e says = record {
  spelled = e ∙ ap (λ w. 45 ∷ w) says.number.spelled;
  some = omega arith;
  short = says.number.short;
}

-- 0 is no number from 1 on.
pub no_count : (word : List ℕ) (n : ℕ) → SaysNumber word n → n ≡ 0 → (m : ℕ) → ¬ SaysCount word m
no_count word n says zero_is m counts =
    omega (arith, same_number word m n counts.number says, counts.some, zero_is)

-- ---- words that are read one after another

say_more : {A : Type 0} (Says : List ℕ → A → Type 0) (front : List (List ℕ)) (xs : List A)
    (word : List ℕ) (x : A) → Say Says front xs → Says word x
    → Say Says (front ++ word ∷ []) (xs ++ x ∷ [])
say_more Says [] [] word x said says = (says, tt)
say_more Says [] (y ∷ xs) word x said says = absurd said
say_more Says (w ∷ front) [] word x said says = absurd said
say_more Says (w ∷ front) (y ∷ xs) word x (first, said) says =
    (first, say_more Says front xs word x said says)

-- The words before those that are left each say a value, and this is kept of them.
pub record AreKept {A : Type 0} (Says : List ℕ → A → Type 0) (short : A → A)
    (words left : List (List ℕ)) (kept : List A) : Type 0 where
  pub front : List (List ℕ)
  pub values : List A
  pub parts : words ≡ front ++ left
  pub said : Say Says front values
  pub same : kept ≡ map short values

pub none_kept : {A : Type 0} (Says : List ℕ → A → Type 0) (short : A → A)
    (words : List (List ℕ)) (kept : List A) → kept ≡ [] → AreKept Says short words words kept
none_kept Says short words kept none = record {
  front = [];
  values = [];
  parts = refl;
  said = tt;
  same = none;
}

pub one_kept : {A : Type 0} (Says : List ℕ → A → Type 0) (short : A → A)
    (words left more : List (List ℕ)) (word : List ℕ) (x y : A) (kept now : List A)
    → AreKept Says short words left kept → left ≡ word ∷ more → Says word x → y ≡ short x
    → now ≡ kept ++ y ∷ [] → AreKept Says short words more now
one_kept Says short words left more word x y kept now before cut says is added = record {
  front = before.front ++ word ∷ [];
  values = before.values ++ x ∷ [];
  parts =
      before.parts ∙ ap (λ l. before.front ++ l) cut
      ∙ sym (append_assoc before.front (word ∷ []) more);
  said = say_more Says before.front before.values word x before.said says;
  same =
      added ∙ ap (λ l. l ++ y ∷ []) before.same
      ∙ ap (λ z. map short before.values ++ z ∷ []) is
      ∙ sym (map-append short before.values (x ∷ []));
}

-- The 0 stands here.
pub all_kept : {A : Type 0} (Says : List ℕ → A → Type 0) (short : A → A)
    (words left rest : List (List ℕ)) (word : List ℕ) (kept : List A)
    → AreKept Says short words left kept → left ≡ word ∷ rest → word ≡ codes "0"
    → (values : List A) × SayEnded Says words values rest × (kept ≡ map short values)
all_kept Says short words left rest word kept before cut is = (
  before.values,
  (
    before.front,
    before.parts ∙ ap (λ l. before.front ++ l) (cut ∙ ap (λ w. w ∷ rest) is),
    before.said,
  ),
  before.same,
)

-- ---- learned clauses

-- The last word is the 0 of a chain, or it is none.
pub chain_read : (text word : List ℕ) (kept : List ℕ) (yes : Bool)
    → EndedLeft SaysCount (words_of text) (words_of word)
    → AreKept SaysCount short_number (words_of text) (words_of word) kept
    → words_of word ≡ word ∷ [] → IsTrue yes ↔ (word ≡ codes "0") → IsChainRead text yes kept
chain_read text word kept true ended before cut is =
    all_kept SaysCount short_number (words_of text) (words_of word) [] word kept before cut
    (is.0 refl)
chain_read text word kept false ended before cut is = λ chain said.
    let yes : false ≡ true = is.1 (ended_last SaysCount (words_of text) (words_of word) word ended
    cut [] chain said).0 in
    absurd (cc)

pub learned_read : (line entry rest : Line) (yes : Bool) (kept : List ℤ) (numbers : List ℕ)
    (clause : Clause) → words_of line ≡ codes "c" ∷ words_of entry
    → SayEnded SaysLiteral (words_of entry) clause (words_of rest)
    → kept ≡ map short_literal clause → IsChainRead rest yes numbers
    → IsLearnedRead line yes kept numbers
learned_read line entry rest true kept numbers clause cut said same (chain, ends, chain_same) = (
  record { clause = clause; chain = chain },
  (words_of entry, words_of rest, cut, said, ends),
  same,
  chain_same,
)
learned_read line entry rest false kept numbers clause cut said same none = λ speaks.
    let yes : false ≡ true = (learned_said line entry rest clause false cut said no_chain).1 speaks
    in
    absurd (cc)
  where
    no_chain : IsTrue false ↔ IsChain rest
    no_chain = (λ (yes : false ≡ true). absurd (cc), λ (chain, ends). absurd (none chain ends))

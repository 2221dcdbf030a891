-- A line says one value of its kind.
use Rattle.std.proofs.Common.{◌≡◌, ◌≢◌, ℕ, suc, ◌^◌, ◌<◌, ◌⊎◌, Bool, true, false, List, [], ◌∷◌, ◌++◌, length, get_or, map, inl, inr, refl, sym, ◌∙◌, ap, subst, arith, Some, None}
use Rattle.std.specs.Prelude.{codes, ℤ, pos, negsuc, unsigned_abs}
use lib.Signed.{mag}
use Rattle.std.proofs.lemmas.Fmt.{signed_decimal_injective}
use Rattle.aig_net.specs.RunTexts.{digit}
use Rattle.cnf_frames.specs.declared.facts.Fact.{Fact}
use Rattle.cnf_frames.specs.declared.facts.Fact.TheVariants.{Zero, One, Same, Differ, AnyOf}
use Rattle.hy_text.specs.Cuts.{cut_at}
use Rattle.cert_text.specs.Lines.{Line, words_of, Say}
use Rattle.hy_text.specs.Numbers.{SaysNumber}
use Rattle.cert_text.specs.Numbers.{SaysCount, SaysLiteral, SaysMembers, SayEnded}
use Rattle.cert_text.specs.RankLines.{SaysBranch, SaysReason}
use Rattle.cert_text.specs.InductionLines.{SaysSimple, SaysLiterals, SaysFact, SaysLearned}
use Rattle.cert_text.specs.RunLines.{SaysRow, SaysStem, SaysCycle, SaysRun}
use Rattle.cert_text.proofs.Lists.{tails}
use Rattle.cert_text.proofs.NumbersRead.{same_number, minus_apart, zero_no_count, zero_no_literal}
use Rattle.cert_text.proofs.Stepping.{same_second, same_two}

-- ---- values one after another

-- The same text says one value.
abbrev pub SaysOnce : {A : Type 0} → (List ℕ → A → Type 0) → Type 0
SaysOnce {A} Says = (text : List ℕ) (x y : A) → Says text x → Says text y → x ≡ y

-- of two texts that are one
joined-once : {A : Type 0} (Says : List ℕ → A → Type 0) → SaysOnce Says → (s t : List ℕ) (x y : A)
    → s ≡ t → Says s x → Says t y → x ≡ y
joined-once Says once s t x y same one two =
    let P : List ℕ → Type 0 = λ w. Says w x in once t x y (subst P same one) two

pub say_once : {A : Type 0} (Says : List ℕ → A → Type 0) → SaysOnce Says
    → (texts : List (List ℕ)) (xs ys : List A) → Say Says texts xs → Say Says texts ys → xs ≡ ys
say_once Says once [] [] [] one two = refl
say_once Says once [] [] (y ∷ ys) one two = absurd two
say_once Says once [] (x ∷ xs) ys one two = absurd one
say_once Says once (text ∷ texts) [] ys one two = absurd one
say_once Says once (text ∷ texts) (x ∷ xs) [] one two = absurd two
say_once Says once (text ∷ texts) (x ∷ xs) (y ∷ ys) (says, one) (also, two) =
    ap (λ v. v ∷ xs) (once text x y says also)
    ∙ ap (λ l. y ∷ l) (say_once Says once texts xs ys one two)

pub say_long : {A : Type 0} (Says : List ℕ → A → Type 0) (texts : List (List ℕ)) (xs : List A)
    → Say Says texts xs → length texts ≡ length xs
say_long Says [] [] said = refl
say_long Says [] (x ∷ xs) said = absurd said
say_long Says (text ∷ texts) [] said = absurd said
say_long Says (text ∷ texts) (x ∷ xs) (says, said) = ap suc (say_long Says texts xs said)

-- ---- numbers

pub one_count : SaysOnce SaysCount
one_count word m n says also = same_number word m n says.number also.number

small : (l : ℤ) → unsigned_abs l < 10 ^ 10 → mag l < 2 ^ 63
small (pos n) short = omega arith
small (negsuc n) short = omega arith

pub one_literal : SaysOnce SaysLiteral
one_literal word l m says also =
    signed_decimal_injective l m (small l says.short) (small m also.short)
    (sym says.spelled ∙ also.spelled)

no-dash : (word : List ℕ) (k : ℕ) (ks : List ℕ) → word ≡ codes "-"
    → ¬ Say SaysNumber (cut_at 44 word) (k ∷ ks)
no-dash word k ks dash said =
    let P : List ℕ → Type 0 = λ w. Say SaysNumber (cut_at 44 w) (k ∷ ks) in
    let (says, more) = subst P dash said in
    minus_apart [] k says.short says.spelled

pub one_set : SaysOnce SaysMembers
one_set word [] [] one two = refl
one_set word [] (m ∷ ms) dash (said, rising) = absurd (no-dash word m ms dash said)
one_set word (k ∷ ks) [] (said, rising) dash = absurd (no-dash word k ks dash said)
one_set word (k ∷ ks) (m ∷ ms) (one, rising) (two, also) =
    say_once SaysNumber same_number (cut_at 44 word) (k ∷ ks) (m ∷ ms) one two

-- ---- branches and reasons

pub one_branch : SaysOnce SaysBranch
one_branch line b c (x, y, z, words, rank, now, next) (u, v, w, others, rank2, now2, next2) =
    let both = sym words ∙ others in
    let first : x ≡ u = cc in
    let second : y ≡ v = cc in
    let third : z ≡ w = cc in
    λ i. record {
      rank = joined-once SaysNumber same_number x u b.rank c.rank first rank rank2 i;
      now = joined-once SaysMembers one_set y v b.now c.now second now now2 i;
      next = joined-once SaysMembers one_set z w b.next c.next third next next2 i;
    }

no-reason : (line : Line) (until : ℕ) → line ≡ codes "n" → ¬ SaysReason line (Some until)
no-reason line until is (word, words, says) =
    let clash : codes "n" ∷ [] ≡ codes "u" ∷ word ∷ [] = sym (ap words_of is) ∙ words in
    let none : [] ≡ word ∷ [] = cc in
    absurd (omega (arith, ap length none))

pub one_reason : SaysOnce SaysReason
one_reason line None None one two = refl
one_reason line None (Some until) one two = absurd (no-reason line until one two)
one_reason line (Some until) None one two = absurd (no-reason line until two one)
one_reason line (Some m) (Some n) (x, words, says) (y, others, also) =
    let both = sym words ∙ others in
    let same : x ≡ y = cc in
    ap Some (joined-once SaysNumber same_number x y m n same says also)

-- ---- facts

signs : (line s t : List ℕ) (ws vs : List (List ℕ)) → words_of line ≡ codes "f" ∷ s ∷ ws
    → words_of line ≡ codes "f" ∷ t ∷ vs → get_or s 0 0 ≡ get_or t 0 0
signs line s t ws vs one two =
    let both = sym one ∙ two in
    let same : s ≡ t = cc in
    ap (λ w. get_or w 0 0) same

one_simple : SaysOnce SaysSimple
one_simple line (Zero a) (Zero b) one two = ap Zero (same_second (codes "f") (codes "0") line a b one two)
one_simple line (One a) (One b) one two = ap One (same_second (codes "f") (codes "1") line a b one two)
one_simple line (Same a b) (Same p q) one two =
    let (first, second) = same_two (codes "f") (codes "=") line a b p q one two in
    λ i. Same (first i) (second i)
one_simple line (Differ a b) (Differ p q) one two =
    let (first, second) = same_two (codes "f") (codes "!") line a b p q one two in
    λ i. Differ (first i) (second i)
one_simple line (Zero a) (One b) one two = absurd (omega (arith, signs line _ _ _ _ one.1 two.1))
one_simple line (Zero a) (Same p q) one two = absurd (omega (arith, signs line _ _ _ _ one.1 two.2))
one_simple line (Zero a) (Differ p q) one two = absurd (omega (arith, signs line _ _ _ _ one.1 two.2))
one_simple line (One a) (Zero b) one two = absurd (omega (arith, signs line _ _ _ _ one.1 two.1))
one_simple line (One a) (Same p q) one two = absurd (omega (arith, signs line _ _ _ _ one.1 two.2))
one_simple line (One a) (Differ p q) one two = absurd (omega (arith, signs line _ _ _ _ one.1 two.2))
one_simple line (Same a b) (Zero p) one two = absurd (omega (arith, signs line _ _ _ _ one.2 two.1))
one_simple line (Same a b) (One p) one two = absurd (omega (arith, signs line _ _ _ _ one.2 two.1))
one_simple line (Same a b) (Differ p q) one two =
    absurd (omega (arith, signs line _ _ _ _ one.2 two.2))
one_simple line (Differ a b) (Zero p) one two = absurd (omega (arith, signs line _ _ _ _ one.2 two.1))
one_simple line (Differ a b) (One p) one two = absurd (omega (arith, signs line _ _ _ _ one.2 two.1))
one_simple line (Differ a b) (Same p q) one two =
    absurd (omega (arith, signs line _ _ _ _ one.2 two.2))
one_simple line (Zero a) (AnyOf ls) one two = absurd two
one_simple line (One a) (AnyOf ls) one two = absurd two
one_simple line (Same a b) (AnyOf ls) one two = absurd two
one_simple line (Differ a b) (AnyOf ls) one two = absurd two
one_simple line (AnyOf ls) g one two = absurd one

-- A clause is no fact about one latch or two.
no-simple : (line : Line) (fact : Fact) (ls : List ℕ) → SaysSimple line fact
    → ¬ SaysLiterals line ls
no-simple line (Zero a) ls one two = absurd (omega (arith, signs line _ _ _ _ one.1 two.1))
no-simple line (One a) ls one two = absurd (omega (arith, signs line _ _ _ _ one.1 two.1))
no-simple line (Same a b) ls one two = absurd (omega (arith, signs line _ _ _ _ one.2 two.1))
no-simple line (Differ a b) ls one two = absurd (omega (arith, signs line _ _ _ _ one.2 two.1))
no-simple line (AnyOf ms) ls one two = one

one-clause : SaysOnce SaysLiterals
one-clause line ls ms (words, parts, said, some) (others, too, also, more) =
    let same : words ≡ others = tails (tails (sym parts ∙ too)) in
    let P : List (List ℕ) → Type 0 = λ l. Say SaysNumber l ls in
    say_once SaysNumber same_number others ls ms (subst P same said) also

-- The fact is simple, or a clause.
sorts : (clauses : Bool) (line : Line) (fact : Fact) → SaysFact clauses line fact
    → SaysSimple line fact ⊎ ((ls : List ℕ) × (fact ≡ AnyOf ls) × SaysLiterals line ls)
sorts clauses line (Zero a) says = inl says
sorts clauses line (One a) says = inl says
sorts clauses line (Same a b) says = inl says
sorts clauses line (Differ a b) says = inl says
sorts clauses line (AnyOf ls) (taken, says) = inr (ls, refl, says)

pub one_fact : (clauses : Bool) → SaysOnce (SaysFact clauses)
one_fact clauses line f g one two = of (sorts clauses line f one) (sorts clauses line g two)
  where
    of : SaysSimple line f ⊎ ((ls : List ℕ) × (f ≡ AnyOf ls) × SaysLiterals line ls)
        → SaysSimple line g ⊎ ((ls : List ℕ) × (g ≡ AnyOf ls) × SaysLiterals line ls) → f ≡ g
    of (inl says) (inl also) = one_simple line f g says also
    of (inl says) (inr (ms, is, also)) = absurd (no-simple line f ms says also)
    of (inr (ls, is, says)) (inl also) = absurd (no-simple line g ls also says)
    of (inr (ls, is, says)) (inr (ms, too, also)) =
        is ∙ ap AnyOf (one-clause line ls ms says also) ∙ sym too

-- ---- learned clauses

module _ {A : Type 0} (Says : List ℕ → A → Type 0) (once : SaysOnce Says)
    (no_zero : (x : A) → ¬ Says (codes "0") x) where
  fronts-once : (front other rest more : List (List ℕ)) (xs ys : List A)
      → front ++ codes "0" ∷ rest ≡ other ++ codes "0" ∷ more → Say Says front xs
      → Say Says other ys → (xs ≡ ys) × (rest ≡ more)
  fronts-once [] [] rest more [] [] e one two = let same : rest ≡ more = cc in (refl, same)
  fronts-once [] [] rest more [] (y ∷ ys) e one two = absurd two
  fronts-once [] other rest more (x ∷ xs) ys e one two = absurd one
  fronts-once [] (w ∷ other) rest more [] [] e one two = absurd two
  fronts-once [] (w ∷ other) rest more [] (y ∷ ys) e one (also, two) =
      let zero_is : w ≡ codes "0" = cc in
      let P : List ℕ → Type 0 = λ t. Says t y in absurd (no_zero y (subst P zero_is also))
  fronts-once (w ∷ front) other rest more [] ys e one two = absurd one
  fronts-once (w ∷ front) [] rest more (x ∷ xs) ys e (says, one) two =
      let zero_is : w ≡ codes "0" = cc in
      let P : List ℕ → Type 0 = λ t. Says t x in absurd (no_zero x (subst P zero_is says))
  fronts-once (w ∷ front) (v ∷ other) rest more (x ∷ xs) [] e one two = absurd two
  fronts-once (w ∷ front) (v ∷ other) rest more (x ∷ xs) (y ∷ ys) e (says, one) (also, two) =
      let first : w ≡ v = cc in
      let tail : front ++ codes "0" ∷ rest ≡ other ++ codes "0" ∷ more = cc in
      let (same, behind) = fronts-once front other rest more xs ys tail one two in
      let P : List ℕ → Type 0 = λ t. Says t x in
      let value = once v x y (subst P first says) also in
      (ap (λ z. z ∷ xs) value ∙ ap (λ l. y ∷ l) same, behind)

  pub ended_same : (words rest more : List (List ℕ)) (xs ys : List A) → SayEnded Says words xs rest
      → SayEnded Says words ys more → (xs ≡ ys) × (rest ≡ more)
  ended_same words rest more xs ys (front, parts, said) (other, others, also) =
      fronts-once front other rest more xs ys (sym parts ∙ others) said also

pub one_entry : SaysOnce SaysLearned
one_entry line e f (words, rest, parts, clause, chain) (others, more, too, clause2, chain2) =
    let both = sym parts ∙ too in
    let same : words ≡ others = cc in
    let P : List (List ℕ) → Type 0 = λ l. SayEnded SaysLiteral l e.clause rest in
    let (literals, behind) = ended_same SaysLiteral one_literal (λ l says. zero_no_literal
    (l, says))
    others rest more e.clause f.clause (subst P same clause) clause2 in
    let Q : List (List ℕ) → Type 0 = λ l. SayEnded SaysCount l e.chain [] in
    let (numbers, none) = ended_same SaysCount one_count (λ k says. zero_no_count (k, says)) more
    [] []
    e.chain f.chain (subst Q behind chain) chain2 in
    λ i. record { clause = literals i; chain = numbers i }

-- ---- runs

one-digit : (b c : Bool) → digit b ≡ digit c → b ≡ c
one-digit true true e = refl
one-digit true false e = absurd (omega (arith, e))
one-digit false true e = absurd (omega (arith, e))
one-digit false false e = refl

one-digits : (xs ys : List Bool) → map digit xs ≡ map digit ys → xs ≡ ys
one-digits [] [] e = refl
one-digits [] (y ∷ ys) e = absurd (cc)
one-digits (x ∷ xs) [] e = absurd (cc)
one-digits (x ∷ xs) (y ∷ ys) e =
    let first : digit x ≡ digit y = cc in
    let rest : map digit xs ≡ map digit ys = cc in
    ap (λ b. b ∷ xs) (one-digit x y first) ∙ ap (λ l. y ∷ l) (one-digits xs ys rest)

dash-digit : (b : Bool) → 45 ≢ digit b
dash-digit true e = absurd (omega (arith, e))
dash-digit false e = absurd (omega (arith, e))

pub one_row : SaysOnce SaysRow
one_row word [] [] one two = refl
one_row word [] (b ∷ row) one two =
    absurd (dash-digit b (ap (λ w. get_or w 0 0) (sym one ∙ two)))
one_row word (b ∷ row) [] one two =
    absurd (dash-digit b (ap (λ w. get_or w 0 0) (sym two ∙ one)))
one_row word (b ∷ row) (c ∷ other) one two = one-digits (b ∷ row) (c ∷ other) (sym one ∙ two)

one-cycle : SaysOnce SaysCycle
one-cycle text rows others one two = say_once SaysRow one_row (cut_at 59 text) rows others one two

-- no row is empty
no-empty : (rows : List (List Bool)) → ¬ SaysCycle [] rows
no-empty [] said = said
no-empty ([] ∷ rows) (says, said) = absurd (cc)
no-empty ((b ∷ row) ∷ rows) (says, said) = absurd (cc)

no-stem : (text : List ℕ) (rows : List (List Bool)) → text ≡ [] → ¬ SaysCycle text rows
no-stem text rows none said =
    let P : List ℕ → Type 0 = λ t. SaysCycle t rows in no-empty rows (subst P none said)

one-stem : SaysOnce SaysStem
one-stem text [] [] one two = refl
one-stem text [] (row ∷ rows) one two = absurd (no-stem text (row ∷ rows) one two)
one-stem text (row ∷ rows) [] one two = absurd (no-stem text (row ∷ rows) two one)
one-stem text (row ∷ rows) (other ∷ others) one two =
    one-cycle text (row ∷ rows) (other ∷ others) one two

pub one_run : SaysOnce SaysRun
one_run line r q (f, rows, s, c, words, parts, first, stem, cycle)
    (f2, rows2, s2, c2, words2, parts2, first2, stem2, cycle2) =
    let both = sym words ∙ words2 in
    let same_first : f ≡ f2 = cc in
    let same_rows : rows ≡ rows2 = cc in
    let halves : s ∷ c ∷ [] ≡ s2 ∷ c2 ∷ [] = sym parts ∙ ap (cut_at 124) same_rows ∙ parts2 in
    let same_stem : s ≡ s2 = cc in
    let same_cycle : c ≡ c2 = cc in
    λ i. record {
      first = joined-once SaysRow one_row f f2 r.first q.first same_first first first2 i;
      stem = joined-once SaysStem one-stem s s2 r.stem q.stem same_stem stem stem2 i;
      cycle = joined-once SaysCycle one-cycle c c2 r.cycle q.cycle same_cycle cycle cycle2 i;
    }

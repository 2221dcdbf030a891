-- Rows of counted lines: which are right, how large their numbers are, and which variable they define.
use Rattle.std.proofs.Common.{◌≡◌, ℕ, zero, suc, ◌+◌, ◌*◌, ◌/◌, ◌<◌, ◌≤◌, ◌^◌, Bool, true, false, cond, nat_eq, List, [], ◌∷◌, ◌++◌, map, length, get_or, take, drop, refl, sym, ◌∙◌, ap, subst, arith, inl, inr, Option, Some, None}
use Rattle.std.specs.Prelude.{slice_index, slice_index_or, option_to_list, IfSome}
use Rattle.std.proofs.lemmas.Bool.{leb-true, eqb-true, and_parts, or_cases}
use Rattle.aiger_body.specs.declared.header.Header.{Header}
use Rattle.aiger_body.specs.declared.section.Section.{Section}
use Rattle.aiger_body.specs.declared.section.Section.TheVariants.{Inputs, Latches, Outputs, Bads, Constraints, Sizes, Justices, Fairs, Gates}
use Rattle.aiger_body.specs.Texts.{line_text, numbers_of, or_empty, with_number}
use Rattle.aiger_body.specs.Files.{is_literal, is_plain, is_reset, is_right, is_input, is_latch, is_use, is_gate, with_own, defined, rows, row, line, lines, section}
use Rattle.aiger_body.specs.Answers.{Fits}
use Rattle.aiger_body.specs.Keeping.{AreWords, HasWords}
use Rattle.hy_text.proofs.Digits.{no_number}
use Rattle.aiger_body.proofs.Headers.{numbers_small}

-- ---- more than ten numbers are never right

long-wrong : (h : Header) (s : Section) (a b c d : ℕ) (rest : List ℕ) → is_right h s (a ∷ b ∷ c ∷ d ∷ rest) ≡ false
long-wrong h Inputs a b c d rest = refl
long-wrong h Latches a b c d rest = refl
long-wrong h Outputs a b c d rest = refl
long-wrong h Bads a b c d rest = refl
long-wrong h Constraints a b c d rest = refl
long-wrong h Sizes a b c d rest = refl
long-wrong h Justices a b c d rest = refl
long-wrong h Fairs a b c d rest = refl
long-wrong h Gates a b c d rest = refl

pub ten_right : (h : Header) (s : Section) (front ns : List ℕ) → length front ≤ 1 → is_right h s (front ++ take 10 ns) ≡ is_right h s (front ++ ns)
ten_right h s [] [] le = refl
ten_right h s [] (a ∷ []) le = refl
ten_right h s [] (a ∷ b ∷ []) le = refl
ten_right h s [] (a ∷ b ∷ c ∷ []) le = refl
ten_right h s [] (a ∷ b ∷ c ∷ d ∷ ns) le = long-wrong h s a b c d (take 6 ns) ∙ sym (long-wrong h s a b c d ns)
ten_right h s (x ∷ []) [] le = refl
ten_right h s (x ∷ []) (a ∷ []) le = refl
ten_right h s (x ∷ []) (a ∷ b ∷ []) le = refl
ten_right h s (x ∷ []) (a ∷ b ∷ c ∷ ns) le = long-wrong h s x a b c (take 7 ns) ∙ sym (long-wrong h s x a b c ns)
ten_right h s (x ∷ y ∷ front) ns le = absurd (omega arith)

pub ten_same : (h : Header) (s : Section) (front ns : List ℕ) → length front ≤ 1 → is_right h s (front ++ ns) ≡ true → front ++ take 10 ns ≡ front ++ ns
ten_same h s [] [] le e = refl
ten_same h s [] (a ∷ []) le e = refl
ten_same h s [] (a ∷ b ∷ []) le e = refl
ten_same h s [] (a ∷ b ∷ c ∷ []) le e = refl
ten_same h s [] (a ∷ b ∷ c ∷ d ∷ ns) le e = let wrong = long-wrong h s a b c d ns in absurd (cc)
ten_same h s (x ∷ []) [] le e = refl
ten_same h s (x ∷ []) (a ∷ []) le e = refl
ten_same h s (x ∷ []) (a ∷ b ∷ []) le e = refl
ten_same h s (x ∷ []) (a ∷ b ∷ c ∷ ns) le e = let wrong = long-wrong h s x a b c ns in absurd (cc)
ten_same h s (x ∷ y ∷ front) ns le e = absurd (omega arith)

-- ---- what a line says

own-front : (h : Header) (k : ℕ) (s : Section) (raw : List ℕ) → with_own h k s raw ≡ with_own h k s [] ++ raw
own-front h k Inputs raw = refl
own-front h k Latches raw = grind arith
own-front h k Outputs raw = refl
own-front h k Bads raw = refl
own-front h k Constraints raw = refl
own-front h k Sizes raw = refl
own-front h k Justices raw = refl
own-front h k Fairs raw = refl
own-front h k Gates raw = refl

own-short : (h : Header) (k : ℕ) (s : Section) → length (with_own h k s []) ≤ 1
own-short h k Inputs = omega arith
own-short h k Latches = grind arith
own-short h k Outputs = omega arith
own-short h k Bads = omega arith
own-short h k Constraints = omega arith
own-short h k Sizes = omega arith
own-short h k Justices = omega arith
own-short h k Fairs = omega arith
own-short h k Gates = omega arith

row-of-line : (ls : List (List ℕ)) (k : ℕ) → get_or (map (λ l. numbers_of (line_text l)) ls) k [] ≡ numbers_of (line_text (get_or ls k []))
row-of-line [] k = ap (λ o. or_empty (with_number o (Some []))) (no_number [] (λ is. omega (arith, is.some)))
row-of-line (l ∷ ls) zero = refl
row-of-line (l ∷ ls) (suc k) = row-of-line ls k

second : (ls : List (List ℕ)) (k : ℕ) → get_or (drop 1 ls) k [] ≡ get_or ls (suc k) []
second [] k = refl
second (l ∷ ls) k = refl

row-is : (h : Header) (bytes : List ℕ) (k : ℕ) (s : Section) → section h bytes k ≡ s → row h bytes k ≡ with_own h k s [] ++ numbers_of (line_text (line bytes k))
row-is h bytes k s is =
    ap (λ t. with_own h k t (slice_index_or (rows bytes) k [])) is
    ∙ ap (with_own h k s) (row-of-line (drop 1 (lines bytes)) k ∙ ap (λ l. numbers_of (line_text l)) (second (lines bytes) k))
    ∙ own-front h k s (numbers_of (line_text (line bytes k)))

-- whether it is right can be seen from the first ten numbers
pub row_right : (h : Header) (bytes : List ℕ) (k : ℕ) (s : Section) (text said : List ℕ) → section h bytes k ≡ s → text ≡ line bytes k → said ≡ with_own h k s [] ++ take 10 (numbers_of (line_text text)) → is_right h s said ≡ is_right h (section h bytes k) (row h bytes k)
row_right h bytes k s text said is at are =
    ap (is_right h s) (are ∙ ap (λ t. with_own h k s [] ++ take 10 (numbers_of (line_text t))) at)
    ∙ ten_right h s (with_own h k s []) (numbers_of (line_text (line bytes k))) (own-short h k s)
    ∙ ap (is_right h s) (sym (row-is h bytes k s is))
    ∙ ap (λ t. is_right h t (row h bytes k)) (sym is)

pub row_same : (h : Header) (bytes : List ℕ) (k : ℕ) (s : Section) (text said : List ℕ) → section h bytes k ≡ s → text ≡ line bytes k → said ≡ with_own h k s [] ++ take 10 (numbers_of (line_text text)) → is_right h (section h bytes k) (row h bytes k) ≡ true → said ≡ row h bytes k
row_same h bytes k s text said is at are right =
    let whole : is_right h s (with_own h k s [] ++ numbers_of (line_text (line bytes k))) ≡ true = ap (is_right h s) (sym (row-is h bytes k s is)) ∙ ap (λ t. is_right h t (row h bytes k)) (sym is) ∙ right in
    are ∙ ap (λ t. with_own h k s [] ++ take 10 (numbers_of (line_text t))) at
    ∙ ten_same h s (with_own h k s []) (numbers_of (line_text (line bytes k))) (own-short h k s) whole
    ∙ sym (row-is h bytes k s is)

-- ---- how large numbers are

module _ (h : Header) (fits : Fits h) where
  literal-small : (l : ℕ) → is_literal h l ≡ true → l < 2 ^ 32
  literal-small l e = omega (arith, leb-true l (2 * h.top + 1) e, fits.top)

  plain-small : (l : ℕ) → is_plain h l ≡ true → l < 2 ^ 32
  plain-small l e = literal-small l (and_parts (is_literal h l) _ e).0

  one : (l : ℕ) → l < 2 ^ 32 → AreWords (l ∷ [])
  one l lt zero = lt
  one l lt (suc k) = omega arith

  more : (l : ℕ) (ns : List ℕ) → l < 2 ^ 32 → AreWords ns → AreWords (l ∷ ns)
  more l ns lt are zero = lt
  more l ns lt are (suc k) = are k

  input-words : (r : List ℕ) → is_input h r ≡ true → AreWords r
  input-words [] e = absurd (cc)
  input-words (l ∷ []) e = one l (plain-small l e)
  input-words (l ∷ m ∷ r) e = absurd (cc)

  use-words : (r : List ℕ) → is_use h r ≡ true → AreWords r
  use-words [] e = absurd (cc)
  use-words (l ∷ []) e = one l (literal-small l e)
  use-words (l ∷ m ∷ r) e = absurd (cc)

  reset-small : (l r : ℕ) → l < 2 ^ 32 → is_reset l r ≡ true → r < 2 ^ 32
  reset-small l r lt e =
      elim (or_cases (nat_eq r 0) _ e) [
        | inl a ↦ omega (arith, eqb-true r 0 a)
        | inr b ↦ elim (or_cases (nat_eq r 1) _ b) [ inl c ↦ omega (arith, eqb-true r 1 c) | inr d ↦ omega (arith, eqb-true r l d) ]
      ]

  latch-words : (r : List ℕ) → is_latch h r ≡ true → AreWords r
  latch-words [] e = absurd (cc)
  latch-words (l ∷ []) e = absurd (cc)
  latch-words (l ∷ n ∷ []) e = let both = and_parts (is_plain h l) _ e in more l (n ∷ []) (plain-small l both.0) (one n (literal-small n both.1))
  latch-words (l ∷ n ∷ r ∷ []) e =
      let both = and_parts (is_plain h l) _ e in
      let rest = and_parts (is_literal h n) _ both.1 in
      more l (n ∷ r ∷ []) (plain-small l both.0) (more n (r ∷ []) (literal-small n rest.0) (one r (reset-small l r (plain-small l both.0) rest.1)))
  latch-words (l ∷ n ∷ r ∷ s ∷ t) e = absurd (cc)

  gate-words : (r : List ℕ) → is_gate h r ≡ true → AreWords r
  gate-words [] e = absurd (cc)
  gate-words (l ∷ []) e = absurd (cc)
  gate-words (l ∷ a ∷ []) e = absurd (cc)
  gate-words (l ∷ a ∷ b ∷ []) e =
      let both = and_parts (is_plain h l) _ e in
      let rest = and_parts (is_literal h a) _ both.1 in
      more l (a ∷ b ∷ []) (plain-small l both.0) (more a (b ∷ []) (literal-small a rest.0) (one b (literal-small b rest.1)))
  gate-words (l ∷ a ∷ b ∷ c ∷ r) e = absurd (cc)

  pub right_words : (s : Section) (r : List ℕ) → is_right h s r ≡ true → slice_index r 0 < 10 ^ 10 → HasWords s r
  right_words Inputs r e small = input-words r e
  right_words Latches r e small = latch-words r e
  right_words Outputs r e small = use-words r e
  right_words Bads r e small = use-words r e
  right_words Constraints r e small = use-words r e
  right_words Sizes r e small = small
  right_words Justices r e small = use-words r e
  right_words Fairs r e small = use-words r e
  right_words Gates r e small = gate-words r e

  -- ---- which variable is defined

  plain-first : (l : ℕ) → is_plain h l ≡ true → l / 2 ≤ h.top
  plain-first l e = omega (arith, leb-true l (2 * h.top + 1) (and_parts (is_literal h l) _ e).0)

  input-first : (r : List ℕ) → is_input h r ≡ true → slice_index r 0 / 2 ≤ h.top
  input-first [] e = absurd (cc)
  input-first (l ∷ []) e = plain-first l e
  input-first (l ∷ m ∷ r) e = absurd (cc)

  latch-first : (r : List ℕ) → is_latch h r ≡ true → slice_index r 0 / 2 ≤ h.top
  latch-first [] e = absurd (cc)
  latch-first (l ∷ []) e = absurd (cc)
  latch-first (l ∷ n ∷ []) e = plain-first l (and_parts (is_plain h l) _ e).0
  latch-first (l ∷ n ∷ r ∷ []) e = plain-first l (and_parts (is_plain h l) _ e).0
  latch-first (l ∷ n ∷ r ∷ s ∷ t) e = absurd (cc)

  gate-first : (r : List ℕ) → is_gate h r ≡ true → slice_index r 0 / 2 ≤ h.top
  gate-first [] e = absurd (cc)
  gate-first (l ∷ []) e = absurd (cc)
  gate-first (l ∷ a ∷ []) e = absurd (cc)
  gate-first (l ∷ a ∷ b ∷ []) e = plain-first l (and_parts (is_plain h l) _ e).0
  gate-first (l ∷ a ∷ b ∷ c ∷ r) e = absurd (cc)

  same-variable : (o : Option ℕ) (v : ℕ) → option_to_list o ≡ v ∷ [] → v ≤ h.top → IfSome o (λ u. u < h.top + 1)
  same-variable None v e le = tt
  same-variable (Some u) v e le = let same : u ≡ v = cc in omega arith

  no-variable : (o : Option ℕ) → option_to_list o ≡ [] → IfSome o (λ u. u < h.top + 1)
  no-variable None e = tt
  no-variable (Some u) e = absurd (cc)

  pub defined_small : (s : Section) (r : List ℕ) (o : Option ℕ) → is_right h s r ≡ true → option_to_list o ≡ defined s r → IfSome o (λ u. u < h.top + 1)
  defined_small Inputs r o e is = same-variable o _ is (input-first r e)
  defined_small Latches r o e is = same-variable o _ is (latch-first r e)
  defined_small Outputs r o e is = no-variable o is
  defined_small Bads r o e is = no-variable o is
  defined_small Constraints r o e is = no-variable o is
  defined_small Sizes r o e is = no-variable o is
  defined_small Justices r o e is = no-variable o is
  defined_small Fairs r o e is = no-variable o is
  defined_small Gates r o e is = same-variable o _ is (gate-first r e)

-- the first number of a row
own-first : (h : Header) (k : ℕ) (s : Section) (ns : List ℕ) → Fits h → k ≤ 67108864 → slice_index ns 0 < 10 ^ 10 → slice_index (with_own h k s [] ++ ns) 0 < 10 ^ 10
own-first h k Inputs ns fits le lt = lt
own-first h k Latches ns fits le lt = step h.binary
  where
    step : (b : Bool) → slice_index (cond b (2 * (1 + h.inputs + k) ∷ []) [] ++ ns) 0 < 10 ^ 10
    step true = omega (arith, fits.top, fits.sum)
    step false = lt
own-first h k Outputs ns fits le lt = lt
own-first h k Bads ns fits le lt = lt
own-first h k Constraints ns fits le lt = lt
own-first h k Sizes ns fits le lt = lt
own-first h k Justices ns fits le lt = lt
own-first h k Fairs ns fits le lt = lt
own-first h k Gates ns fits le lt = lt

pub first_small : (h : Header) (bytes : List ℕ) (k : ℕ) → Fits h → k ≤ 67108864 → slice_index (row h bytes k) 0 < 10 ^ 10
first_small h bytes k fits le =
    let P : List ℕ → Type 0 = λ r. slice_index r 0 < 10 ^ 10 in
    subst P (sym (row-is h bytes k (section h bytes k) refl)) (own-first h k (section h bytes k) _ fits le (numbers_small (line_text (line bytes k)) 0))

-- Bytes split into tokens in one way, and have one answer.
use Rattle.std.proofs.Common.{◌≡◌, ℕ, zero, suc, ◌+◌, ◌<◌, ◌≤◌, List, [], ◌∷◌, length, drop, Bool, true, false, cond, if◌then◌else◌, nat_eq, Option, Some, None, refl, ap, sym, subst, ◌∙◌, arith, length-drop}
use Rattle.std.specs.List.{find, starts_with, take_while}
use Rattle.std.specs.Option.{option_map}
use Rattle.std.proofs.lemmas.List.Sums.{take_while-cons}
use Rattle.hy_read.specs.declared.symbol.Symbol.{Symbol}
use Rattle.hy_read.specs.declared.symbol.Symbol.TheVariants as signs
use Rattle.hy_text.specs.Bytes.{is_word_byte}
use Rattle.hy_read.specs.Symbols.{spelling}
use Rattle.hy_read.specs.Tokens.{Token, symbol}
use Rattle.hy_read.specs.Results.{Reads}
use Rattle.hy_read.specs.Scanning.{word_token, word_at, quoted_at, sign_at, token_at, Span, or_nothing, first_token, blanks, Spans}
use Rattle.hy_read.specs.Answers.{Answer, Answers, tokens_of, located}
use Rattle.hy_read.proofs.Answering.{answered, answered-once}

-- a token that is there takes at least one byte
abbrev Long : Option (Token × ℕ) → Type 0
Long None = Unit {0}
Long (Some p) = 0 < p.1

map-long : (o : Option Token) (m : ℕ) → 0 < m → Long (option_map (λ token. (token, m)) o)
map-long None m h = tt
map-long (Some t) m h = h

word-long : (b : ℕ) (bs : List ℕ) → is_word_byte b ≡ true → Long (word_at (b ∷ bs))
word-long b bs h =
    let P : Bool → Type 0 = λ c. 0 < length (cond c (b ∷ take_while is_word_byte bs) []) in
    let some : 0 < length (b ∷ take_while is_word_byte bs) = omega arith in
    map-long (word_token (take_while is_word_byte (b ∷ bs))) (length (take_while is_word_byte (b ∷ bs))) (subst (λ w. 0 < length w) (sym (take_while-cons is_word_byte b bs)) (subst P (sym h) some))

if-long : (c : Bool) (t : Token) (m : ℕ) → 0 < m → Long (if c then Some (t, m) else None)
if-long true t m h = h
if-long false t m h = tt

quoted-long : (text : List ℕ) → Long (quoted_at text)
quoted-long text = if-long _ _ _ (omega arith)

spelled : (s : Symbol) → 0 < length (spelling s)
spelled signs.Dot = omega arith
spelled _ = omega arith

sign-long : (o : Option Symbol) → Long (option_map (λ s. (symbol s, length (spelling s))) o)
sign-long None = tt
sign-long (Some s) = spelled s

token-long : (b : ℕ) (bs : List ℕ) → Long (token_at (b ∷ bs))
token-long b bs = through (is_word_byte b) refl (nat_eq b 34)
  where
    through : (c : Bool) → is_word_byte b ≡ c → (d : Bool) → Long (if c then word_at (b ∷ bs) else (if d then quoted_at (b ∷ bs) else sign_at (b ∷ bs)))
    through true e d = word-long b bs e
    through false e true = quoted-long (b ∷ bs)
    through false e false = sign-long (find (λ s. starts_with nat_eq (b ∷ bs) (spelling s)) Rattle.hy_read.specs.Symbols.signs)

or-long : (o : Option (Token × ℕ)) (left : ℕ) → 0 < left → Long o → 0 < (or_nothing left o).1
or-long None left h g = h
or-long (Some p) left h g = g

pub first-long : (b : ℕ) (bs : List ℕ) → 0 < (first_token (b ∷ bs)).1
first-long b bs = or-long (token_at (b ∷ bs)) (length (b ∷ bs)) (omega arith) (token-long b bs)

shorter : (text : List ℕ) (k b : ℕ) (bs : List ℕ) (n fuel : ℕ) → drop k text ≡ b ∷ bs → 0 < n → length text ≤ suc fuel → length (drop n (b ∷ bs)) ≤ fuel
shorter text k b bs n fuel e h le =
    let whole = ap length e in
    omega (arith, whole, length-drop k text, length-drop n (b ∷ bs))

spans-from : (fuel at : ℕ) (text : List ℕ) → length text ≤ fuel → (spans : List Span) × Spans at text spans
spans-from zero at [] le = ([], refl)
spans-from zero at (x ∷ xs) le = absurd (omega arith)
spans-from (suc fuel) at text le = through (λ a t l. spans-from fuel a t l) (drop (blanks text) text) refl
  where
    through : ((a : ℕ) (t : List ℕ) → length t ≤ fuel → (spans : List Span) × Spans a t spans) → (rest : List ℕ) → drop (blanks text) text ≡ rest → (spans : List Span) × Spans at text spans
    through f [] e = ([], e)
    through f (b ∷ bs) e =
        let n : ℕ = (first_token (b ∷ bs)).1 in
        let (spans, h) = f (at + blanks text + n) (drop n (b ∷ bs)) (shorter text (blanks text) b bs n fuel e (first-long b bs) le) in
        (record { token = (first_token (b ∷ bs)).0; first = at + blanks text } ∷ spans, (b, bs, n, e, refl, refl, h))

abbrev pub span : Token → ℕ → Span
span t f = record { token = t; first = f }

pub same-span : (s u : Span) → s.token ≡ u.token → s.first ≡ u.first → s ≡ u
same-span s u e h =
    let first : span s.token s.first ≡ span u.token s.first = ap (λ x. span x s.first) e in
    let second : span u.token s.first ≡ span u.token u.first = ap (λ x. span u.token x) h in
    first ∙ second

pub spans-one : (text : List ℕ) → (spans : List Span) × Spans zero text spans
spans-one text = spans-from (length text) zero text (omega arith)

pub spans-once : (spans others : List Span) (at : ℕ) (text : List ℕ) → Spans at text spans → Spans at text others → spans ≡ others
spans-once [] [] at text h k = refl
spans-once [] (u ∷ us) at text h (b, bs, n, e, t, f, k) = absurd cc
spans-once (s ∷ ss) [] at text (b, bs, n, e, t, f, h) k = absurd cc
spans-once (s ∷ ss) (u ∷ us) at text (b, bs, n, e, t, f, h) (c, cs, m, d, r, g, k) =
    let same : b ∷ bs ≡ c ∷ cs = sym e ∙ d in
    let pairs : (s.token, n) ≡ (u.token, m) = sym t ∙ ap first_token same ∙ r in
    let tokens : s.token ≡ u.token = ap (λ (p : Token × ℕ). p.0) pairs in
    let ends : n ≡ m = ap (λ (p : Token × ℕ). p.1) pairs in
    let one : Spans (at + blanks text + m) (drop m (b ∷ bs)) ss = subst (λ x. Spans (at + blanks text + x) (drop x (b ∷ bs)) ss) ends h in
    let two : Spans (at + blanks text + m) (drop m (c ∷ cs)) ss = subst (λ x. Spans (at + blanks text + m) (drop m x) ss) same one in
    ap (λ x. x ∷ ss) (same-span s u tokens (f ∙ sym g)) ∙ ap (λ x. u ∷ x) (spans-once ss us (at + blanks text + m) (drop m (c ∷ cs)) two k)

pub answer-there : (many : Bool) (limit : ℕ) (old : List (List ℕ)) (bytes : List ℕ) → (a : Answer) × Answers many limit old bytes a
answer-there many limit old bytes =
    let (spans, split) = spans-one bytes in
    let (r, reads) = answered many limit old (tokens_of spans) in
    (located limit bytes spans r, record { spans = spans; result = r; split = split; reads = reads; is = refl })

pub answer-once : (many : Bool) (limit : ℕ) (old : List (List ℕ)) (bytes : List ℕ) (a b : Answer) → Answers many limit old bytes a → Answers many limit old bytes b → a ≡ b
answer-once many limit old bytes a b h k =
    let spans = spans-once h.spans k.spans zero bytes h.split k.split in
    let moved = subst (λ x. Reads many limit old (tokens_of x) h.result) spans h.reads in
    let results = answered-once many limit old (tokens_of k.spans) h.result k.result moved k.reads in
    h.is ∙ ap (λ x. located limit bytes x h.result) spans ∙ ap (located limit bytes k.spans) results ∙ sym k.is

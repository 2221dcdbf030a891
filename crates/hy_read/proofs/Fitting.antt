-- The byte of a fault is within the file.
use Rattle.std.proofs.Common.{◌≡◌, ℕ, zero, suc, ◌+◌, ◌<◌, ◌≤◌, List, [], ◌∷◌, length, drop, ap, arith, length-drop}
use Rattle.hy_read.specs.Scanning.{Span, blanks, Spans}
use Rattle.std.proofs.lemmas.List.{length-map}
use Rattle.std.proofs.Common.{Bool}
use Rattle.hy_read.specs.Tokens.{Token}
use Rattle.hy_read.specs.Scanning.{first_token}
use Rattle.hy_read.specs.Results.{Result, fault, unbound, past, taken, Reads}
use Rattle.hy_read.specs.Answers.{Answers, faulty, first_of, located, tokens_of}
use Rattle.hy_read.proofs.Spanning.{first-long}

abbrev Below : ℕ → List Span → Type 0
Below m [] = Unit {0}
Below m (s ∷ spans) = (s.first < m) × Below m spans

some-left : (at : ℕ) (text : List ℕ) (s : Span) (spans : List Span) → Spans at text (s ∷ spans) → 0 < length text
some-left at text s spans (b, bs, n, e, t, f, h) =
    let whole = ap length e in
    omega (arith, whole, length-drop (blanks text) text)

spans-below : (spans : List Span) (at m : ℕ) (text : List ℕ) → m ≡ at + length text → Spans at text spans → Below m spans
spans-below [] at m text e h = tt
spans-below (s ∷ []) at m text e (b, bs, n, d, t, f, h) =
    let whole = ap length d in
    (omega (arith, whole, length-drop (blanks text) text), tt)
spans-below (s ∷ u ∷ spans) at m text e (b, bs, n, d, t, f, h) =
    let whole = ap length d in
    let more = some-left (at + blanks text + n) (drop n (b ∷ bs)) u spans h in
    let same : m ≡ at + blanks text + n + length (drop n (b ∷ bs)) = omega (arith, whole, more, length-drop (blanks text) text, length-drop n (b ∷ bs)) in
    (omega (arith, whole, length-drop (blanks text) text), spans-below (u ∷ spans) (at + blanks text + n) m (drop n (b ∷ bs)) same h)

first-within : (bytes : List ℕ) (spans : List Span) (k : ℕ) → Below (length bytes) spans → first_of bytes (drop k spans) ≤ length bytes
first-within bytes [] zero h = omega arith
first-within bytes [] (suc k) h = omega arith
first-within bytes (s ∷ spans) zero h = let lt = h.0 in omega arith
first-within bytes (s ∷ spans) (suc k) h = first-within bytes spans k h.1

pub byte-within : (bytes : List ℕ) (spans : List Span) (k : ℕ) → Spans zero bytes spans → first_of bytes (drop k spans) ≤ length bytes
byte-within bytes spans k h = first-within bytes spans k (spans-below spans zero (length bytes) bytes (omega arith) h)

-- a token has a byte
pub count-within : (spans : List Span) (at : ℕ) (text : List ℕ) → Spans at text spans → length spans ≤ length text
count-within [] at text h = omega arith
count-within (s ∷ spans) at text (b, bs, n, d, t, f, h) =
    let whole = ap length d in
    let long = first-long b bs in
    let same : (first_token (b ∷ bs)).1 ≡ n = ap (λ (p : Token × ℕ). p.1) t in
    let rest = count-within spans (at + blanks text + n) (drop n (b ∷ bs)) h in
    omega (arith, whole, long, same, rest, length-drop (blanks text) text, length-drop n (b ∷ bs))

fault-in : (many : Bool) (limit : ℕ) (old : List (List ℕ)) (bytes : List ℕ) (spans : List Span) (r : Result) (k b : ℕ) → Spans zero bytes spans → Reads many limit old (tokens_of spans) r → faulty k b ≡ located limit bytes spans r → (k ≤ length bytes) × (b ≤ length bytes)
fault-in many limit old bytes spans (fault j) k b split reads is =
    let tokens : k ≡ j = cc in
    let byte : b ≡ first_of bytes (drop j spans) = cc in
    let within = reads.1.within in
    let count = count-within spans zero bytes split in
    let place = byte-within bytes spans j split in
    (omega (arith, within, count, length-map spans (λ x. x.token)), omega arith)
fault-in many limit old bytes spans (unbound j) k b split reads is = absurd cc
fault-in many limit old bytes spans (past c) k b split reads is = absurd cc
fault-in many limit old bytes spans (taken fs table) k b split reads is = absurd cc

-- the numbers of a fault are at most the file's length
pub fault-fits : (many : Bool) (limit : ℕ) (old : List (List ℕ)) (bytes : List ℕ) (k b : ℕ) → Answers many limit old bytes (faulty k b) → (k ≤ length bytes) × (b ≤ length bytes)
fault-fits many limit old bytes k b h = fault-in many limit old bytes h.spans h.result k b h.split h.reads h.is

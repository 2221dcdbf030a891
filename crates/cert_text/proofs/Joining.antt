-- Pieces that are joined by a byte, and texts without a byte.
use Rattle.std.proofs.Common.{◌≡◌, ◌≢◌, ℕ, suc, ◌^◌, ◌<◌, true, false, not, nat_eq, List, [], ◌∷◌, ◌++◌, refl, ◌∙◌, ap, arith}
use Rattle.std.specs.Prelude.{decimal, ℤ, pos, negsuc, unsigned_abs}
use Rattle.std.specs.Fmt.{signed_decimal}
use Rattle.std.specs.List.{All, list_all, join_with_byte}
use Rattle.std.specs.Str.Parse.{AllDigits}
use Rattle.std.proofs.lemmas.Bool.{eq-eqb, ne_eqb, and_from}
use Rattle.std.proofs.lemmas.Fmt.{decimal_is_IsNumeral}
use Rattle.std.proofs.lemmas.List.Elements.{All-nil, All-cons, All-head, All-tail, All-append}
use Rattle.std.proofs.lemmas.List.Splits.{slice_split_at, slice_split_none}
use Rattle.std.proofs.lemmas.Str.Parse.{digit_at}
use Rattle.hy_formula.specs.Quantifiers.{Each}
use Rattle.hy_text.specs.Bytes.{is_in_line}
use Rattle.hy_text.specs.Cuts.{cut_at}
use Rattle.cert_text.specs.Lines.{Line}

-- The text has no such byte.
abbrev pub Lacks : ℕ → List ℕ → Type 0
Lacks byte text = All (λ b. nat_eq b byte ≡ false) text

abbrev pub EachLacks : ℕ → List (List ℕ) → Type 0
EachLacks byte = Each (Lacks byte)

pub lacks_nil : (byte : ℕ) → Lacks byte []
lacks_nil byte = All-nil (λ b. nat_eq b byte ≡ false)

pub lacks_cons : (byte b : ℕ) (text : List ℕ) → b ≢ byte → Lacks byte text → Lacks byte (b ∷ text)
lacks_cons byte b text apart lacks =
    All-cons (λ b. nat_eq b byte ≡ false) b text (ne_eqb b byte apart) lacks

pub lacks_append : (byte : ℕ) (one two : List ℕ) → Lacks byte one → Lacks byte two
    → Lacks byte (one ++ two)
lacks_append byte = All-append (λ b. nat_eq b byte ≡ false)

-- ---- pieces

-- What is joined splits into its pieces, where none has the byte.
pub split_joined : (byte : ℕ) (piece : List ℕ) (ps : List (List ℕ)) → EachLacks byte (piece ∷ ps)
    → cut_at byte (join_with_byte byte (piece ∷ ps)) ≡ piece ∷ ps
split_joined byte piece [] (lacks, none) = slice_split_none (λ b. nat_eq b byte) piece lacks
split_joined byte piece (next ∷ ps) (lacks, more) =
    slice_split_at (λ b. nat_eq b byte) piece byte (join_with_byte byte (next ∷ ps)) lacks
    (eq-eqb byte byte refl)
    ∙ ap (λ l. piece ∷ l) (split_joined byte next ps more)

-- What is joined lacks a byte that neither the pieces nor the joint are.
pub joined_lacks : (byte joint : ℕ) (ps : List (List ℕ)) → joint ≢ byte → EachLacks byte ps
    → Lacks byte (join_with_byte joint ps)
joined_lacks byte joint [] apart each = lacks_nil byte
joined_lacks byte joint (piece ∷ []) apart (lacks, more) = lacks
joined_lacks byte joint (piece ∷ next ∷ ps) apart (lacks, more) =
    lacks_append byte piece (joint ∷ join_with_byte joint (next ∷ ps)) lacks
    (lacks_cons byte joint (join_with_byte joint (next ∷ ps)) apart
    (joined_lacks byte joint (next ∷ ps) apart more))

-- ---- numbers

digits_lack : (byte : ℕ) (ds : List ℕ) → byte < 48 → AllDigits 10 ds → Lacks byte ds
digits_lack byte [] low digits = lacks_nil byte
digits_lack byte (d ∷ ds) low digits =
    let range = digit_at (d ∷ ds) 0 digits (omega arith) in
    lacks_cons byte d ds (λ e. absurd (omega (arith, range, e))) (digits_lack byte ds low digits.1)

pub decimal_lacks : (byte n : ℕ) → byte < 48 → n < 10 ^ 10 → Lacks byte (decimal n)
decimal_lacks byte n low short =
    let fits : n < 2 ^ 64 = omega arith in
    digits_lack byte (decimal n) low (decimal_is_IsNumeral n fits).0.1

pub signed_lacks : (byte : ℕ) (l : ℤ) → byte < 45 → unsigned_abs l < 10 ^ 10
    → Lacks byte (signed_decimal l)
signed_lacks byte (pos n) low short = decimal_lacks byte n (omega arith) short
signed_lacks byte (negsuc n) low short =
    lacks_cons byte 45 (decimal (suc n)) (λ e. absurd (omega (arith, e)))
    (decimal_lacks byte (suc n) (omega arith) short)

-- ---- lines

-- The line has no line feed.
abbrev pub IsFree : Line → Type 0
IsFree line = list_all is_in_line line ≡ true

abbrev pub AreFree : List Line → Type 0
AreFree = Each IsFree

-- A line without a line feed is one.
pub lacks_feed : (line : List ℕ) → Lacks 10 line → list_all is_in_line line ≡ true
lacks_feed [] lacks = refl
lacks_feed (b ∷ line) lacks =
    and_from (is_in_line b) (list_all is_in_line line)
    (ap not (All-head (λ x. nat_eq x 10 ≡ false) b line lacks))
    (lacks_feed line (All-tail (λ x. nat_eq x 10 ≡ false) b line lacks))

-- A file of lassos has one answer, but for want of memory.
use Rattle.std.proofs.Common.{◌≡◌, ◌≢◌, ℕ, ◌<◌, List, [], ◌∷◌, length, Result, Ok, Err, inl, inr, refl, sym, ap, ◌∙◌, arith}
use Rattle.hy_bits.specs.Letter.{Letter}
use Rattle.hy_formula.specs.Lassos.{Lasso}
use Rattle.hy_formula.specs.Quantifiers.{Each}
use Rattle.hy_text.specs.declared.line_error.LineError.{LineError}
use Rattle.hy_text.specs.declared.line_error.LineError.TheVariants.{Syntax, Limit, Memory}
use Rattle.hy_text.specs.Bytes.{past_blanks}
use Rattle.hy_text.specs.Lines.{SaysNothing, lines_of}
use Rattle.hy_text.proofs.FirstFaults.{one_fault, texts_no_fault}
use Rattle.hy_text.proofs.ReadingSets.{apart}
use Rattle.hy_lasso.specs.LassoLines.{Spelled, lasso_of, SpellsStem, SaysLasso, IsText, IsFaulty}
use Rattle.hy_lasso.specs.LassoFiles.{SayLassos, IsLassoFile, IsRefusal, IsLassosAnswer}
use Rattle.hy_lasso.proofs.ReadingLassos.{one_lasso}

-- A stem and its bar begin with a brace or a bar.
stem_begins : (text : List ℕ) (sets : List (List (List ℕ))) (rest : List ℕ) (b : ℕ) (tail : List ℕ)
    → b ≢ 123 → b ≢ 124 → text ≡ b ∷ tail → ¬ SpellsStem text sets rest
stem_begins text [] rest b tail no_brace no_bar first bar =
    apart b 124 text tail rest no_bar first bar
stem_begins text (x ∷ []) rest b tail no_brace no_bar first
    (behind, (inner, brace, members), more, bare) =
    apart b 123 text tail inner no_brace first brace
stem_begins text (x ∷ y ∷ sets) rest b tail no_brace no_bar first
    (behind, next, (inner, brace, members), more, later) =
    apart b 123 text tail inner no_brace first brace

stem_some : (text : List ℕ) (sets : List (List (List ℕ))) (rest : List ℕ) → text ≡ []
    → ¬ SpellsStem text sets rest
stem_some text [] rest none bar = let clash : [] ≡ 124 ∷ rest = sym none ∙ bar in cc
stem_some text (x ∷ []) rest none (behind, (inner, brace, members), more, bare) =
    let clash : [] ≡ 123 ∷ inner = sym none ∙ brace in cc
stem_some text (x ∷ y ∷ sets) rest none (behind, next, (inner, brace, members), more, later) =
    let clash : [] ≡ 123 ∷ inner = sym none ∙ brace in cc

-- A line that says nothing says no lasso.
nothing_said : (line : List ℕ) (said : Spelled) → SaysNothing line → ¬ SaysLasso line said
nothing_said line said (inl none) (rest, stem, cycle) =
    stem_some (past_blanks line) said.stem rest none stem
nothing_said line said (inr (tail, comment)) (rest, stem, cycle) =
    stem_begins (past_blanks line) said.stem rest 35 tail (omega arith) (omega arith) comment stem

text_not_faulty : (line : List ℕ) → IsText line → ¬ IsFaulty line
text_not_faulty line (inl nothing) faulty = faulty.speaks nothing
text_not_faulty line (inr (said, says)) faulty = faulty.none said says

one_list : (table lines : List (List ℕ)) (a b : List (Lasso Letter)) → SayLassos table lines a
    → SayLassos table lines b → a ≡ b
one_list table [] a b one two = one ∙ sym two
one_list table (line ∷ lines) a b (inl (nothing, one)) (inl (also, two)) =
    one_list table lines a b one two
one_list table (line ∷ lines) a b (inl (nothing, one)) (inr (said, rest, says, e, two)) =
    absurd (nothing_said line said nothing says)
one_list table (line ∷ lines) a b (inr (said, rest, says, e, one)) (inl (nothing, two)) =
    absurd (nothing_said line said nothing says)
one_list table (line ∷ lines) a b (inr (said, rest, says, e, one))
    (inr (other, left, more, f, two)) =
    e
    ∙ ap (λ s. lasso_of table s ∷ rest) (one_lasso (past_blanks line) said other says more)
    ∙ ap (λ ls. lasso_of table other ∷ ls) (one_list table lines rest left one two)
    ∙ sym f

say_texts : (table lines : List (List ℕ)) (list : List (Lasso Letter))
    → SayLassos table lines list → Each IsText lines
say_texts table [] list say = tt
say_texts table (line ∷ lines) list (inl (nothing, say)) =
    (inl nothing, say_texts table lines list say)
say_texts table (line ∷ lines) list (inr (said, rest, says, e, say)) =
    (inr (said, says), say_texts table lines rest say)

silent_texts : (lines : List (List ℕ)) → Each SaysNothing lines → Each IsText lines
silent_texts [] each = tt
silent_texts (line ∷ lines) (nothing, each) = (inl nothing, silent_texts lines each)

silent_none : (table lines : List (List ℕ)) (list : List (Lasso Letter)) → Each SaysNothing lines
    → SayLassos table lines list → list ≡ []
silent_none table [] list each say = say
silent_none table (line ∷ lines) list (nothing, each) (inl (also, say)) =
    silent_none table lines list each say
silent_none table (line ∷ lines) list (nothing, each) (inr (said, rest, says, e, say)) =
    absurd (nothing_said line said nothing says)

one_line : (bytes : List ℕ) (j k : ℕ) → IsRefusal bytes (Syntax j) → IsRefusal bytes (Syntax k)
    → j ≡ k
one_line bytes j k (inl one) (inl two) = one_fault IsText IsFaulty text_not_faulty 1
    (lines_of bytes) j k one two
one_line bytes j k (inl one) (inr (zero, silent)) =
    absurd (texts_no_fault IsText IsFaulty text_not_faulty 1 (lines_of bytes) j
    (silent_texts (lines_of bytes) silent) one)
one_line bytes j k (inr (zero, silent)) (inl two) =
    absurd (texts_no_fault IsText IsFaulty text_not_faulty 1 (lines_of bytes) k
    (silent_texts (lines_of bytes) silent) two)
one_line bytes j k (inr (zero, silent)) (inr (also, quiet)) = zero ∙ sym also

one_refusal : (table : List (List ℕ)) (bytes : List ℕ) (a b : LineError) → a ≢ Memory → b ≢ Memory
    → IsLassosAnswer table bytes (Err a) → IsLassosAnswer table bytes (Err b) → a ≡ b
one_refusal table bytes (Syntax j) (Syntax k) p q one two = ap Syntax (one_line bytes j k one two)
one_refusal table bytes (Syntax j) Limit p q one two = absurd two
one_refusal table bytes (Syntax j) Memory p q one two = absurd (q refl)
one_refusal table bytes Limit b p q one two = absurd one
one_refusal table bytes Memory b p q one two = absurd (p refl)

not_refused : (table : List (List ℕ)) (bytes : List ℕ) (list : List (Lasso Letter))
    (fault : LineError)
    → fault ≢ Memory → IsLassoFile table bytes list → ¬ IsLassosAnswer table bytes (Err fault)
not_refused table bytes list (Syntax k) known file (inl fault) =
    texts_no_fault IsText IsFaulty text_not_faulty 1 (lines_of bytes) k
    (say_texts table (lines_of bytes) list file.say) fault
not_refused table bytes list (Syntax k) known file (inr (zero, silent)) =
    let some : 0 < length list = file.some in
    omega (arith, some, ap length (silent_none table (lines_of bytes) list silent file.say))
not_refused table bytes list Limit known file refused = refused
not_refused table bytes list Memory known file refused = known refl

pub one_answer : (table : List (List ℕ)) (bytes : List ℕ)
    (a b : Result (List (Lasso Letter)) LineError)
    → a ≢ Err Memory → b ≢ Err Memory → IsLassosAnswer table bytes a
    → IsLassosAnswer table bytes b → a ≡ b
one_answer table bytes (Ok a) (Ok b) p q one two =
    ap Ok (one_list table (lines_of bytes) a b one.say two.say)
one_answer table bytes (Ok a) (Err fault) p q one two =
    absurd (not_refused table bytes a fault (λ e. q (ap Err e)) one two)
one_answer table bytes (Err fault) (Ok b) p q one two =
    absurd (not_refused table bytes b fault (λ e. p (ap Err e)) two one)
one_answer table bytes (Err a) (Err b) p q one two =
    ap Err (one_refusal table bytes a b (λ e. p (ap Err e)) (λ e. q (ap Err e)) one two)

-- One line and one file have one answer, but for want of memory.
use Rattle.std.proofs.Common.{◌≡◌, ◌≢◌, ℕ, suc, List, [], ◌∷◌, Option, Some, None, Result, Ok, Err, inl, inr, refl, sym, ap, ◌∙◌}
use Rattle.hy_formula.specs.Quantifiers.{Each}
use Rattle.hy_finite.specs.declared.event.Event.{Event}
use Rattle.hy_finite.specs.declared.event.Placed.{Placed}
use Rattle.hy_text.specs.declared.line_error.LineError.{LineError}
use Rattle.hy_text.specs.declared.line_error.LineError.TheVariants.{Syntax, Limit, Memory}
use Rattle.hy_text.specs.Bytes.{past_blanks}
use Rattle.hy_finite.specs.EventLines.{Said, word, IsFaulty, IsTooLong, IsText, IsGood}
use Rattle.hy_finite.specs.EventFiles.{event_of, lines_of, SayEvents, SomeTooLong}
use Rattle.hy_finite.specs.EventAnswers.{IsLineAnswer, IsFileAnswer}
use Rattle.hy_text.proofs.FirstFaults.{one_fault, texts_no_fault}
use Rattle.hy_finite.proofs.Saying.{nothing-said, one-said}
use Rattle.hy_finite.proofs.Collecting.{good-text, good-not_faulty, good-not_long}

one-event : (table : List (List ℕ)) (line : List ℕ) (a b : Event)
    → IsLineAnswer table line (Ok (Some a)) → IsLineAnswer table line (Ok (Some b)) → a ≡ b
one-event table line a b (said, says, short, e) (other, more, few, f) =
    e ∙ ap (event_of table) (one-said (past_blanks line) said other says more) ∙ sym f

answer-good : (table : List (List ℕ)) (line : List ℕ) (o : Option Event)
    → IsLineAnswer table line (Ok o) → IsGood line
answer-good table line None nothing = inl nothing
answer-good table line (Some event) (said, says, short, e) = inr (said, says, short)

no-fault : (table : List (List ℕ)) (line : List ℕ) (o : Option Event) (fault : LineError)
    → fault ≢ Memory → IsLineAnswer table line (Ok o) → ¬ IsLineAnswer table line (Err fault)
no-fault table line o (Syntax n) known right (one, fault) =
    good-not_faulty line (good-text line (answer-good table line o right)) fault
no-fault table line o Limit known right long =
    good-not_long line (answer-good table line o right) long
no-fault table line o Memory known right h = known refl

long-not_faulty : (line : List ℕ) → IsTooLong line → ¬ IsFaulty line
long-not_faulty line long fault = fault.none (word long.sets) long.says

one-refusal : (table : List (List ℕ)) (line : List ℕ) (a b : LineError) → a ≢ Memory → b ≢ Memory
    → IsLineAnswer table line (Err a) → IsLineAnswer table line (Err b) → a ≡ b
one-refusal table line (Syntax n) (Syntax m) p q (e, fault) (f, also) = ap Syntax (e ∙ sym f)
one-refusal table line (Syntax n) Limit p q (e, fault) long =
    absurd (long-not_faulty line long fault)
one-refusal table line Limit (Syntax m) p q long (f, fault) =
    absurd (long-not_faulty line long fault)
one-refusal table line Limit Limit p q one two = refl
one-refusal table line Memory b p q one two = absurd (p refl)
one-refusal table line a Memory p q one two = absurd (q refl)

pub one-line_answer : (table : List (List ℕ)) (line : List ℕ) (a b : Result
    (Option Event) LineError) → a ≢ Err Memory → b ≢ Err Memory → IsLineAnswer table line a
    → IsLineAnswer table line b → a ≡ b
one-line_answer table line (Ok None) (Ok None) p q one two = refl
one-line_answer table line (Ok None) (Ok (Some b)) p q one (said, says, short, e) =
    absurd (nothing-said line said one says)
one-line_answer table line (Ok (Some a)) (Ok None) p q (said, says, short, e) two =
    absurd (nothing-said line said two says)
one-line_answer table line (Ok (Some a)) (Ok (Some b)) p q one two =
    ap (λ e. Ok (Some e)) (one-event table line a b one two)
one-line_answer table line (Ok o) (Err fault) p q one two =
    absurd (no-fault table line o fault (λ e. q (ap Err e)) one two)
one-line_answer table line (Err fault) (Ok o) p q one two =
    absurd (no-fault table line o fault (λ e. p (ap Err e)) two one)
one-line_answer table line (Err a) (Err b) p q one two =
    ap Err (one-refusal table line a b (λ e. p (ap Err e)) (λ e. q (ap Err e)) one two)

-- ---- files

pub one-events : (table : List (List ℕ)) (n : ℕ) (lines : List (List ℕ)) (a b : List Placed)
    → SayEvents table n lines a → SayEvents table n lines b → a ≡ b
one-events table n [] a b one two = one ∙ sym two
one-events table n (line ∷ lines) a b (inl (nothing, one)) (inl (also, two)) =
    one-events table (suc n) lines a b one two
one-events table n (line ∷ lines) a b (inl (nothing, one)) (inr (said, rest, says, e, two)) =
    absurd (nothing-said line said nothing says)
one-events table n (line ∷ lines) a b (inr (said, rest, says, e, one)) (inl (nothing, two)) =
    absurd (nothing-said line said nothing says)
one-events table n (line ∷ lines) a b (inr (said, rest, says, e, one)) (inr
    (other, left, more, f, two)) =
    let placed : Said → Placed = λ s. record { line = n; event = event_of table s } in
    e
    ∙ ap (λ s. placed s ∷ rest) (one-said (past_blanks line) said other says more)
    ∙ ap (λ ps. placed other ∷ ps) (one-events table (suc n) lines rest left one two)
    ∙ sym f

each-good : (lines : List (List ℕ)) → Each IsGood lines → Each IsText lines
each-good [] each = tt
each-good (line ∷ lines) (good, each) = (good-text line good, each-good lines each)

good-no_long : (lines : List (List ℕ)) → Each IsGood lines → ¬ SomeTooLong lines
good-no_long [] each some = some
good-no_long (line ∷ lines) (good, each) (inl long) = good-not_long line good long
good-no_long (line ∷ lines) (good, each) (inr later) = good-no_long lines each later

good-not_refused : (table : List (List ℕ)) (bytes : List ℕ) (fault : LineError) → fault ≢ Memory
    → Each IsGood (lines_of bytes) → ¬ IsFileAnswer table bytes (Err fault)
good-not_refused table bytes (Syntax k) known each fault =
    texts_no_fault IsText IsFaulty good-not_faulty 1 (lines_of bytes) k (each-good (lines_of bytes) each) fault
good-not_refused table bytes Limit known each (texts, long) =
    good-no_long (lines_of bytes) each long
good-not_refused table bytes Memory known each h = known refl

one-file_refusal : (table : List (List ℕ)) (bytes : List ℕ) (a b : LineError) → a ≢ Memory
    → b ≢ Memory → IsFileAnswer table bytes (Err a) → IsFileAnswer table bytes (Err b) → a ≡ b
one-file_refusal table bytes (Syntax j) (Syntax k) p q one two =
    ap Syntax (one_fault IsText IsFaulty good-not_faulty 1 (lines_of bytes) j k one two)
one-file_refusal table bytes (Syntax j) Limit p q one (texts, long) =
    absurd (texts_no_fault IsText IsFaulty good-not_faulty 1 (lines_of bytes) j texts one)
one-file_refusal table bytes Limit (Syntax k) p q (texts, long) two =
    absurd (texts_no_fault IsText IsFaulty good-not_faulty 1 (lines_of bytes) k texts two)
one-file_refusal table bytes Limit Limit p q one two = refl
one-file_refusal table bytes Memory b p q one two = absurd (p refl)
one-file_refusal table bytes a Memory p q one two = absurd (q refl)

pub one-file_answer : (table : List (List ℕ)) (bytes : List ℕ) (a b : Result
    (List Placed) LineError) → a ≢ Err Memory → b ≢ Err Memory → IsFileAnswer table bytes a
    → IsFileAnswer table bytes b → a ≡ b
one-file_answer table bytes (Ok a) (Ok b) p q (good, one) (also, two) =
    ap Ok (one-events table 1 (lines_of bytes) a b one two)
one-file_answer table bytes (Ok a) (Err fault) p q (good, one) two =
    absurd (good-not_refused table bytes fault (λ e. q (ap Err e)) good two)
one-file_answer table bytes (Err fault) (Ok b) p q one (good, two) =
    absurd (good-not_refused table bytes fault (λ e. p (ap Err e)) good one)
one-file_answer table bytes (Err a) (Err b) p q one two =
    ap Err (one-file_refusal table bytes a b (λ e. p (ap Err e)) (λ e. q (ap Err e)) one two)

-- ---- what lines that are good say

pub good-say : (table : List (List ℕ)) (n : ℕ) (lines : List (List ℕ)) → Each IsGood lines
    → (events : List Placed) × SayEvents table n lines events
good-say table n [] each = ([], refl)
good-say table n (line ∷ lines) (inl nothing, each) =
    let (events, say) = good-say table (suc n) lines each in
    (events, inl (nothing, say))
good-say table n (line ∷ lines) (inr (said, says, short), each) =
    let (events, say) = good-say table (suc n) lines each in
    (record { line = n; event = event_of table said } ∷ events, inr (said, events, says, refl, say))

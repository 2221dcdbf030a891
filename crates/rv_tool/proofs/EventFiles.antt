-- The bytes of a file are lines of events, or are refused by one fault, and never both.
use Rattle.std.proofs.Common.{◌≡◌, ℕ, List, [], ◌∷◌, inl, inr, refl, ap}
use Rattle.hy_formula.specs.Quantifiers.{Each}
use Rattle.hy_text.specs.Lines.{lines_of}
use Rattle.hy_text.specs.declared.line_error.LineError.{LineError}
use Rattle.hy_text.specs.declared.line_error.LineError.TheVariants.{Syntax, Limit, Memory}
use Rattle.hy_text.proofs.FirstFaults.{one_fault, texts_no_fault}
use Rattle.hy_finite.specs.EventAnswers.{IsRefusal}
use Rattle.hy_finite.specs.EventFiles.{SomeTooLong}
use Rattle.hy_finite.specs.EventLines.{IsFaulty, IsGood, IsText}
use Rattle.hy_finite.proofs.Collecting.{good-text, good-not_faulty, good-not_long}

good-lines : (lines : List (List ℕ)) → Each IsGood lines → Each IsText lines
good-lines [] each = tt
good-lines (line ∷ lines) (good, each) = (good-text line good, good-lines lines each)

none-long : (lines : List (List ℕ)) → Each IsGood lines → ¬ SomeTooLong lines
none-long [] each some = some
none-long (line ∷ lines) (good, each) (inl long) = good-not_long line good long
none-long (line ∷ lines) (good, each) (inr later) = none-long lines each later

pub good-not_refused : (bytes : List ℕ) (fault : LineError) → Each IsGood (lines_of bytes) → ¬ IsRefusal bytes fault
good-not_refused bytes (Syntax k) good refused =
    texts_no_fault IsText IsFaulty good-not_faulty 1 (lines_of bytes) k (good-lines (lines_of bytes) good) refused
good-not_refused bytes Limit good refused = none-long (lines_of bytes) good refused.1
good-not_refused bytes Memory good refused = refused

pub one-refusal : (bytes : List ℕ) (a b : LineError) → IsRefusal bytes a → IsRefusal bytes b → a ≡ b
one-refusal bytes (Syntax j) (Syntax k) one two =
    ap Syntax (one_fault IsText IsFaulty good-not_faulty 1 (lines_of bytes) j k one two)
one-refusal bytes (Syntax j) Limit one two =
    absurd (texts_no_fault IsText IsFaulty good-not_faulty 1 (lines_of bytes) j two.0 one)
one-refusal bytes Limit (Syntax k) one two =
    absurd (texts_no_fault IsText IsFaulty good-not_faulty 1 (lines_of bytes) k one.0 two)
one-refusal bytes Limit Limit one two = refl
one-refusal bytes (Syntax j) Memory one two = absurd two
one-refusal bytes Limit Memory one two = absurd two
one-refusal bytes Memory b one two = absurd one

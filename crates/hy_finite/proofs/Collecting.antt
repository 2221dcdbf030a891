-- Checking the lines of a file one after another, and collecting what they say.
use Rattle.std.proofs.Common.{◌≡◌, ℕ, suc, ◌+◌, ◌<◌, Bool, true, false, List, [], ◌∷◌, ◌++◌, length, Option, Some, None, Result, Ok, Err, inl, inr, refl, sym, ap, subst, arith, append_assoc, append-nil}
use Rattle.hy_formula.specs.Quantifiers.{Each}
use Rattle.hy_finite.specs.declared.event.Placed.{Placed}
use Rattle.hy_text.specs.declared.line_error.LineError.{LineError}
use Rattle.hy_text.specs.declared.line_error.LineError.TheVariants.{Syntax, Limit, Memory}
use Rattle.hy_finite.specs.Traces.{most_letters}
use Rattle.hy_finite.specs.EventLines.{Said, word, SaysNothing, Says, IsShort, IsFaulty, IsTooLong, IsText, IsGood}
use Rattle.hy_finite.specs.EventFiles.{event_of, lines_of, SayEvents, FirstFault, SomeTooLong}
use Rattle.hy_finite.specs.EventAnswers.{IsFileAnswer, AreChecked}
use Rattle.hy_finite.specs.LinesLeft.{LinesLeft}
use Rattle.hy_finite.specs.NextEvents.{Reaches, IsNextAnswer}
use Rattle.hy_text.specs.Bytes.{past_blanks}
use Rattle.hy_finite.proofs.Saying.{nothing-said, one-said}

-- ---- what lines are

pub good-text : (line : List ℕ) → IsGood line → IsText line
good-text line (inl nothing) = inl nothing
good-text line (inr (said, says, short)) = inr (said, says)

pub long-text : (line : List ℕ) → IsTooLong line → IsText line
long-text line long = inr (word long.sets, long.says)

pub good-not_faulty : (line : List ℕ) → IsText line → ¬ IsFaulty line
good-not_faulty line (inl nothing) fault = fault.speaks nothing
good-not_faulty line (inr (said, says)) fault = fault.none said says

pub good-not_long : (line : List ℕ) → IsGood line → ¬ IsTooLong line
good-not_long line (inl nothing) long = nothing-said line (word long.sets) nothing long.says
good-not_long line (inr (said, says, short)) long =
    let same = one-said (past_blanks line) said (word long.sets) says long.says in
    let few : length long.sets < suc most_letters = omega (arith, subst IsShort same short) in
    omega (arith, few, long.long)

-- ---- checking

-- Of the lines, of which the first has number m, those before `left`, of which the first has number n, have been checked.
pub record Checked (m : ℕ) (lines : List (List ℕ)) (n : ℕ) (left : List (List ℕ))
    (is_long : Bool) : Type 0 where
  pub fault : (k : ℕ) → FirstFault n left k → FirstFault m lines k
  pub texts : Each IsText left → Each IsText lines
  pub later : SomeTooLong left → SomeTooLong lines
  pub long : is_long ≡ true → SomeTooLong lines
  pub good : is_long ≡ false → Each IsGood left → Each IsGood lines

pub checked-none : (m : ℕ) (lines : List (List ℕ)) → Checked m lines m lines false
checked-none m lines = record {
  fault = λ k f. f;
  texts = λ each. each;
  later = λ some. some;
  long = λ e. absurd (cc);
  good = λ e each. each;
}

pub checked-fault : (m : ℕ) (lines : List (List ℕ)) (n : ℕ) (left : List (List ℕ)) (b : Bool)
    (line : List ℕ) (rest : List (List ℕ)) → Checked m lines n left b → left ≡ line ∷ rest
    → IsFaulty line → FirstFault m lines n
checked-fault m lines n left b line rest before first fault =
    let P : List (List ℕ) → Type 0 = λ ls. FirstFault n ls n in
    before.fault n (subst P (sym first) (inl (fault, refl)))

pub checked-good : (m : ℕ) (lines : List (List ℕ)) (n : ℕ) (left : List (List ℕ)) (b : Bool)
    (line : List ℕ) (rest : List (List ℕ)) → Checked m lines n left b → left ≡ line ∷ rest
    → IsGood line → Checked m lines (n + 1) rest b
checked-good m lines n left b line rest before first good =
    let F : List (List ℕ) → Type 0 = λ ls. (k : ℕ) → FirstFault n ls k → FirstFault m lines k in
    let T : List (List ℕ) → Type 0 = λ ls. Each IsText ls → Each IsText lines in
    let S : List (List ℕ) → Type 0 = λ ls. SomeTooLong ls → SomeTooLong lines in
    let G : List (List ℕ) → Type 0 = λ ls. Each IsGood ls → Each IsGood lines in
    let P : ℕ → Type 0 = λ j. (k : ℕ) → FirstFault j rest k → FirstFault m lines k in
    let next : n + 1 ≡ suc n = omega arith in
    record {
      fault =
          subst P (sym next) (λ k f. subst F first before.fault k (inr (good-text line good, f)));
      texts = λ each. subst T first before.texts (good-text line good, each);
      later = λ some. subst S first before.later (inr some);
      long = before.long;
      good = λ e each. subst G first (before.good e) (good, each);
    }

pub checked-long : (m : ℕ) (lines : List (List ℕ)) (n : ℕ) (left : List (List ℕ)) (b : Bool)
    (line : List ℕ) (rest : List (List ℕ)) → Checked m lines n left b → left ≡ line ∷ rest
    → IsTooLong line → Checked m lines (n + 1) rest true
checked-long m lines n left b line rest before first long =
    let F : List (List ℕ) → Type 0 = λ ls. (k : ℕ) → FirstFault n ls k → FirstFault m lines k in
    let T : List (List ℕ) → Type 0 = λ ls. Each IsText ls → Each IsText lines in
    let S : List (List ℕ) → Type 0 = λ ls. SomeTooLong ls → SomeTooLong lines in
    let P : ℕ → Type 0 = λ j. (k : ℕ) → FirstFault j rest k → FirstFault m lines k in
    let next : n + 1 ≡ suc n = omega arith in
    record {
      fault =
          subst P (sym next) (λ k f. subst F first before.fault k (inr (long-text line long, f)));
      texts = λ each. subst T first before.texts (long-text line long, each);
      later = λ some. subst S first before.later (inr some);
      long = λ e. subst S first before.later (inl long);
      good = λ e. absurd (cc);
    }

pub checked-all-good : (m : ℕ) (lines : List (List ℕ)) (n : ℕ) (left : List (List ℕ)) (b : Bool)
    → Checked m lines n left b → left ≡ [] → b ≡ false → Each IsGood lines
checked-all-good m lines n left b done none short =
    let P : List (List ℕ) → Type 0 = Each IsGood in done.good short (subst P (sym none) tt)

pub checked-all-long : (m : ℕ) (lines : List (List ℕ)) (n : ℕ) (left : List (List ℕ)) (b : Bool)
    → Checked m lines n left b → left ≡ [] → b ≡ true → Each IsText lines × SomeTooLong lines
checked-all-long m lines n left b done none long =
    let P : List (List ℕ) → Type 0 = Each IsText in
    (done.texts (subst P (sym none) tt), done.long long)

-- ---- the next line that says something

pub reached-loud : (n : ℕ) (lines : List (List ℕ)) (k : ℕ) (line : List ℕ) (rest : List (List ℕ))
    → Reaches n lines k line rest → ¬ SaysNothing line
reached-loud n [] k line rest r = absurd r
reached-loud n (x ∷ xs) k line rest (inl (nothing, r)) = reached-loud (suc n) xs k line rest r
reached-loud n (x ∷ xs) k line rest (inr (loud, e, same, f)) =
    λ nothing. loud (let P : List ℕ → Type 0 = SaysNothing in subst P same nothing)

pub reached-fewer : (n : ℕ) (lines : List (List ℕ)) (k : ℕ) (line : List ℕ) (rest : List (List ℕ))
    → Reaches n lines k line rest → length rest < length lines
reached-fewer n [] k line rest r = absurd r
reached-fewer n (x ∷ xs) k line rest (inl (nothing, r)) =
    omega (arith, reached-fewer (suc n) xs k line rest r)
reached-fewer n (x ∷ xs) k line rest (inr (loud, e, same, f)) = omega (arith, ap length f)

pub reached-good : (n : ℕ) (lines : List (List ℕ)) (k : ℕ) (line : List ℕ) (rest : List (List ℕ))
    → Reaches n lines k line rest → Each IsGood lines → IsGood line × Each IsGood rest
reached-good n [] k line rest r each = absurd r
reached-good n (x ∷ xs) k line rest (inl (nothing, r)) (here, each) =
    reached-good (suc n) xs k line rest r each
reached-good n (x ∷ xs) k line rest (inr (loud, e, same, f)) (here, each) =
    let P : List ℕ → Type 0 = IsGood in
    let Q : List (List ℕ) → Type 0 = Each IsGood in
    (subst P (sym same) here, subst Q (sym f) each)

-- the events of the lines, by the next one and those behind it
pub reached-says : (table : List (List ℕ)) (n : ℕ) (lines : List (List ℕ)) (k : ℕ) (line : List ℕ)
    (rest : List (List ℕ)) (said : Said) (more : List Placed) → Reaches n lines k line rest
    → Says line said → SayEvents table (suc k) rest more
    → SayEvents table n lines (record { line = k; event = event_of table said } ∷ more)
reached-says table n [] k line rest said more r says events = absurd r
reached-says table n (x ∷ xs) k line rest said more (inl (nothing, r)) says events =
    inl (nothing, reached-says table (suc n) xs k line rest said more r says events)
reached-says table n (x ∷ xs) k line rest said more (inr (loud, e, same, f)) says events =
    let P : List ℕ → Type 0 = λ l. Says l said in
    let Q : ℕ → Type 0 = λ j. SayEvents table (suc j) xs more in
    let R : List (List ℕ) → Type 0 = λ ls. SayEvents table (suc k) ls more in
    let placed : ℕ → Placed = λ j. record { line = j; event = event_of table said } in
    inr (said, more, subst P same says, ap (λ j. placed j ∷ more) e, subst Q e (subst R f events))

pub silent-says : (table : List (List ℕ)) (n : ℕ) (lines : List (List ℕ)) → Each SaysNothing lines
    → SayEvents table n lines []
silent-says table n [] each = refl
silent-says table n (x ∷ xs) (nothing, each) = inl (nothing, silent-says table (suc n) xs each)

-- ---- what comes next

pub next-more : (table : List (List ℕ)) (old new : LinesLeft) (placed : Placed)
    (later : List Placed)
    → IsNextAnswer table old new (Ok (Some placed)) → SayEvents table new.first new.lines later
    → SayEvents table old.first old.lines (placed ∷ later)
next-more table old new placed later (line, said, reached, next, says, short, e) spoken =
    let P : ℕ → Type 0 = λ n. SayEvents table n new.lines later in
    let whole : placed ≡ record { line = placed.line; event = event_of table said } =
    ap (λ v. record { line = placed.line; event = v }) e in
    let R : Placed → Type 0 = λ p. SayEvents table old.first old.lines (p ∷ later) in
    subst R (sym whole)
    (reached-says table old.first old.lines placed.line line new.lines said later reached says
    (subst P next spoken))

pub next-fewer : (table : List (List ℕ)) (old new : LinesLeft) (placed : Placed)
    → IsNextAnswer table old new (Ok (Some placed)) → length new.lines < length old.lines
next-fewer table old new placed (line, said, reached, next, says, short, e) =
    reached-fewer old.first old.lines placed.line line new.lines reached

pub next-good : (table : List (List ℕ)) (old new : LinesLeft) (placed : Placed)
    → IsNextAnswer table old new (Ok (Some placed)) → Each IsGood old.lines → Each IsGood new.lines
next-good table old new placed (line, said, reached, next, says, short, e) each =
    (reached-good old.first old.lines placed.line line new.lines reached each).1

pub next-no_fault : (table : List (List ℕ)) (old new : LinesLeft) (fault : LineError)
    → Each IsGood old.lines → IsNextAnswer table old new (Err fault) → fault ≡ Memory
next-no_fault table old new (Syntax k) each (kept, (line, rest, reached, fault)) =
    absurd (good-not_faulty line (good-text line (reached-good old.first old.lines k line rest
    reached each).0) fault)
next-no_fault table old new Limit each (kept, (k, line, rest, reached, long)) =
    absurd (good-not_long line (reached-good old.first old.lines k line rest reached each).0 long)
next-no_fault table old new Memory each kept = refl

-- ---- what is found of the lines that are left

good-checked : (n : ℕ) (line : List ℕ) (rest : List (List ℕ)) → IsGood line
    → (found : Result (Unit {0}) LineError)
    → AreChecked (record { first = suc n; lines = rest }) found
    → AreChecked (record { first = n; lines = line ∷ rest }) found
good-checked n line rest good (Ok u) each = (good, each)
good-checked n line rest good (Err (Syntax k)) fault = inr (good-text line good, fault)
good-checked n line rest good (Err Limit) (texts, long) =
    ((good-text line good, texts), inr long)
good-checked n line rest good (Err Memory) none = none

reached-checked : (n : ℕ) (lines : List (List ℕ)) (k : ℕ) (line : List ℕ) (rest : List (List ℕ))
    → Reaches n lines k line rest → IsGood line → (found : Result (Unit {0}) LineError)
    → AreChecked (record { first = suc k; lines = rest }) found
    → AreChecked (record { first = n; lines = lines }) found
reached-checked n [] k line rest r good found left = absurd r
reached-checked n (x ∷ xs) k line rest (inl (nothing, r)) good found left =
    good-checked n x xs (inl nothing) found
    (reached-checked (suc n) xs k line rest r good found left)
reached-checked n (x ∷ xs) k line rest (inr (loud, e, same, f)) good found left =
    let P : List ℕ → Type 0 = IsGood in
    let Q : ℕ → Type 0 = λ j. AreChecked (record { first = suc j; lines = xs }) found in
    let R : List (List ℕ) → Type 0 = λ ls. AreChecked (record { first = suc k; lines = ls }) found in
    good-checked n x xs (subst P same good) found (subst Q e (subst R f left))

silent-good : (lines : List (List ℕ)) → Each SaysNothing lines → Each IsGood lines
silent-good [] each = tt
silent-good (x ∷ xs) (nothing, each) = (inl nothing, silent-good xs each)

none-checked : (old new : LinesLeft) → Each SaysNothing old.lines → new.lines ≡ []
    → (found : Result (Unit {0}) LineError) → AreChecked new found → AreChecked old found
none-checked old new silent none (Ok u) each = silent-good old.lines silent
none-checked old new silent none (Err (Syntax k)) fault =
    let P : List (List ℕ) → Type 0 = λ ls. FirstFault new.first ls k in
    absurd (let no : FirstFault new.first [] k = subst P none fault in no)
none-checked old new silent none (Err Limit) (texts, long) =
    let P : List (List ℕ) → Type 0 = SomeTooLong in absurd (subst P none long)
none-checked old new silent none (Err Memory) absent = absurd absent

-- What a check finds of the lines behind the next event it finds of all.
pub next-checked : (table : List (List ℕ)) (old new : LinesLeft) (next : Option Placed)
    → IsNextAnswer table old new (Ok next) → (found : Result (Unit {0}) LineError)
    → AreChecked new found → AreChecked old found
next-checked table old new None (silent, none) found left = none-checked old new silent none found left
next-checked table old new (Some placed) (line, said, reached, next, says, short, e) found left =
    let P : ℕ → Type 0 = λ n. AreChecked (record { first = n; lines = new.lines }) found in
    reached-checked old.first old.lines placed.line line new.lines reached (inr (said, says, short))
    found (subst P next left)

-- ---- collecting

-- The events of the lines before these have been collected.
pub record Collected (table : List (List ℕ)) (lines : List (List ℕ)) (left : LinesLeft)
    (events : List Placed) : Type 0 where
  pub back : (more : List Placed) → SayEvents table left.first left.lines more
      → SayEvents table 1 lines (events ++ more)
  pub good : Each IsGood left.lines

pub collected-more : (table lines : List (List ℕ)) (old new : LinesLeft) (events : List Placed)
    (placed : Placed)
    → Collected table lines old events → IsNextAnswer table old new (Ok (Some placed))
    → Collected table lines new (events ++ placed ∷ [])
collected-more table lines old new events placed before found = record {
  back = λ more spoken.
      let Q : List Placed → Type 0 = SayEvents table 1 lines in
      subst Q (sym (append_assoc events (placed ∷ []) more)) (before.back (placed ∷ more)
      (next-more table old new placed more found spoken));
  good = next-good table old new placed found before.good;
}

pub collected-all : (table lines : List (List ℕ)) (left : LinesLeft) (events : List Placed)
    → Collected table lines left events → Each SaysNothing left.lines → SayEvents table 1 lines
    events
collected-all table lines left events done silent =
    let P : List Placed → Type 0 = SayEvents table 1 lines in
    subst P (append-nil events) (done.back [] (silent-says table left.first left.lines silent))

-- no line that is left is at fault
pub collected-fault : (table : List (List ℕ)) (bytes : List ℕ) (old new : LinesLeft)
    (events : List Placed) (fault : LineError)
    → Collected table (lines_of bytes) old events → IsNextAnswer table old new (Err fault)
    → IsFileAnswer table bytes (Err fault)
collected-fault table bytes old new events fault before found =
    let P : LineError → Type 0 = λ e. IsFileAnswer table bytes (Err e) in
    subst P (sym (next-no_fault table old new fault before.good found)) tt

-- What a line is, by how it begins and by the sets in it.
use Rattle.std.proofs.Common.{◌≡◌, ◌≢◌, ℕ, ◌<◌, ◌≤◌, ◌⊎◌, List, [], ◌∷◌, ◌++◌, length, map, take, Option, Some, None, Ok, Err, Result, inl, inr, codes, sym, ap, ◌∙◌, subst, arith}
use Rattle.hy_text.specs.Bytes.{past_blanks}
use Rattle.hy_text.specs.Sets.{SpellsSet, letter_of}
use Rattle.hy_text.specs.Words.{SpellsWord}
use denote.Ref.{Bor}
use Rattle.std.proofs.lemmas.List.{take_all, length-map}
use Rattle.hy_bits.specs.Letter.{Letter as NameSet}
use Rattle.hy_text.proofs.ReadingSets.{apart}
use Rattle.hy_text.proofs.Once.{one-set, one-word}
use Rattle.hy_finite.specs.Traces.{most_letters}
use Rattle.hy_finite.specs.EventLines.{Said, word, letter, finish, save, back, SaysNothing, Spells, IsOnly, session_at}
use Rattle.hy_finite.specs.declared.checks.LineCheck.{LineCheck}
use Rattle.hy_finite.specs.declared.checks.LineCheck.TheVariants.{Good, TooLong, Fault}
use Rattle.hy_finite.specs.declared.begun.Begun.{Begun}
use Rattle.hy_finite.specs.declared.begun.Begun.TheVariants.{Nothing, Word, Letter, End, Save, Back}
use Rattle.hy_finite.specs.LineParts.{IsChecked, IsWordChecked, IsSetChecked, IsBegun, IsBegunHere, IsTraceAnswer}
use Rattle.hy_finite.specs.declared.event.Event.{Event}
use Rattle.hy_text.specs.declared.line_error.LineError.{LineError}
use Rattle.hy_text.specs.declared.line_error.LineError.TheVariants.{Syntax, Limit, Memory}
use Rattle.hy_finite.specs.EventAnswers.{IsLineAnswer, IsLetterAnswer}
use Rattle.hy_finite.proofs.Saying.{begins-not, same-session, session-begins}

-- ---- texts that say nothing that is taken

-- A mark is `!save` or `!back`.
pub no-mark : (text rest : List ℕ) → text ≡ 33 ∷ rest → ¬ IsOnly text (codes "!save")
    → ¬ IsOnly text (codes "!back") → (said : Said) → ¬ Spells text said
no-mark text rest first no_save no_back (word sets) =
    begins-not text 33 rest first (word sets) (omega arith)
no-mark text rest first no_save no_back (letter n names) =
    begins-not text 33 rest first (letter n names) (omega arith)
no-mark text rest first no_save no_back (finish n) =
    begins-not text 33 rest first (finish n) (omega arith)
no-mark text rest first no_save no_back save = no_save
no-mark text rest first no_save no_back back = no_back

no-number : (text : List ℕ) (n : ℕ) (behind : List ℕ) → session_at text ≡ None
    → session_at text ≡ Some (n, behind) → ⊥
no-number text n behind none session = cc

-- Behind `@` stands no number.
pub no-session : (text rest : List ℕ) → text ≡ 64 ∷ rest → session_at text ≡ None → (said : Said)
    → ¬ Spells text said
no-session text rest first none (word sets) =
    begins-not text 64 rest first (word sets) (omega arith)
no-session text rest first none (letter n names) =
    λ (behind, tail, session, set, end). no-number text n behind none session
no-session text rest first none (finish n) =
    λ (behind, session, only). no-number text n behind none session
no-session text rest first none save = begins-not text 64 rest first save (omega arith)
no-session text rest first none back = begins-not text 64 rest first back (omega arith)

-- The first byte begins no line.
pub no-line : (text : List ℕ) (b : ℕ) (rest : List ℕ) → text ≡ b ∷ rest → b ≢ 123 → b ≢ 64
    → b ≢ 33 → (said : Said) → ¬ Spells text said
no-line text b rest first word_not session_not mark_not (word sets) =
    begins-not text b rest first (word sets) word_not
no-line text b rest first word_not session_not mark_not (letter n names) =
    begins-not text b rest first (letter n names) session_not
no-line text b rest first word_not session_not mark_not (finish n) =
    begins-not text b rest first (finish n) session_not
no-line text b rest first word_not session_not mark_not save =
    begins-not text b rest first save mark_not
no-line text b rest first word_not session_not mark_not back =
    begins-not text b rest first back mark_not

-- What begins with a brace is a word, if anything.
pub no-braces : (text inner : List ℕ) → text ≡ 123 ∷ inner → ((sets : List (List (List ℕ)))
    → ¬ SpellsWord text sets []) → (said : Said) → ¬ Spells text said
no-braces text inner first none (word sets) = none sets
no-braces text inner first none (letter n names) =
    begins-not text 123 inner first (letter n names) (omega arith)
no-braces text inner first none (finish n) =
    begins-not text 123 inner first (finish n) (omega arith)
no-braces text inner first none save = begins-not text 123 inner first save (omega arith)
no-braces text inner first none back = begins-not text 123 inner first back (omega arith)

-- Behind the session stands neither a set nor `end`.
pub no-letter : (text : List ℕ) (n : ℕ) (set : List ℕ) → session_at text ≡ Some (n, set)
    → ¬ IsOnly set (codes "end")
    → ((names : List (List ℕ)) (rest : List ℕ) → SpellsSet set names rest → ¬
    (past_blanks rest ≡ []))
    → (said : Said) → ¬ Spells text said
no-letter text n set session no_end none (letter m names) (behind, rest, other, spelled, end) =
    let P : List ℕ → Type 0 = λ t. SpellsSet t names rest in
    none names rest (subst P (same-session text m n behind set other session).1 spelled) end
no-letter text n set session no_end none (finish m) (behind, other, only) =
    let P : List ℕ → Type 0 = λ t. IsOnly t (codes "end") in
    no_end (subst P (same-session text m n behind set other session).1 only)
no-letter text n set session no_end none (word sets) spelled =
    let (inner, first) = session-begins text n set session in
    begins-not text 64 inner first (word sets) (omega arith) spelled
no-letter text n set session no_end none save spelled =
    let (inner, first) = session-begins text n set session in
    begins-not text 64 inner first save (omega arith) spelled
no-letter text n set session no_end none back spelled =
    let (inner, first) = session-begins text n set session in
    begins-not text 64 inner first back (omega arith) spelled

-- ---- words of sets and what stands behind them

-- A word behind which more stands is not the whole text.
pub no-word : (text : List ℕ) (sets : List (List (List ℕ))) (rest : List ℕ)
    → SpellsWord text sets rest → ¬ (rest ≡ []) → (others : List (List (List ℕ)))
    → ¬ SpellsWord text others []
no-word text sets rest spelled more others whole =
    more (one-word text sets others rest [] spelled whole).1

pub no-set : (text : List ℕ) (names : List (List ℕ)) (rest : List ℕ) → SpellsSet text names rest
    → ¬ (past_blanks rest ≡ [])
    → (others : List (List ℕ)) (end : List ℕ) → SpellsSet text others end → ¬ (past_blanks end ≡ [])
no-set text names rest spelled more others end whole none =
    more (ap past_blanks (one-set text names others rest end spelled whole).1 ∙ none)

-- ---- a line by its parts

pub checked-word : (line inner : List ℕ) (check : LineCheck) → ¬ SaysNothing line
    → past_blanks line ≡ 123 ∷ inner → IsWordChecked (past_blanks line) check → IsChecked line check
checked-word line inner Good speaks first (sets, spelled, short) = inr (word sets, spelled, short)
checked-word line inner TooLong speaks first (sets, spelled, long) =
    record { sets = sets; says = spelled; long = long }
checked-word line inner Fault speaks first none =
    record { speaks = speaks; none = no-braces (past_blanks line) inner first none }

pub checked-set : (line : List ℕ) (n : ℕ) (set : List ℕ) (check : LineCheck) → ¬ SaysNothing line
    → session_at (past_blanks line) ≡ Some (n, set) → ¬ IsOnly set (codes "end")
    → IsSetChecked set check → IsChecked line check
checked-set line n set Good speaks session no_end (names, rest, spelled, end) =
    inr (letter n names, (set, rest, session, spelled, end), tt)
checked-set line n set TooLong speaks session no_end h = absurd h
checked-set line n set Fault speaks session no_end none =
    record { speaks = speaks; none = no-letter (past_blanks line) n set session no_end none }

-- ---- how a line begins

pub speaks : (line : List ℕ) (b : ℕ) (rest : List ℕ) → past_blanks line ≡ b ∷ rest → b ≢ 35
    → ¬ SaysNothing line
speaks line b rest first apart_from (inl none) = cc
speaks line b rest first apart_from (inr (tail, comment)) =
    apart b 35 (past_blanks line) rest tail apart_from first comment

pub begun-line : (line : List ℕ) (begun : Option Begun) → ¬ SaysNothing line
    → IsBegunHere (past_blanks line) begun → IsBegun line begun
begun-line line None speaks none = (speaks, none)
begun-line line (Some Nothing) speaks here = absurd here
begun-line line (Some (Word text)) speaks here = (speaks, here)
begun-line line (Some (Letter n set)) speaks here = (speaks, here)
begun-line line (Some (End n)) speaks here = (speaks, here)
begun-line line (Some Save) speaks here = (speaks, here)
begun-line line (Some Back) speaks here = (speaks, here)

pub letter-line : (table : List (List ℕ)) (line : List ℕ) (n : ℕ) (set : Bor (List ℕ))
    (answer : Result (Option Event) LineError)
    → IsBegun line (Some (Letter n set)) → IsLetterAnswer table n set.now answer → IsLineAnswer
    table line answer
letter-line table line n set (Ok None) begun h = absurd h
letter-line table line n set (Ok (Some event)) (loud, (session, no_end))
    (names, rest, spelled, end, e) =
    (letter n names, (set.now, rest, session, spelled, end), tt, e)
letter-line table line n set (Err (Syntax k)) (loud, (session, no_end)) (first, none) = (
  first,
  record {
    speaks = loud;
    none = no-letter
        (past_blanks line) n set.now session no_end none;
  },
)
letter-line table line n set (Err Limit) begun h = absurd h
letter-line table line n set (Err Memory) begun h = absurd h

pub fault-line : (table : List (List ℕ)) (line text inner : List ℕ) (fault : LineError)
    → ¬ SaysNothing line → past_blanks line ≡ 123 ∷ inner → text ≡ past_blanks line
    → IsTraceAnswer table text (Err fault) → IsLineAnswer table line (Err fault)
fault-line table line text inner (Syntax k) speaks first here (one, none) = (
  one,
  record {
    speaks = speaks;
    none = no-braces (past_blanks line) inner first
        (λ sets spelled. let P : List ℕ → Type 0 = λ t. SpellsWord t sets [] in
        none sets (subst P (sym here) spelled));
  },
)
fault-line table line text inner Limit speaks first here (sets, spelled, long) =
    let P : List ℕ → Type 0 = λ t. SpellsWord t sets [] in
    record { sets = sets; says = subst P here spelled; long = long }
fault-line table line text inner Memory speaks first here h = tt

-- ---- a whole trace

some-sets : (text : List ℕ) (sets : List (List (List ℕ))) (rest : List ℕ)
    → SpellsWord text sets rest → 1 ≤ length sets
some-sets text [] rest spelled = absurd spelled
some-sets text (x ∷ sets) rest spelled = omega arith

pub trace-found : (table : List (List ℕ)) (sets : List (List (List ℕ)))
    (old letters : List NameSet) → old ≡ [] → length sets ≤ most_letters
    → letters ≡ old ++ take most_letters (map (letter_of table) sets) → letters ≡ map
    (letter_of table) sets
trace-found table sets old letters none short kept =
    kept ∙ ap (λ l. l ++ take most_letters (map (letter_of table) sets)) none
    ∙ take_all most_letters (map (letter_of table) sets) (omega (
      arith,
      length-map sets
          (letter_of table),
    ))

pub trace-fits : (table : List (List ℕ)) (text rest : List ℕ) (sets : List (List (List ℕ)))
    (letters : List NameSet) → SpellsWord text sets rest → length sets ≤ most_letters
    → letters ≡ map (letter_of table) sets → ¬ ((length letters ≡ 0) ⊎ (1024 < length letters))
trace-fits table text rest sets letters spelled short e outside =
    let some = some-sets text sets rest spelled in
    let long : length letters ≡ length sets = ap length e ∙ length-map sets (letter_of table) in
    elim outside [ inl none ↦ omega arith | inr many ↦ omega arith ]

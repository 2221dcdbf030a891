-- Facts that are true at the start of a safe net.
use Rattle.std.proofs.Common.{◌≡◌, ℕ, ◌+◌, ◌<◌, ◌||◌, ◌/◌, Bool, cond, not, true, false, List, [], ◌∷◌, ◌++◌, length, inl, inr, refl, sym, ◌∙◌, ap, subst, arith, append-nil, Option, Some, None}
use Rattle.std.specs.Prelude.{IsTrue}
use Rattle.std.specs.List.{All, Contains}
use Rattle.std.proofs.lemmas.List.Elements.{All-head, All-tail, Contains-append_right, Contains-push_cases}
use Rattle.hy_text.specs.Lines.{lines_of}
use Rattle.aig_net.specs.declared.parts.Reset.{Reset}
use Rattle.aig_net.specs.Nets.{Net, Valuation, Below, is_even, literal_value, IsStart, ResetTo, latch_variable}
use Rattle.live_safe.specs.declared.safe_net.SafeNet.{SafeNet}
use Rattle.cnf_frames.specs.declared.facts.Fact.{Fact}
use Rattle.cnf_frames.specs.declared.facts.Fact.TheVariants.{Zero, One, Same, Differ, AnyOf}
use Rattle.cnf_frames.specs.Facts.{IsSafe, any_true, HoldsIn, FactHolds, AllHold, IsIn, AllIn}
use Rattle.cert_text.specs.declared.fact_line.FactLine.{FactLine}
use Rattle.cert_text.specs.FactLines.{fact_of}
use Rattle.cert_text.specs.InductionLines.{SaysSimple, SaysFact}
use Rattle.cert_text.specs.Lines.{Line, Speaks}
use Rattle.cert_text.proofs.ClauseLines.{simple_fact, fact_literals}
use Rattle.cert_text.proofs.OneReading.{one_fact}
use Rattle.induction_judge.specs.Reading.{AreLines, AreSaid, IsStartFact, AreStartFacts, IsStartOf, IsClauseTaken, IsFactTaken}
use Rattle.induction_judge.proofs.Walking.{AreLeft, stepped, not_last, over}

-- a literal of latches that are 0
any-start : (state : ℕ → Bool) (n : ℕ) → ((j : ℕ) → j < n → state j ≡ false) → (ls : List ℕ)
    → All (Below n) ls → any_true state ls ≡ any_true (λ _. false) ls
any-start state n zeros [] all = refl
any-start state n zeros (l ∷ ls) all =
    ap (λ b. cond (is_even l) b (not b) || any_true state ls)
    (zeros (l / 2) (All-head (Below n) l ls all))
    ∙ ap (λ b. literal_value (λ _. false) l || b)
    (any-start state n zeros ls (All-tail (Below n) l ls all))

start-holds : (net : Net) (v : Valuation) (n : ℕ)
    → ((j : ℕ) → j < n → v (latch_variable net j) ≡ false) → (fact : Fact) → IsIn n fact
    → HoldsIn (λ _. false) fact → FactHolds net v fact
start-holds net v n zeros (Zero j) lt holds = zeros j lt
start-holds net v n zeros (One j) lt holds = let clash : false ≡ true = holds in absurd (cc)
start-holds net v n zeros (Same i j) (li, lj) holds = zeros i li ∙ sym (zeros j lj)
start-holds net v n zeros (Differ i j) inside holds = absurd (holds refl)
start-holds net v n zeros (AnyOf ls) (some, all) holds =
    any-start (λ j. v (latch_variable net j)) n zeros ls all ∙ holds

pub facts_start : (safe : SafeNet) → IsSafe safe → (facts : List Fact)
    → AreStartFacts (length safe.net.latches) facts → (v : Valuation) → IsStart safe.net v
    → AllHold safe.net facts v
facts_start safe is facts are v start fact there =
    let (inside, holds) = are fact there in
    start-holds safe.net v (length safe.net.latches) zeros fact inside holds
  where
    zeros : (j : ℕ) → j < length safe.net.latches → v (latch_variable safe.net j) ≡ false
    zeros j lt =
        let P : Reset → Type 0 = λ r. ResetTo r (v (latch_variable safe.net j)) in
        subst P (is.zero j) (start j lt)

pub start_facts : (safe : SafeNet) → IsSafe safe → (facts : List Fact)
    → AllIn (length safe.net.latches) facts
    → ((v : Valuation) → IsStart safe.net v → AllHold safe.net facts v)
    → AreStartFacts (length safe.net.latches) facts
start_facts safe is facts inside starts fact there =
    (inside fact there, starts (λ _. false) start fact there)
  where
    start : IsStart safe.net (λ _. false)
    start j lt = let P : Reset → Type 0 = λ r. ResetTo r false in subst P (sym (is.zero j)) refl

-- ---- facts that are taken

-- the fact that a line says
pub start_taken : (clauses : Bool) (latches : ℕ) (line : Line) (said : FactLine)
    (taken : Option Fact) → SaysSimple line (fact_of said)
    → IsStartOf latches (fact_of said) taken → IsFactTaken clauses latches line taken
start_taken clauses latches line said None says none = λ fact also start.
    let P : Fact → Type 0 = IsStartFact latches in
    let simple = simple_fact clauses line (fact_of said) says in
    none (subst P (one_fact clauses line fact (fact_of said) also simple) start)
start_taken clauses latches line said (Some taken) says (same, start) =
    let P : Fact → Type 0 = SaysFact clauses line in
    (subst P (sym same) (simple_fact clauses line (fact_of said) says), start)

-- the clause that a line says, which says no other fact
pub clause_taken : (clauses : Bool) (latches : ℕ) (line : Line) (taken : Option Fact)
    → IsTrue clauses → ¬ Speaks SaysSimple line → IsClauseTaken latches line taken
    → IsFactTaken clauses latches line taken
clause_taken clauses latches line None on none bad = λ fact says start.
    let (ls, same, _, literals) = fact_literals clauses line fact none says in
    let P : Fact → Type 0 = IsStartFact latches in bad ls literals (subst P same start)
clause_taken clauses latches line (Some taken) on none (ls, same, literals, start) =
    let P : Fact → Type 0 = IsStartFact latches in
    let Q : Fact → Type 0 = SaysFact clauses line in
    (subst Q (sym same) (on, literals), subst P (sym same) start)

-- no fact where the line says no simple one, and clauses are none
pub no_clause : (clauses : Bool) (line : Line) (fact : Fact) → clauses ≡ false
    → ¬ Speaks SaysSimple line → ¬ SaysFact clauses line fact
no_clause clauses line fact off none says =
    let (ls, same, on, literals) = fact_literals clauses line fact none says in
    let clash : false ≡ true = sym off ∙ on in absurd (cc)

pub one_start : (latches : ℕ) (facts now : List Fact) (fact : Fact) → AreStartFacts latches facts
    → IsStartFact latches fact → now ≡ facts ++ fact ∷ [] → AreStartFacts latches now
one_start latches facts now fact before start is f there =
    let P : List Fact → Type 0 = λ fs. Contains fs f in
    elim (Contains-push_cases facts fact f (subst P is there)) [
      | inl old ↦ before f old
      | inr same ↦ let Q : Fact → Type 0 = IsStartFact latches in subst Q same start
    ]

-- The next line says no fact that is true at the start.
pub bad_fact : (clauses : Bool) (latches : ℕ) (text left next : List ℕ) (line : Line) (n k m : ℕ)
    (taken : List Fact) → k ≡ m + 1 → AreLeft (SaysFact clauses) text n left k taken
    → lines_of left ≡ line ∷ lines_of next → IsFactTaken clauses latches line None
    → (facts : List Fact) (rest : List Line) → AreSaid (SaysFact clauses) text n facts rest
    → ¬ AreStartFacts latches facts
bad_fact clauses latches text left next line n k m taken one before cut bad facts rest said start =
    let (more, parts, here) = before facts rest said in
    let step = stepped (SaysFact clauses) left next line k m more rest one here cut in
    let whole : facts ≡ taken ++ step.first ∷ step.more =
    parts ∙ ap (λ l. taken ++ l) step.parts in
    let P : List Fact → Type 0 = λ fs. Contains fs step.first in
    bad step.first step.says (start step.first (subst P (sym whole)
    (Contains-append_right taken (step.first ∷ step.more) step.first (0, omega arith, refl))))

pub no_more_lines : (clauses : Bool) (text left : List ℕ) (line : Line) (n k : ℕ)
    (taken : List Fact) → 0 < k → AreLeft (SaysFact clauses) text n left k taken
    → lines_of left ≡ line ∷ [] → (facts : List Fact) (rest : List Line)
    → ¬ AreSaid (SaysFact clauses) text n facts rest
no_more_lines clauses text left line n k taken some before cut facts rest said =
    let (more, parts, here) = before facts rest said in
    not_last (SaysFact clauses) left line k more rest some cut here

pub all_taken : (clauses : Bool) (text left : List ℕ) (n k : ℕ) (taken : List Fact) → k ≡ 0
    → AreLeft (SaysFact clauses) text n left k taken → (facts : List Fact) (rest : List Line)
    → AreSaid (SaysFact clauses) text n facts rest → (taken ≡ facts) × AreLines left rest
all_taken clauses text left n k taken none before facts rest said =
    let (more, parts, here) = before facts rest said in
    let (over_is, lines) = over (SaysFact clauses) left k more rest none here in
    (sym (parts ∙ ap (λ l. taken ++ l) over_is ∙ append-nil taken), lines)

-- What the readers of the lines of a proof by induction answer, for all that the lines may say.
use Rattle.std.specs.Prelude.{◌≡◌, ℕ, Bool, false, List, [], ◌∷◌, ◌++◌, length, Contains, Option, Some, None}
use denote.Ref.{Bor}
use Rattle.chain_check.specs.declared.logs.Learned.{Learned}
use Rattle.chain_check.specs.Clauses.{Clause}
use Rattle.chain_check.specs.Logs.{IsRefutation}
use Rattle.aig_net.specs.Nets.{Below}
use Rattle.cnf_frames.specs.declared.facts.Fact.{Fact}
use Rattle.cnf_frames.specs.declared.facts.Fact.TheVariants.{AnyOf}
use Rattle.cnf_frames.specs.Facts.{HoldsIn, IsIn}
use Rattle.hy_text.specs.Lines.{lines_of}
use Rattle.hy_text.specs.Numbers.{SaysNumber}
use Rattle.cert_text.specs.Lines.{Line, words_of, Say}
use Rattle.cert_text.specs.InductionLines.{SaysLiterals, SaysFact, SaysLogHead, SaysLearned, SayLogs}

-- These are the lines of the text, each with its line feed.
abbrev pub AreLines : List ℕ → List Line → Type 0
AreLines text lines = lines_of text ≡ lines ++ [] ∷ []

-- At the front of the text so many lines say these values, and these lines stand behind them.
pub record AreSaid {A : Type 0} (Says : Line → A → Type 0) (text : List ℕ) (n : ℕ)
    (values : List A) (rest : List Line) : Type 0 where
  pub front : List Line
  pub parts : AreLines text (front ++ rest)
  pub said : Say Says front values
  pub many : length values ≡ n

-- ---- facts

-- The fact names latches, of which there are so many, and is true where all of them are 0.
abbrev pub IsStartFact : ℕ → Fact → Type 0
IsStartFact latches fact = IsIn latches fact × HoldsIn (λ _. false) fact

abbrev pub AreStartFacts : ℕ → List Fact → Type 0
AreStartFacts latches facts = (fact : Fact) → Contains facts fact → IsStartFact latches fact

-- It is the fact, and one that is true at the start; or the fact is none such.
abbrev pub IsStartOf : ℕ → Fact → Option Fact → Type 0
IsStartOf latches fact None = ¬ IsStartFact latches fact
IsStartOf latches fact (Some taken) = (taken ≡ fact) × IsStartFact latches taken

-- The word is a literal of a latch, of which there are so many.
abbrev pub SaysLatch : ℕ → List ℕ → ℕ → Type 0
SaysLatch latches word l = SaysNumber word l × Below latches l

-- So is each word of the text.
abbrev pub SaysLatches : ℕ → List ℕ → List ℕ → Type 0
SaysLatches latches text = Say (SaysLatch latches) (words_of text)

-- The line says the clause, which is one that is true at the start; or it says none such.
abbrev pub IsClauseTaken : ℕ → Line → Option Fact → Type 0
IsClauseTaken latches line None =
    (ls : List ℕ) → SaysLiterals line ls → ¬ IsStartFact latches (AnyOf ls)
IsClauseTaken latches line (Some fact) =
    (ls : List ℕ) × (fact ≡ AnyOf ls) × SaysLiterals line ls × IsStartFact latches (AnyOf ls)

-- The line says the fact, which is one that is true at the start; or it says none such.
abbrev pub IsFactTaken : Bool → ℕ → Line → Option Fact → Type 0
IsFactTaken clauses latches line None =
    (fact : Fact) → SaysFact clauses line fact → ¬ IsStartFact latches fact
IsFactTaken clauses latches line (Some fact) =
    SaysFact clauses line fact × IsStartFact latches fact

-- The facts that n lines say are those taken, with this text behind them, and all of them are true at
-- the start; or they are not.
abbrev pub AreFactsTaken : Bool → ℕ → List ℕ → ℕ → Option (Bor (List ℕ)) → List Fact → Type 0
AreFactsTaken clauses latches text n None taken =
    (facts : List Fact) (rest : List Line) → AreSaid (SaysFact clauses) text n facts rest
    → ¬ AreStartFacts latches facts
AreFactsTaken clauses latches text n (Some left) taken =
    (facts : List Fact) (rest : List Line) → AreSaid (SaysFact clauses) text n facts rest
    → (taken ≡ facts) × AreLines left.now rest

-- ---- logs

-- At the front of the text stands this log, and these lines behind it.
pub record IsLogAt (text : List ℕ) (log : List Learned) (rest : List Line) : Type 0 where
  pub head : Line
  pub clauses : List Line
  pub parts : AreLines text (head ∷ (clauses ++ rest))
  pub counts : SaysLogHead head (length log)
  pub said : Say SaysLearned clauses log

-- The clauses of n lines refute those given, with this text behind them; or they do not.
abbrev pub AreClausesJudged : ℕ → List Clause → List ℕ → ℕ → Option (Bor (List ℕ)) → Type 0
AreClausesJudged variables given text n None =
    (log : List Learned) (rest : List Line) → AreSaid SaysLearned text n log rest
    → ¬ IsRefutation variables given log
AreClausesJudged variables given text n (Some left) =
    (log : List Learned) (rest : List Line) → AreSaid SaysLearned text n log rest
    → IsRefutation variables given log × AreLines left.now rest

-- The log at the front of the text refutes the clauses, with this text behind it; or it does not.
abbrev pub IsLogJudged : ℕ → List Clause → List ℕ → Option (Bor (List ℕ)) → Type 0
IsLogJudged variables given text None =
    (log : List Learned) (rest : List Line) → IsLogAt text log rest
    → ¬ IsRefutation variables given log
IsLogJudged variables given text (Some left) =
    (log : List Learned) (rest : List Line) → IsLogAt text log rest
    → IsRefutation variables given log × AreLines left.now rest

-- At the front of the text stand these logs, and these lines behind them.
pub record AreLogs (text : List ℕ) (logs : List (List Learned)) (rest : List Line) : Type 0 where
  pub lines : List Line
  pub parts : AreLines text (lines ++ rest)
  pub said : SayLogs lines logs

-- Literals of latches, read word by word.
use Rattle.std.proofs.Common.{◌≡◌, ℕ, false, true, List, [], ◌∷◌, ◌++◌, refl, sym, ◌∙◌, ap, subst, append_assoc, None, Some, Bool}
use Rattle.std.specs.Prelude.{codes}
use Rattle.std.specs.Bool.{then_some}
use Rattle.std.specs.List.{All}
use Rattle.std.proofs.lemmas.List.Elements.{All-nil, All-cons, All-head, All-tail}
use Rattle.aig_net.specs.Nets.{Below}
use Rattle.hy_text.specs.Numbers.{SaysNumber}
use Rattle.cnf_frames.specs.declared.facts.Fact.TheVariants.{AnyOf}
use Rattle.cnf_frames.specs.Facts.{any_true}
use Rattle.cert_text.specs.Lines.{Line, words_of, Say, Speaks}
use Rattle.cert_text.proofs.ClauseLines.{behind_sign, with_sign}
use Rattle.cert_text.proofs.NumbersRead.{same_number}
use Rattle.cert_text.proofs.OneReading.{say_once}
use Rattle.cert_text.proofs.WordsRead.{each_said, said_each, each_step, each_bad}
use Rattle.induction_judge.specs.Reading.{SaysLatch, SaysLatches, IsClauseTaken}

-- ---- numbers that are literals of latches

split : (latches : ℕ) (words : List (List ℕ)) (ls : List ℕ) → Say (SaysLatch latches) words ls
    → Say SaysNumber words ls × All (Below latches) ls
split latches [] [] said = (tt, All-nil (Below latches))
split latches [] (l ∷ ls) said = absurd said
split latches (word ∷ words) [] said = absurd said
split latches (word ∷ words) (l ∷ ls) ((says, below), said) =
    let (more, all) = split latches words ls said in
    ((says, more), All-cons (Below latches) l ls below all)

joined : (latches : ℕ) (words : List (List ℕ)) (ls : List ℕ) → Say SaysNumber words ls
    → All (Below latches) ls → Say (SaysLatch latches) words ls
joined latches [] [] said all = tt
joined latches [] (l ∷ ls) said all = absurd said
joined latches (word ∷ words) [] said all = absurd said
joined latches (word ∷ words) (l ∷ ls) (says, said) all = (
  (says, All-head (Below latches) l ls all),
  joined latches words ls said (All-tail (Below latches) l ls all),
)

-- ---- words one after another

-- The literals so far, and what they and those behind them are together.
pub record AreRead (latches : ℕ) (text left ls : List ℕ) : Type 0 where
  pub back : Speaks (SaysLatches latches) text → Speaks (SaysLatches latches) left
  pub front : (more : List ℕ) → SaysLatches latches left more
      → SaysLatches latches text (ls ++ more)

pub none_read : (latches : ℕ) (text ls : List ℕ) → ls ≡ [] → AreRead latches text text ls
none_read latches text ls none =
    let P : List ℕ → Type 0 = AreRead latches text text in
    subst P (sym none) (record { back = λ said. said; front = λ more said. said })

pub more_read : (latches : ℕ) (text left rest word ls added : List ℕ) (l : ℕ)
    → AreRead latches text left ls → words_of left ≡ word ∷ words_of rest
    → SaysLatch latches word l → added ≡ ls ++ l ∷ [] → AreRead latches text rest added
more_read latches text left rest word ls added l are cut says is = record {
  back = λ said. behind (are.back said);
  front = λ more said.
      let S : List (List ℕ) → Type 0 = λ ws. Say (SaysLatch latches) ws (l ∷ more) in
      let T : List ℕ → Type 0 = SaysLatches latches text in
      let whole : T (ls ++ l ∷ more) = are.front (l ∷ more) (subst S (sym cut) (says, said)) in
      subst T (sym (append_assoc ls (l ∷ []) more) ∙ ap (λ t. t ++ more) (sym is)) whole;
}
  where
    behind : Speaks (SaysLatches latches) left → Speaks (SaysLatches latches) rest
    behind (all, said) =
        each_said (SaysLatch latches) (words_of rest)
        ((each_step (SaysLatch latches) (words_of left) (words_of rest) word cut (l, says)).0
        (said_each (SaysLatch latches) (words_of left) all said))

-- another word
pub bad_word : (latches : ℕ) (text left : List ℕ) (rest : List (List ℕ)) (word ls : List ℕ)
    → AreRead latches text left ls → words_of left ≡ word ∷ rest
    → ¬ Speaks (SaysLatch latches) word → ¬ Speaks (SaysLatches latches) text
bad_word latches text left rest word ls are cut none said =
    let (all, here) = are.back said in
    each_bad (SaysLatch latches) (words_of left) rest word cut none
    (said_each (SaysLatch latches) (words_of left) all here)

pub last_read : (latches : ℕ) (text left word ls added : List ℕ) (l : ℕ)
    → AreRead latches text left ls → words_of left ≡ word ∷ [] → SaysLatch latches word l
    → added ≡ ls ++ l ∷ [] → SaysLatches latches text added
last_read latches text left word ls added l are cut says is =
    let S : List (List ℕ) → Type 0 = λ ws. Say (SaysLatch latches) ws (l ∷ []) in
    let T : List ℕ → Type 0 = SaysLatches latches text in
    subst T (sym is) (are.front (l ∷ []) (subst S (sym cut) (says, tt)))

-- ---- clauses

pub no_latches : (latches : ℕ) (line rest : Line)
    → words_of line ≡ codes "f" ∷ codes "|" ∷ words_of rest → ¬ Speaks (SaysLatches latches) rest
    → IsClauseTaken latches line None
no_latches latches line rest cut none = λ ls says ((some, all), holds).
    none (ls, joined latches (words_of rest) ls (behind_sign line rest ls cut says) all)

-- where some literal is true at the start, and where none is
pub clause_taken : (latches : ℕ) (line rest : Line) (ls : List ℕ) (starts : Bool)
    → words_of line ≡ codes "f" ∷ codes "|" ∷ words_of rest → SaysLatches latches rest ls
    → starts ≡ any_true (λ _. false) ls
    → IsClauseTaken latches line (then_some starts (AnyOf ls))
clause_taken latches line rest ls true cut said is =
    let (numbers, all) = split latches (words_of rest) ls said in
    let (words, parts, also, some) = with_sign line rest ls cut numbers in
    (ls, refl, (words, parts, also, some), ((some, all), sym is))
clause_taken latches line rest ls false cut said is = λ ms says (inside, holds).
    let (numbers, all) = split latches (words_of rest) ls said in
    let same : ls ≡ ms = say_once SaysNumber same_number (words_of rest) ls ms numbers
    (behind_sign line rest ms cut says) in
    let clash : false ≡ true = is ∙ ap (any_true (λ _. false)) same ∙ holds in absurd (cc)

-- Lines of clauses of latches.
use Rattle.std.proofs.Common.{◌≡◌, ◌≢◌, ℕ, ◌<◌, ◌↔◌, Bool, true, List, [], ◌∷◌, length, refl, sym, ◌∙◌, ap, subst, arith, Option, Some, None}
use Rattle.std.specs.Prelude.{MatchOption, IsTrue, codes}
use denote.Ref.{Bor}
use Rattle.cnf_frames.specs.declared.facts.Fact.{Fact}
use Rattle.cnf_frames.specs.declared.facts.Fact.TheVariants.{Zero, One, Same, Differ, AnyOf}
use Rattle.hy_text.specs.Numbers.{SaysNumber}
use Rattle.cert_text.specs.FactLines.{AreLiteralsFound}
use Rattle.cert_text.specs.InductionLines.{SaysSimple, SaysLiterals, SaysFact}
use Rattle.cert_text.specs.LineParts.{SaysNumbers}
use Rattle.cert_text.specs.Lines.{Line, words_of, Say, Speaks}
use Rattle.cert_text.proofs.Cutting.{pieces_some}
use Rattle.cert_text.proofs.Lists.{tails}

-- ---- the literals

some_words : (words : List (List ℕ)) (ls : List ℕ) → Say SaysNumber words ls → 0 < length ls
    → (word : List ℕ) × (more : List (List ℕ)) × (words ≡ word ∷ more)
some_words [] [] said some = absurd (omega (arith, some))
some_words [] (l ∷ ls) said some = absurd said
some_words (word ∷ more) ls said some = (word, more, refl)

some_numbers : (words : List (List ℕ)) (ls : List ℕ) → words ≢ [] → Say SaysNumber words ls
    → 0 < length ls
some_numbers [] ls some said = absurd (some refl)
some_numbers (word ∷ words) [] some said = absurd said
some_numbers (word ∷ words) (l ∷ ls) some said = omega arith

-- no line of more than two words that begins with the word of facts
pub no_literals : (line : Line)
    → ((next : List ℕ) (more : List (List ℕ)) → words_of line ≢ codes "f" ∷ next ∷ more)
    → ¬ Speaks SaysLiterals line
no_literals line none (ls, (words, parts, said, some)) = none (codes "|") words parts

-- what stands behind the sign
pub literals_found : (line fact : Line) (found : Option (Bor (List ℕ)))
    → words_of line ≡ codes "f" ∷ words_of fact
    → MatchOption found
    ((next : List ℕ) (more : List (List ℕ)) → words_of fact ≢ codes "|" ∷ next ∷ more)
    (λ rest. words_of fact ≡ codes "|" ∷ words_of rest.now) → AreLiteralsFound line found
literals_found line fact None cut none = λ (ls, (words, parts, said, some)).
    let (word, more, is) = some_words words ls said some in
    none word more (tails (sym cut ∙ parts) ∙ ap (λ l. codes "|" ∷ l) is)
literals_found line fact (Some rest) cut says = cut ∙ ap (λ l. codes "f" ∷ l) says

pub behind_sign : (line rest : Line) (ls : List ℕ)
    → words_of line ≡ codes "f" ∷ codes "|" ∷ words_of rest → SaysLiterals line ls
    → SaysNumbers rest ls
behind_sign line rest ls cut (words, parts, said, some) =
    let same : words ≡ words_of rest = tails (tails (sym parts ∙ cut)) in
    let P : List (List ℕ) → Type 0 = λ l. Say SaysNumber l ls in subst P same said

pub with_sign : (line rest : Line) (ls : List ℕ)
    → words_of line ≡ codes "f" ∷ codes "|" ∷ words_of rest → SaysNumbers rest ls
    → SaysLiterals line ls
with_sign line rest ls cut said =
    (words_of rest, cut, said, some_numbers (words_of rest) ls (pieces_some 32 rest) said)

pub literals_said : (line rest : Line) (b : Bool)
    → words_of line ≡ codes "f" ∷ codes "|" ∷ words_of rest → IsTrue b ↔ Speaks SaysNumbers rest
    → IsTrue b ↔ Speaks SaysLiterals line
literals_said line rest b cut is = (
  λ yes. let (ls, said) = is.0 yes in (ls, with_sign line rest ls cut said),
  λ (ls, says). is.1 (ls, behind_sign line rest ls cut says),
)

-- ---- facts of either sort

pub simple_fact : (clauses : Bool) (line : Line) (fact : Fact) → SaysSimple line fact
    → SaysFact clauses line fact
simple_fact clauses line (Zero a) says = says
simple_fact clauses line (One a) says = says
simple_fact clauses line (Same a b) says = says
simple_fact clauses line (Differ a b) says = says
simple_fact clauses line (AnyOf ls) says = absurd says

pub known_fact : (clauses : Bool) (line : Line) (fact : Fact) → SaysSimple line fact
    → IsTrue true ↔ Speaks (SaysFact clauses) line
known_fact clauses line fact says =
    (λ yes. (fact, simple_fact clauses line fact says), λ speaks. refl)

-- a fact that is a clause, where the line says no other one
pub fact_literals : (clauses : Bool) (line : Line) (fact : Fact) → ¬ Speaks SaysSimple line
    → SaysFact clauses line fact
    → (ls : List ℕ) × (fact ≡ AnyOf ls) × IsTrue clauses × SaysLiterals line ls
fact_literals clauses line (Zero a) none says = absurd (none (Zero a, says))
fact_literals clauses line (One a) none says = absurd (none (One a, says))
fact_literals clauses line (Same a b) none says = absurd (none (Same a b, says))
fact_literals clauses line (Differ a b) none says = absurd (none (Differ a b, says))
fact_literals clauses line (AnyOf ls) none (taken, says) = (ls, refl, taken, says)

pub clause_said : (clauses b : Bool) (line : Line) → ¬ Speaks SaysSimple line
    → IsTrue b ↔ (IsTrue clauses × Speaks SaysLiterals line)
    → IsTrue b ↔ Speaks (SaysFact clauses) line
clause_said clauses b line none is = (
  λ yes. let (taken, (ls, says)) = is.0 yes in (AnyOf ls, (taken, says)),
  λ (fact, says).
      let (ls, same, taken, literals) = fact_literals clauses line fact none says in
      is.1 (taken, (ls, literals)),
)

-- The fact about one latch or two that a line says.
use Rattle.std.specs.Prelude.{◌≡◌, List, ◌∷◌, ℕ, codes, Option, Some, None}
use denote.Ref.{Bor}
use Rattle.cnf_frames.specs.declared.facts.Fact.{Fact}
use Rattle.cnf_frames.specs.declared.facts.Fact.TheVariants as fact
use Rattle.cert_text.specs.declared.fact_line.FactLine.{FactLine}
use Rattle.cert_text.specs.declared.fact_line.FactLine.TheVariants.{Zero, One, Same, Differ}
use Rattle.cert_text.specs.Lines.{Line, words_of, Speaks}
use Rattle.cert_text.specs.InductionLines.{SaysSimple, SaysLiterals}

abbrev pub fact_of : FactLine → Fact
fact_of (Zero a) = fact.Zero a
fact_of (One a) = fact.One a
fact_of (Same a b) = fact.Same a b
fact_of (Differ a b) = fact.Differ a b

-- The line says this fact about one latch or two; or it says none.
abbrev pub IsFactRead : Line → Option FactLine → Type 0
IsFactRead line None = ¬ Speaks SaysSimple line
IsFactRead line (Some said) = SaysSimple line (fact_of said)

-- The line begins as that of a clause, and this is what stands behind its sign; or it says no clause.
abbrev pub AreLiteralsFound : Line → Option (Bor (List ℕ)) → Type 0
AreLiteralsFound line None = ¬ Speaks SaysLiterals line
AreLiteralsFound line (Some rest) = words_of line ≡ codes "f" ∷ codes "|" ∷ words_of rest.now

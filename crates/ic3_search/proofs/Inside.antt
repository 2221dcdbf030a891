-- The latches of clauses are there.
use Rattle.std.proofs.Common.{ℕ, List, arith}
use Rattle.std.specs.List.{All}
use Rattle.std.proofs.lemmas.List.Elements.{All-contains, All-from_get_or}
use Rattle.aig_net.specs.Nets.{Below}
use Rattle.cnf_frames.specs.declared.facts.Fact.{Fact}
use Rattle.cnf_frames.specs.declared.facts.Fact.TheVariants.{Zero, One, Same, Differ, AnyOf}
use Rattle.cnf_frames.specs.Facts.{AllIn, IsIn}
use Rattle.ic3_search.specs.LatchClauses.{IsLatchFact}

fact-inside : (latches : ℕ) (fact : Fact) → IsLatchFact latches fact → IsIn latches fact
fact-inside latches (AnyOf clause) is =
    let (i, lt, odd) = is.starts in
    (omega (arith, lt), All-from_get_or (Below latches) clause 0 is.inside)
fact-inside latches (Zero a) is = absurd is
fact-inside latches (One a) is = absurd is
fact-inside latches (Same a b) is = absurd is
fact-inside latches (Differ a b) is = absurd is

pub facts-inside : (latches : ℕ) (facts : List Fact) → All (IsLatchFact latches) facts →
    AllIn latches facts
facts-inside latches facts all f has =
    fact-inside latches f (All-contains (IsLatchFact latches) facts f all has)

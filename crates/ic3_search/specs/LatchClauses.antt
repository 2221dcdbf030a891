-- Clauses over latches: literal 2A says that latch A is 1, and 2A + 1 that it is 0.
use Rattle.std.specs.Prelude.{◌≡◌, ℕ, suc, ◌/◌, ◌%◌, ◌<◌, List, length, slice_index}
use Rattle.cnf_frames.specs.declared.facts.Fact.{Fact}
use Rattle.cnf_frames.specs.declared.facts.Fact.TheVariants.{AnyOf}

-- Its latches are below a number and ascend, each stands once, and some literal is true where all are 0.
pub record IsLatchClause (latches : ℕ) (clause : List ℕ) : Type 0 where
  pub inside : (i : ℕ) → i < length clause → slice_index clause i / 2 < latches
  pub ascending : (i : ℕ) → suc i < length clause →
      slice_index clause i / 2 < slice_index clause (suc i) / 2
  pub starts : (i : ℕ) × (i < length clause) × (slice_index clause i % 2 ≡ 1)

-- The fact is such a clause.
abbrev pub IsLatchFact : ℕ → Fact → Type 0
IsLatchFact latches (AnyOf clause) = IsLatchClause latches clause
IsLatchFact latches _ = ⊥

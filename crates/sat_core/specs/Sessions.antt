-- A session: what an ask does, and what it answers.
use Rattle.std.specs.Prelude.{◌≡◌, ℕ, ◌<◌, ◌⊎◌, Bool, true, false, ℤ, pos, neg_ℤ, List, ◌∷◌, ◌++◌, [], length, Contains, take, slice_index, slice_index_or}
use Rattle.chain_check.specs.Clauses.{Clause, IsLiteral, IsMadeTrue, SatisfiesAll, IsSubset}
use Rattle.sat_core.specs.declared.solver.Solver.{Solver}
use Rattle.sat_core.specs.declared.solving.Search.{Search}
use Rattle.sat_core.specs.declared.asking.Reply.{Reply}
use Rattle.sat_core.specs.declared.asking.Reply.TheVariants.{Values, Core, Spent}
use Rattle.sat_core.specs.declared.asking.Step.{Step}
use Rattle.sat_core.specs.declared.asking.Step.TheVariants.{Decided, Full, False}
use Rattle.sat_core.specs.Searches.{IsSound}

-- behind the old clauses stand new ones, which follow from them
pub record IsLearned (old new : List Clause) : Type 0 where
  pub longer : (more : List Clause) × (new ≡ old ++ more)
  pub followed : (values : List Bool) → SatisfiesAll values old → SatisfiesAll values new

-- no values make the clauses and all these literals true
abbrev pub Excludes : List Clause → List ℤ → Type 0
Excludes clauses literals = (values : List Bool) → SatisfiesAll values clauses →
    ¬ ((l : ℤ) → Contains literals l → IsMadeTrue values l)

abbrev pub IsReply : ℕ → List Clause → List ℤ → Reply → Type 0
IsReply variables clauses assumptions (Values values) = (length values ≡ variables) ×
    SatisfiesAll values clauses × ((l : ℤ) → Contains assumptions l → IsMadeTrue values l)
IsReply variables clauses assumptions (Core core) = IsSubset core assumptions ×
    Excludes clauses core
IsReply variables clauses assumptions Spent = Unit {0}

-- the first n of the assumptions are true
abbrev pub AreFirstTrue : List ℤ → List ℤ → ℕ → Type 0
AreFirstTrue trues assumptions n = (i : ℕ) → i < n →
    Contains trues (slice_index_or assumptions i (pos 0))

abbrev pub AreAllTrue : List ℤ → List ℤ → Type 0
AreAllTrue trues assumptions = (l : ℤ) → Contains assumptions l → Contains trues l

-- no literal is open
abbrev pub IsFull : Search → Type 0
IsFull s = (l : ℤ) → IsLiteral s.solver.partial.variables l →
    Contains s.solver.partial.literals l ⊎ Contains s.solver.partial.literals (neg_ℤ l)

-- The literal was decided: it is one of the assumptions, or these were all true.
pub record IsDecided (old new : Search) (assumptions : List ℤ) (l : ℤ) : Type 0 where
  pub sound : IsSound new
  pub clauses : new.solver.clauses ≡ old.solver.clauses
  pub limits : new.solver.limits.items
      ≡ old.solver.limits.items ++ length old.solver.partial.literals ∷ []
  pub pushed : new.solver.partial ≡ record old.solver.partial
      { literals = old.solver.partial.literals ++ l ∷ [] }
  pub assumed : Contains assumptions l ⊎ AreAllTrue old.solver.partial.literals assumptions

-- what a step does to a search where the clauses say no more
abbrev pub IsStepOf : Search → Search → List ℤ → Step → Type 0
IsStepOf old new assumptions Decided = (l : ℤ) × IsDecided old new assumptions l
IsStepOf old new assumptions Full = IsSound new × (new.solver ≡ old.solver) × IsFull new ×
    AreAllTrue new.solver.partial.literals assumptions
IsStepOf old new assumptions (False l) = IsSound new × (new.solver ≡ old.solver) ×
    Contains assumptions l × Contains new.solver.partial.literals (neg_ℤ l)

-- what makes the clauses, the marked places below p and all marked decisions true, makes l true
abbrev pub IsTraced : Solver → List Bool → ℕ → ℤ → Type 0
IsTraced s seen p l = (values : List Bool) → SatisfiesAll values s.clauses →
    ((i : ℕ) → i < length s.partial.literals → slice_index_or seen i false ≡ true →
    (i < p) ⊎ (slice_index s.reasons.items i ≡ 0) →
    IsMadeTrue values (slice_index_or s.partial.literals i (pos 0))) → IsMadeTrue values l

-- all decisions are assumptions
abbrev pub AreDecided : Solver → List ℤ → Type 0
AreDecided s assumptions = (q : ℕ) → q < length s.limits.items →
    Contains assumptions (slice_index_or s.partial.literals (slice_index s.limits.items q) (pos 0))

-- each decision is one of the assumptions, or was made when all of them were true
abbrev pub AreAssumed : Solver → List ℤ → Type 0
AreAssumed s assumptions = (q : ℕ) → q < length s.limits.items →
    Contains assumptions (slice_index_or s.partial.literals (slice_index s.limits.items q) (pos 0))
    ⊎ AreAllTrue (take (slice_index s.limits.items q) s.partial.literals) assumptions

-- the reply says that the clauses can't be true
abbrev pub IsRefutation : Reply → Type 0
IsRefutation (Values values) = ⊥
IsRefutation (Core core) = core ≡ []
IsRefutation Spent = ⊥

-- Which words ask which question. A question is asked of files of these names, in the order in which they are read.
use Rattle.std.specs.Prelude.{◌≡◌, ◌<◌, ◌≤◌, ◌^◌, ◌-◌, ℕ, Bool, false, List, [], ◌∷◌, ◌++◌, codes, decimal}
use Rattle.bound_search.specs.declared.bound.Bound.{Bound}
use Rattle.bound_search.specs.Bounds.{IsBound}
use Rattle.hy_words.specs.Found.{Tells}
use Rattle.hy_words.specs.Numbers.{AreConflicts, IsNumber, IsNumberOr}
use Rattle.hy_words.specs.declared.found.Found.{Found}
use Rattle.hy_words.specs.Words.{Text, Syntax, Item, AreItems, AreMissing, files_in, given_in, is_given}
use Rattle.ea_tool.specs.declared.verdict.Engine.{Engine}
use Rattle.ea_tool.specs.declared.verdict.Engine.TheVariants.{Branches, Circuit}
use Rattle.ea_tool.specs.declared.verdict.Question.{Question}
use Rattle.ea_tool.specs.declared.verdict.Question.TheVariants.{Judge, Decide, Relate, Find}
use Rattle.ea_tool.specs.declared.verdict.Relation.TheVariants.{Implication, Equivalence}

-- the names of flags and options
abbrev pub ea_syntax : Syntax
ea_syntax = record {
  flags = codes "proof" ∷ [];
  options = codes "on" ∷ codes "implies" ∷ codes "equivalent" ∷ codes "states" ∷ codes "bound" ∷ codes "conflicts"
      ∷ codes "ic3" ∷ codes "depth" ∷ [];
}

-- What the option is given is a number of states of a decision, from 1 to 4,194,304; or it is 100,000.
abbrev pub AreStates : List Text → ℕ → Type 0
AreStates given n = IsNumberOr 100000 given 1 4194304 n

-- What the option is given is a number of calls of the solver, from 1 to 1,000,000.
abbrev pub AreCalls : List Text → ℕ → Type 0
AreCalls [] n = ⊥
AreCalls (value ∷ _) n = IsNumber value 1 1000000 n

-- What the option is given is a number of steps, from 0 to 100,000; or it is 10.
abbrev pub IsDepth : List Text → ℕ → Type 0
IsDepth given n = IsNumberOr 10 given 0 100000 n

-- The items ask for this engine, and give nothing that goes with the other.
abbrev pub IsEngine : List Item → Engine → Type 0
IsEngine items (Branches states) =
    AreStates (given_in (codes "states") items) states × AreMissing (codes "ic3" ∷ codes "depth" ∷ codes "conflicts" ∷ []) items
IsEngine items (Circuit ask) =
    AreCalls (given_in (codes "ic3") items) ask.calls × IsDepth (given_in (codes "depth") items) ask.depth
    × AreConflicts (given_in (codes "conflicts") items) ask.conflicts × (ask.plain ≡ false)
    × AreMissing (codes "states" ∷ []) items

-- the numbers that an engine is asked with
abbrev pub IsInRange : Engine → Type 0
IsInRange (Branches states) = states < 2 ^ 32 - 1
IsInRange (Circuit ask) = (ask.depth ≤ 100000) × (ask.conflicts < 2 ^ 31)

-- a bound as it is given: the most lassos, letters of a stem and letters of a cycle, joined by commas
abbrev pub bound_text : Bound → Text
bound_text bound = decimal bound.traces ++ codes "," ++ decimal bound.stem ++ codes "," ++ decimal bound.cycle

-- The items ask a question about one formula, with these values of the options that choose the question, by this engine
-- and with this flag; no bound is given.
pub record Asks (items : List Item) (formula : Text) (lassos implied equal : List Text) (engine : Engine) (proof : Bool) : Type 0 where
  pub files : files_in items ≡ formula ∷ []
  pub on : given_in (codes "on") items ≡ lassos
  pub implies : given_in (codes "implies") items ≡ implied
  pub equivalent : given_in (codes "equivalent") items ≡ equal
  pub by : IsEngine items engine
  pub proves : proof ≡ is_given (given_in (codes "proof") items)
  pub unbounded : AreMissing (codes "bound" ∷ []) items

-- The items ask for a list of lassos within this bound, with this budget, and for nothing else: neither another
-- question, nor what goes with one.
pub record Finds (items : List Item) (formula : Text) (bound : Bound) (conflicts : ℕ) : Type 0 where
  pub files : files_in items ≡ formula ∷ []
  pub bounded : given_in (codes "bound") items ≡ bound_text bound ∷ []
  pub range : IsBound bound
  pub budget : AreConflicts (given_in (codes "conflicts") items) conflicts
  pub alone : AreMissing (codes "on" ∷ codes "implies" ∷ codes "equivalent" ∷ codes "states" ∷ codes "proof" ∷ codes "ic3"
      ∷ codes "depth" ∷ []) items

-- The items ask this of files of these names.
abbrev pub Orders : List Item → Question → List Text → Type 0
Orders items Judge (formula ∷ lassos ∷ []) =
    (states : ℕ) × (proof : Bool) × Asks items formula (lassos ∷ []) [] [] (Branches states) proof
Orders items (Decide engine proof) (formula ∷ []) = Asks items formula [] [] [] engine proof
Orders items (Relate Implication engine proof) (first ∷ second ∷ []) = Asks items first [] (second ∷ []) [] engine proof
Orders items (Relate Equivalence engine proof) (first ∷ second ∷ []) = Asks items first [] [] (second ∷ []) engine proof
Orders items (Find bound conflicts) (formula ∷ []) = Finds items formula bound conflicts
Orders _ _ _ = ⊥

-- The words ask this of files of these names.
abbrev pub AsksFor : List Text → Question → List Text → Type 0
AsksFor words question files = (items : List Item) × AreItems ea_syntax words items × Orders items question files

-- Items that tell what was found in words ask this of files of these names; or whatever tells it asks nothing.
abbrev pub TellsOrder : Found → Question → List Text → Type 0
TellsOrder found question files = (items : List Item) → Tells ea_syntax items found → Orders items question files

abbrev pub TellsNothing : Found → Type 0
TellsNothing found =
    (items : List Item) (question : Question) (files : List Text) → Tells ea_syntax items found → ¬ Orders items question files

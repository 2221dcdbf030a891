-- Which words ask which question of which files.
use Rattle.std.specs.Prelude.{◌≡◌, ◌==◌, ℕ, Bool, true, false, if◌then◌else◌, List, [], ◌∷◌, codes}
use Rattle.mc_core.specs.declared.ask.Ask.{Ask}
use Rattle.hy_words.specs.Numbers.{IsNumberOr, AreConflicts}
use Rattle.hy_words.specs.Words.{Text, Syntax, Item, AreItems, files_in, given_in, is_given}
use Rattle.mc_tool.specs.declared.verdict.Question.{Question}
use Rattle.mc_tool.specs.declared.verdict.Question.TheVariants.{Check, CheckByStrategy}

abbrev pub mc_syntax : Syntax
mc_syntax = record {
  flags = codes "plain" ∷ codes "proof" ∷ [];
  options = codes "depth" ∷ codes "conflicts" ∷ codes "ic3" ∷ codes "strategy" ∷ [];
}

-- What the option is given is a number of calls of the solver in a search for clauses, from 1 to 1,000,000; or there is no
-- such search, and it is 0.
abbrev pub AreCalls : List Text → ℕ → Type 0
AreCalls given n = IsNumberOr 0 given 1 1000000 n

-- the depth where none is given: 64, and 10 beside a search for clauses
abbrev pub usual_depth : ℕ → ℕ
usual_depth calls = if calls == 0 then 64 else 10

-- What the option is given is a depth, from 0 to 100,000; or it is the usual one beside so many calls.
abbrev pub IsDepth : ℕ → List Text → ℕ → Type 0
IsDepth calls given n = IsNumberOr (usual_depth calls) given 0 100000 n

-- The items ask for so much to be tried; without facts there is no search for clauses.
pub record IsAsk (items : List Item) (ask : Ask) : Type 0 where
  pub seeks : AreCalls (given_in (codes "ic3") items) ask.calls
  pub deep : IsDepth ask.calls (given_in (codes "depth") items) ask.depth
  pub budget : AreConflicts (given_in (codes "conflicts") items) ask.conflicts
  pub bare : ask.plain ≡ is_given (given_in (codes "plain") items)
  pub apart : ask.plain ≡ true → ask.calls ≡ 0

-- The items ask for a check of a circuit: these are the files, and the strategy, if any.
pub record Checks (items : List Item) (circuit formula : Text) (strategy : List Text) (ask : Ask) (proof : Bool) : Type 0 where
  pub files : files_in items ≡ circuit ∷ formula ∷ []
  pub by : given_in (codes "strategy") items ≡ strategy
  pub tries : IsAsk items ask
  pub proves : proof ≡ is_given (given_in (codes "proof") items)

-- The items ask this of files of these names, in the order in which they are read.
abbrev pub Orders : List Item → Question → List Text → Type 0
Orders items (Check ask proof) (circuit ∷ formula ∷ []) = Checks items circuit formula [] ask proof
Orders items (CheckByStrategy ask) (circuit ∷ formula ∷ strategy ∷ []) =
    Checks items circuit formula (strategy ∷ []) ask false
Orders items _ _ = ⊥

-- The words ask this of files of these names.
abbrev pub Asks : List Text → Question → List Text → Type 0
Asks words question files = (items : List Item) × AreItems mc_syntax words items × Orders items question files

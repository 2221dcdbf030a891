-- How far a generator is.
use Rattle.std.specs.Prelude.{◌≡◌, ℕ, List}
use Rattle.made_traces.specs.declared.generator.Generator.{Generator}
use Rattle.made_traces.specs.MadeTraces.{number, both_signals}

-- The generator has made k letters for this table.
pub record HasMade (table : List (List ℕ)) (k : ℕ) (generator : Generator) : Type 0 where
  pub last : generator.last ≡ number k
  pub both : generator.both ≡ both_signals table

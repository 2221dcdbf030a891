-- How large a query is, by the sizes of the formula and of the bound.
use Rattle.std.specs.Prelude.{◌≡◌, ◌<◌, ◌≤◌, ℕ, zero, suc, ◌+◌, ◌-◌, ◌*◌, ◌^◌, List, length, min}
use Rattle.hy_formula.specs.Trees.{Tree}
use Rattle.hy_formula.specs.declared.prefix.Quant.{Quant}
use Rattle.hy_base.specs.declared.limit.Kind.{Kind}
use Rattle.hy_base.specs.declared.limit.Kind.TheVariants.{CnfVariables, CnfLiterals}
use Rattle.hy_base.specs.Limits.{most}
use Rattle.chain_check.specs.FewClauses.{literals_in}
use Rattle.bound_search.specs.declared.bound_error.BoundError.{BoundError}
use Rattle.bound_search.specs.declared.bound_error.BoundError.TheVariants.{Limit, Memory}
use Rattle.bound_search.specs.declared.bound.Bound.{Bound}
use Rattle.bound_search.specs.declared.counting.Counted.{Counted}
use Rattle.bound_search.specs.declared.counting.Counter.{Counter}
use Rattle.bound_search.specs.Names.{names_of}
use Rattle.bound_search.specs.Shapes.{shape_of, nodes}
use Rattle.bound_search.specs.Sheets.{first_gates}
use Rattle.bound_search.specs.Choices.{chosen_gates}
use Rattle.bound_search.specs.Queries.{round, places, first_gate, clauses_of, variables_of}

-- how many gates there are
abbrev pub query_gates : Bound → List Quant → Tree → ℕ
query_gates bound prefix body =
    first_gates bound.traces (places bound) (round bound) (shape_of body)
    + chosen_gates bound.traces 0 (length prefix)

abbrev pub query_variables : Bound → List Quant → Tree → ℕ
query_variables bound prefix body =
    first_gate (names_of body) bound + query_gates bound prefix body

-- the sum of the numbers of 0 to n - 1
abbrev pub sum_for : (ℕ → ℕ) → ℕ → ℕ
sum_for f zero = 0
sum_for f (suc n) = sum_for f n + f n

-- how many literals the clauses of a member have, where there are so many names
abbrev pub member_literals : ℕ → Bound → ℕ
member_literals names bound =
    bound.cycle + sum_for (λ d. names * ((round bound - suc d) * 6)) bound.cycle

abbrev pub query_literals : Bound → List Quant → Tree → ℕ
query_literals bound prefix body =
    2 + bound.traces * member_literals (length (names_of body)) bound
    + 7 * query_gates bound prefix body

-- Gates are counted up to this number, which is past the limit on variables.
abbrev pub most_gates : ℕ
most_gates = 4294967296

-- what code counts by
pub record IsCounter (counter : Counter) : Type 0 where
  pub some_traces : 0 < counter.traces
  pub few_traces : counter.traces ≤ 4
  pub few_places : counter.places ≤ 20
  pub short_round : counter.round ≤ 12

-- These are the variables, and there are so many gates, or more than are counted.
pub record IsCounted (own : List ℕ) (all : ℕ) (counted : Counted) : Type 0 where
  pub variables : counted.variables ≡ own
  pub gates : counted.gates ≡ min all most_gates

-- More than that it never has, of either.
abbrev pub most_of_query : Bound → List Quant → Tree → ℕ
most_of_query bound prefix body =
    64 * (bound.traces ^ length prefix + bound.traces) * places bound
    * (nodes (shape_of body) + length (names_of body) + length prefix + bound.cycle)

-- Which of two counts is past its limit; variables come first.
abbrev pub IsPastBy : ℕ → ℕ → Kind → Type 0
IsPastBy variables literals CnfVariables = most CnfVariables < variables
IsPastBy variables literals CnfLiterals =
    (variables ≤ most CnfVariables) × (most CnfLiterals < literals)
IsPastBy variables literals _ = ⊥

-- why there is no query of so many variables and literals; want of memory needs no cause
abbrev pub IsRefusalBy : ℕ → ℕ → BoundError → Type 0
IsRefusalBy variables literals (Limit limit) =
    IsPastBy variables literals limit.kind × (limit.limit ≡ most limit.kind)
IsRefusalBy variables literals Memory = Unit {0}

-- why there is no query
abbrev pub IsRefusal : Bound → List Quant → Tree → BoundError → Type 0
IsRefusal bound prefix body e =
    IsRefusalBy (variables_of bound prefix body) (literals_in (clauses_of bound prefix body)) e

-- Both counts are within their limits.
pub record IsTaken (variables literals : ℕ) : Type 0 where
  pub few_variables : variables ≤ most CnfVariables
  pub few_literals : literals ≤ most CnfLiterals

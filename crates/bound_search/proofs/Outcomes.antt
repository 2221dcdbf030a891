-- What the outcome of a search says of the lists within a bound.
use Rattle.std.proofs.Common.{◌≡◌, ℕ, Bool, true, List, length, subst}
use Rattle.hy_formula.specs.Trees.{Tree, vars_below}
use Rattle.hy_formula.specs.declared.prefix.Quant.{Quant}
use Rattle.chain_check.specs.declared.logs.Learned.{Learned}
use Rattle.chain_check.specs.Clauses.{Clause, SatisfiesAll}
use Rattle.sat_core.specs.declared.solving.Outcome.{Outcome}
use Rattle.sat_core.specs.declared.solving.Outcome.TheVariants as outcomes
use Rattle.sat_core.specs.Outcomes.{IsOutcome}
use Rattle.bound_search.specs.declared.bound.Bound.{Bound}
use Rattle.bound_search.specs.declared.search.BoundAnswer.TheVariants.{NoneWithin, Spent}
use Rattle.bound_search.specs.Bounds.{IsBound}
use Rattle.bound_search.specs.Queries.{clauses_of, variables_of}
use Rattle.bound_search.specs.Searches.{Answers}
use Rattle.bound_search.proofs.Assigning.{none-within}

module _ (bound : Bound) (ok : IsBound bound) (prefix : List Quant) (body : Tree)
    (known : vars_below (length prefix) body ≡ true) (conflicts n : ℕ) (clauses : List Clause)
    (many : n ≡ variables_of bound prefix body)
    (are : clauses ≡ clauses_of bound prefix body) where
  -- an outcome of the query
  own-outcome : (o : Outcome) → IsOutcome n clauses conflicts o →
      IsOutcome (variables_of bound prefix body) (clauses_of bound prefix body) conflicts o
  own-outcome o h =
      let P : ℕ → Type 0 = λ m. IsOutcome m (clauses_of bound prefix body) conflicts o in
      let Q : List Clause → Type 0 = λ cs. IsOutcome n cs conflicts o in
      subst P many (subst Q are h)

  pub satisfied_query : (o : Outcome) (values : List Bool) → o ≡ outcomes.Satisfied values →
      IsOutcome n clauses conflicts o → SatisfiesAll values (clauses_of bound prefix body)
  satisfied_query o values is h =
      let P : Outcome → Type 0 = λ x. IsOutcome (variables_of bound prefix body)
      (clauses_of bound prefix body) conflicts x in
      (subst P is (own-outcome o h)).1

  pub refuted_query : (o : Outcome) (log : List Learned) → o ≡ outcomes.Refuted log →
      IsOutcome n clauses conflicts o → Answers bound prefix body conflicts (NoneWithin log)
  refuted_query o log is h =
      let P : Outcome → Type 0 = λ x. IsOutcome (variables_of bound prefix body)
      (clauses_of bound prefix body) conflicts x in
      let (passes, ends) = subst P is (own-outcome o h) in (
        record { passes = passes; ends = ends },
        none-within bound prefix body ok known log (record { passes = passes; ends = ends }),
      )

  pub spent_query : (o : Outcome) (log : List Learned) → o ≡ outcomes.Spent log →
      IsOutcome n clauses conflicts o → Answers bound prefix body conflicts (Spent log)
  spent_query o log is h =
      let P : Outcome → Type 0 = λ x. IsOutcome (variables_of bound prefix body)
      (clauses_of bound prefix body) conflicts x in
      subst P is (own-outcome o h)

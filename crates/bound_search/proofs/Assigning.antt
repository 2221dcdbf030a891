-- The answers of a query, as lists of values.
use Rattle.std.proofs.Common.{◌≡◌, ℕ, Bool, true, List, length, [], ◌∷◌, subst, sym}
use Rattle.std.specs.Prelude.{ℤ}
use Rattle.std.specs.List.{Contains}
use Rattle.std.proofs.lemmas.List.{map-append}
use Rattle.std.proofs.lemmas.List.Elements.{Contains-append_right}
use Rattle.hy_base.proofs.Members.{contains-here}
use Rattle.hy_bits.specs.Letter.{Letter}
use Rattle.hy_formula.specs.Lassos.{Lasso}
use Rattle.hy_formula.specs.Trees.{Tree, vars_below}
use Rattle.hy_formula.specs.declared.prefix.Quant.{Quant}
use Rattle.hy_base.specs.Rows.{row, listed}
use Rattle.hy_base.proofs.Listed.{length-listed}
use Rattle.chain_check.specs.declared.logs.Learned.{Learned}
use Rattle.chain_check.specs.Clauses.{SatisfiesAll}
use Rattle.chain_check.specs.Logs.{clauses_of as clauses_of_log, EndsEmpty, IsRefutation}
use Rattle.chain_check.proofs.Passing.{unsatisfied}
use Rattle.chain_check.proofs.Values.{satisfied-met, listed-met}
use Rattle.bound_search.specs.declared.bound.Bound.{Bound}
use Rattle.bound_search.specs.Bounds.{IsBound, IsWithin}
use Rattle.bound_search.specs.Queries.{clauses_of, variables_of}
use Rattle.bound_search.proofs.Answering.{answers}
use Rattle.bound_search.proofs.Ranges.{clauses-right}

-- a log that ends in the empty clause has it
empty-there : (log : List Learned) → EndsEmpty log → Contains (clauses_of_log log) []
empty-there log ends =
    let C : List ℤ → Type 0 = Contains (clauses_of_log log) in
    let P : List Learned → Type 0 = λ l. Contains (clauses_of_log l) ends.last.clause in
    let there = Contains-append_right (clauses_of_log ends.front) (ends.last.clause ∷ [])
    ends.last.clause (contains-here ends.last.clause []) in
    let Q : List (List ℤ) → Type 0 = λ l. Contains l ends.last.clause in
    subst C ends.empty (subst P (sym ends.parts)
    (subst Q (sym (map-append (λ e. e.clause) ends.front (ends.last ∷ []))) there))

module _ (bound : Bound) (prefix : List Quant) (body : Tree) (ok : IsBound bound)
    (known : vars_below (length prefix) body ≡ true) where
  pub list-from : (values : List Bool) → SatisfiesAll values (clauses_of bound prefix body) →
      (list : List (Lasso Letter)) × IsWithin bound prefix body list
  list-from values h =
      (answers bound ok prefix body known).0 (row values, satisfied-met values _ h)

  pub assignment-from : (list : List (Lasso Letter)) → IsWithin bound prefix body list →
      (values : List Bool) × (length values ≡ variables_of bound prefix body)
      × SatisfiesAll values (clauses_of bound prefix body)
  assignment-from list within =
      let n : ℕ = variables_of bound prefix body in
      let (a, met) = (answers bound ok prefix body known).1 (list, within) in (
        listed 0 n a,
        length-listed 0 n a,
        listed-met n a _ (clauses-right bound ok prefix body known) met,
      )

  -- No list is within the bound where the query is refuted.
  pub none-within : (log : List Learned) →
      IsRefutation (variables_of bound prefix body) (clauses_of bound prefix body) log →
      (list : List (Lasso Letter)) → ¬ IsWithin bound prefix body list
  none-within log r list within =
      let (values, _, met) = assignment-from list within in
      unsatisfied _ _ log values (clauses-right bound ok prefix body known) r.passes
      (empty-there log r.ends) met

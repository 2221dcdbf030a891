-- What is answered for a formula and a bound on the lists of lassos that may satisfy it.
use Rattle.std.specs.Prelude.{ℕ, List, Ok, Err}
use Rattle.hy_base.specs.declared.limit.Limit.{Limit as Past}
use Rattle.hy_bits.specs.Letter.{Letter}
use Rattle.hy_formula.specs.Formulas.{Plain}
use Rattle.hy_formula.specs.Lassos.{Lasso}
use Rattle.chain_check.specs.FewClauses.{literals_in}
use Rattle.chain_check.specs.declared.logs.Learned.{Learned}
use Rattle.bound_search.specs.Queries.{clauses_of, variables_of}
use Rattle.bound_search.specs.Searches.{Answers}
use Rattle.bound_search.specs.Sizes.{IsRefusal, IsTaken}
use Rattle.bound_search.specs.declared.bound.Bound.{Bound}
use Rattle.bound_search.specs.declared.bound_error.BoundError.{BoundError}
use Rattle.bound_search.specs.declared.bound_error.BoundError.TheVariants as errors
use Rattle.bound_search.specs.declared.search.BoundAnswer.TheVariants as found
use Rattle.hy_run.specs.Runs.{Answer}
use Rattle.hy_run.specs.declared.refusal.Refusal.{Refusal}
use Rattle.hy_run.specs.declared.refusal.Refusal.TheVariants.{Limit, Memory}
use Rattle.ea_tool.specs.declared.verdict.EaFault.{EaFault}
use Rattle.ea_tool.specs.declared.verdict.EaVerdict.{EaVerdict}
use Rattle.ea_tool.specs.declared.verdict.EaVerdict.TheVariants.{Sat, NoneWithin, Spent}

-- The question about the formula has no more variables and literals than are taken.
abbrev pub IsAdmitted : Bound → Plain → Type 0
IsAdmitted bound f = IsTaken (variables_of bound f.prefix f.body) (literals_in (clauses_of bound f.prefix f.body))

-- What a search comes to. A list within the bound satisfies the formula; or none does, which a log shows; or a log has as
-- many new clauses as were allowed. Where the question has more variables or literals than are taken, that alone is
-- answered; or memory ran out.
pub data IsSearch (bound : Bound) (conflicts : ℕ) (f : Plain) : Answer EaVerdict EaFault → Type 0 where
  within : (list : List (Lasso Letter)) → IsAdmitted bound f → Answers bound f.prefix f.body conflicts (found.Found list)
      → IsSearch bound conflicts f (Ok (Sat list))
  none : (log : List Learned) → IsAdmitted bound f → Answers bound f.prefix f.body conflicts (found.NoneWithin log)
      → IsSearch bound conflicts f (Ok (NoneWithin log))
  undecided : (log : List Learned) → IsAdmitted bound f → Answers bound f.prefix f.body conflicts (found.Spent log)
      → IsSearch bound conflicts f (Ok (Spent conflicts log))
  too_large : (limit : Past) → IsRefusal bound f.prefix f.body (errors.Limit limit)
      → IsSearch bound conflicts f (Err (Limit limit.kind limit.limit))
  spent : IsSearch bound conflicts f (Err Memory)

-- how an error of a search is answered
abbrev pub search_refusal : BoundError → Refusal EaFault
search_refusal (errors.Limit limit) = Limit limit.kind limit.limit
search_refusal errors.Memory = Memory

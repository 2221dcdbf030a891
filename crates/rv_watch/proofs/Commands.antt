-- How a command comes to its answer, by its formulas and by what a watch of standard input comes to.
use Rattle.std.proofs.Common.{◌≡◌, List, [], Err, map, subst, ◌∙◌}
use Rattle.hy_base.specs.declared.shelf.Shelf.{Ghosts}
use Rattle.hy_formula.specs.Formulas.{plain_formulas}
use Rattle.hy_formula.specs.declared.formula.Formula.{Formula}
use Rattle.fin_monitor.specs.Limits.{IsTaken}
use Rattle.rv_core.specs.Built.{EachBody, IsNewRefusal, spec_of_formula}
use Rattle.rv_core.specs.Built.{AreUniversal as AllUniversal}
use Rattle.rv_core.specs.Endings.{Spec}
use Rattle.rv_core.specs.declared.rv_error.RvNewError.{RvNewError}
use Rattle.rv_core.specs.declared.rv_error.RvNewError.TheVariants.{Prefix, Limit, Memory}
use Rattle.hy_run.specs.Names.{Text}
use Rattle.rv_tool.proofs.FirstSpecs.{are-too-large, are-universal, each-plain, first-untaken, specs-same}
use Rattle.rv_tool.specs.Refused.{new_refused}
use Rattle.rv_watch.specs.Courses.{WatchAnswer}
use Rattle.rv_watch.specs.Input.{Watches}
use Rattle.rv_watch.specs.Runs.{Follows, TakesSpecs, too_large, unmade, untaken, watched}
use Rattle.rv_watch.specs.declared.verdict.Question.{Question}

module _ {S : Type 0} (g : Ghosts S) (old mid : S) (q : Question) (file : Text) (formulas : List Formula) (names : List Text)
    (takes : TakesSpecs g old mid file (plain_formulas formulas) names) where
  -- The formulas are not monitored.
  pub unmonitored-follows : (error : RvNewError) → IsNewRefusal formulas error → Follows g old mid q file [] (Err (new_refused error))
  unmonitored-follows (Prefix spec class) first = untaken (plain_formulas formulas) names spec class takes (first-untaken formulas spec class first)
  unmonitored-follows (Limit kind) (universal, large) =
      too_large (plain_formulas formulas) names kind takes (are-universal formulas universal) (are-too-large formulas kind large)
  unmonitored-follows Memory free = unmade (plain_formulas formulas) names takes

  -- The formulas are monitored.
  pub monitored-follows : (new : S) (said : List Text) (answer : WatchAnswer) (specs : List Spec) → AllUniversal formulas → EachBody IsTaken formulas
      → specs ≡ map spec_of_formula formulas → Watches g mid q specs names new said answer → Follows g old new q file said answer
  monitored-follows new said answer specs universal small e watches =
      let P : List Spec → Type 0 = λ s. Watches g mid q s names new said answer in
      watched mid (plain_formulas formulas) names said answer takes (are-universal formulas universal) (each-plain IsTaken formulas small)
      (subst P (e ∙ specs-same formulas) watches)

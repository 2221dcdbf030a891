-- What is said of a component.
use Rattle.std.specs.Prelude.{◌≡◌, ℕ, List}
use Rattle.rank_check.specs.Graphs.{Shape}
use Rattle.fair_search.specs.declared.component.Verdict.{Verdict}
use Rattle.fair_search.specs.declared.component.Verdict.TheVariants.{Fair, Ends}
use Rattle.fair_search.specs.declared.pass.Pass.{Pass}
use Rattle.fair_search.specs.declared.pass.Next.{Next}
use Rattle.fair_search.specs.declared.pass.Next.TheVariants.{More, Over, Found}
use Rattle.fair_search.specs.Passing.{ExplainsAll, IsFairPart, Goes, IsOver, IsFairAt}

-- the verdict is right
abbrev pub Judges : Shape → List ℕ → Verdict → Type 0
Judges g nodes Fair = IsFairPart g nodes
Judges g nodes (Ends reason) = ExplainsAll g nodes reason

-- what a step of the pass says is right
abbrev pub Follows : Shape → Pass → Pass → ℕ → ℕ → Next → Type 0
Follows g old new before after More = Goes g old new before after
Follows g old new before after Over = IsOver g new × (after ≡ before) × (new ≡ old)
Follows g old new before after (Found start) = IsFairAt g new start × (after ≡ before) × (new ≡ old)

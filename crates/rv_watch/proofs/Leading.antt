-- Lines that are taken one after another, and lines that are written.
use Rattle.std.proofs.Common.{ℕ, List, [], ◌∷◌, ◌++◌, Option, refl, subst}
use Rattle.hy_base.specs.declared.sink.Sink.{Ghosts}
use Rattle.hy_files.specs.ErrorLines.{Received}
use Rattle.hy_finite.specs.declared.lengths.Lengths.{Lengths}
use Rattle.rv_core.specs.Endings.{Spec}
use Rattle.rv_watch.specs.Courses.{Course, Leads, Takes}
use Rattle.rv_watch.specs.Runs.{ReceivesAll}

module _ (lengths : Lengths) (specs : List Spec) (table : List (List ℕ)) (every : Option ℕ) where
  pub leads-more : (c mid next : Course) (lines : List (List ℕ)) (line : List ℕ) → Leads lengths specs table every c lines mid
      → Takes lengths specs table every mid line next → Leads lengths specs table every c (lines ++ line ∷ []) next
  leads-more c mid next [] line e takes =
      let P : Course → Type 0 = λ x. Takes lengths specs table every x line next in
      (next, subst P e takes, refl)
  leads-more c mid next (first ∷ lines) line (then, one, leads) takes =
      (then, one, leads-more then mid next lines line leads takes)

module _ {E : Type 0} (g : Ghosts E) where
  pub receives-more : (old mid new : E) (lines : List (List ℕ)) (line : List ℕ) → ReceivesAll g old mid lines
      → Received g mid new line → ReceivesAll g old new (lines ++ line ∷ [])
  receives-more old mid new [] line e got =
      let P : E → Type 0 = λ s. Received g s new line in
      (new, subst P e got, refl)
  receives-more old mid new (first ∷ lines) line (next, one, all) got =
      (next, one, receives-more next mid new lines line all got)
